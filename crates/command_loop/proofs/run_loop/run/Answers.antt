use Rattle.std.proofs.Common.{sym}
use Rattle.command_loop.proofs.InputLemmas.{on_err_at, on_ok_at}
use Rattle.command_loop.proofs.RunLemmas.{lines-served, lines-reading, lines-writing, no_words}
use Rattle.command_loop.proofs.RunLemmas.{words-served-at, words-stop-at}
use Rattle.command_loop.specs.Private.Progress.{RunState, state_of}
use Rattle.command_loop.proofs.run_loop.run.Goals as goal

pub returns-then-is_empty-clause-served : goal.returns-then-is_empty-clause-served
returns-then-is_empty-clause-served g c =
    let start : RunState =
    state_of c.begin.new.modules.world (g.O.Objects.asked c.begin.new.source)
    (g.W.Sink.written c.args.writer.now) in
    lines-served _ _ _ _ _ _ _ start _ _
    (no_words _ _ _ c.deref-words.ensures.value c.is_empty.ensures c.if-is_empty.true)
    c.in-Ok-begin.ensures c.serve_input.ensures.reads

pub returns-then-is_empty-clause-reading : goal.returns-then-is_empty-clause-reading
returns-then-is_empty-clause-reading g c =
    let start : RunState =
    state_of c.begin.new.modules.world (g.O.Objects.asked c.begin.new.source)
    (g.W.Sink.written c.args.writer.now) in
    lines-reading _ _ _ _ _ _ _ start _ _
    (no_words _ _ _ c.deref-words.ensures.value c.is_empty.ensures c.if-is_empty.true)
    c.in-Ok-begin.ensures c.serve_input.ensures.reads

pub returns-then-is_empty-clause-writing : goal.returns-then-is_empty-clause-writing
returns-then-is_empty-clause-writing g c =
    let start : RunState =
    state_of c.begin.new.modules.world (g.O.Objects.asked c.begin.new.source)
    (g.W.Sink.written c.args.writer.now) in
    lines-writing _ _ _ _ _ _ _ start _ _
    (no_words _ _ _ c.deref-words.ensures.value c.is_empty.ensures c.if-is_empty.true)
    c.in-Ok-begin.ensures c.serve_input.ensures.reads

pub returns-then-is_empty-clause-unread : goal.returns-then-is_empty-clause-unread
returns-then-is_empty-clause-unread g c = λ some. absurd
    (some (no_words _ _ _ c.deref-words.ensures.value c.is_empty.ensures c.if-is_empty.true))

pub returns-then-is_err-clause-writing : goal.returns-then-is_err-clause-writing
returns-then-is_err-clause-writing g c =
    let start : RunState =
    state_of c.begin.new.modules.world (g.O.Objects.asked c.begin.new.source)
    (g.W.Sink.written c.args.writer.now) in
    λ _. words-stop-at _ _ _ _ _ _ start _ _ _ c.deref-words.ensures.value c.is_empty.ensures
    c.if-is_empty.false c.in-Ok-begin.ensures
    (on_err_at _ (sym c.if-is_err.ensures.value) c.serve_words.ensures.halts)

pub returns-clause-served : goal.returns-clause-served
returns-clause-served g c =
    let start : RunState =
    state_of c.begin.new.modules.world (g.O.Objects.asked c.begin.new.source)
    (g.W.Sink.written c.args.writer.now) in
    words-served-at _ _ _ _ start _ _ _ _ c.deref-words.ensures.value c.is_empty.ensures
    c.if-is_empty.false c.in-Ok-begin.ensures
    (on_ok_at _ (sym c.if-is_err.ensures.value) c.serve_words.ensures.handled)
