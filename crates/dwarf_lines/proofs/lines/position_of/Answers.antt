use Rattle.std.proofs.Common.{sym, ap, ◌∙◌, arith}
use Rattle.std.proofs.lemmas.List.{get_or_default}
use Rattle.dwarf_lines.specs.declared.programs.ProgramFiles.{ProgramFiles}
use Rattle.dwarf_lines.proofs.Lists.Positions.{position-found, position-missing}
use Rattle.dwarf_lines.proofs.lines.position_of.Goals as goal
use Rattle.dwarf_lines.proofs.lines.position_of.Goals.{else-n-programs-via-then-n-programs+else-programs-n}
use Rattle.dwarf_lines.proofs.lines.position_of.Goals.{else-n-programs-via-else-n-programs}

pub returns-then-programs-n : goal.returns-then-programs-n
returns-then-programs-n c =
    let n = c.starts_before-n in
    let d = c.index-programs-n.result in
    sym (position-found (λ (program : ProgramFiles). program.offset) c.args.programs.now
    c.args.offset n.result d (λ k lt. n.ensures.parts.0 k d (omega arith) lt)
    c.if-n-programs.true c.if-programs-n.true)

pub returns-else-n-programs : goal.returns-else-n-programs
returns-else-n-programs c =
    let n = c.starts_before-n in
    sym (position-missing (λ (program : ProgramFiles). program.offset) c.args.programs.now
    c.args.offset n.result c.requires n.ensures.parts
    (λ d lt is. elim c.else-n-programs.branch [
      | else-n-programs-via-then-n-programs+else-programs-n w ↦ w.if-programs-n.false
          (ap (λ (program : ProgramFiles). program.offset)
          (get_or_default c.args.programs.now n.result w.index-programs-n.result d lt) ∙ is)
      | else-n-programs-via-else-n-programs w ↦ absurd (omega arith)
    ]))
