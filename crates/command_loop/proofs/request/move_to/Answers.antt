use Rattle.std.proofs.Common.{refl, []}
use Rattle.io_streams.proofs.StreamLemmas.{grows_nothing}
use Rattle.command_loop.proofs.OutcomeLemmas.{moved-world, moved-reply}
use Rattle.command_loop.proofs.request.move_to.Goals as goal

pub returns-in-Ok : goal.returns-in-Ok
returns-in-Ok c = λ asked.
    let h = c.in-Ok.ensures.step in
    record {
      outcomes = [];
      answered = record { each = refl; asked = grows_nothing _ };
      steps = moved-world _ _ _ _ _ _ h.0 h.1;
      replies = moved-reply _ _ _ _ _ _ h.0 h.1;
      current = tt;
    }
