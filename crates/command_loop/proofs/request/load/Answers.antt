use Rattle.std.proofs.Common.{refl, false, [], ◌∷◌}
use Rattle.std.specs.Prelude.{Ok, Err}
use Rattle.command_loop.proofs.OutcomeLemmas.{refused-world, refused-reply, accepted-world}
use Rattle.command_loop.proofs.OutcomeLemmas.{accepted-reply}
use Rattle.command_loop.proofs.request.load.Goals as goal

pub returns-in-Err : goal.returns-in-Err
returns-in-Err g c = record {
  outcomes = record { fetched = Err c.in-Err.fault; short = false } ∷ [];
  answered = record { each = refl; asked = c.in-Err.ensures.asked };
  steps = refl;
  replies = refl;
  current = tt;
}

pub returns-in-Err-load : goal.returns-in-Err-load
returns-in-Err-load g c =
    let h = c.in-Err-load.ensures.step in
    record {
      outcomes = record { fetched = Ok c.in-Ok.bytes.items; short = h.0 } ∷ [];
      answered = record { each = refl; asked = c.in-Ok.ensures.asked };
      steps = refused-world _ _ _ _ _ h.1.0 h.1.1;
      replies = refused-reply _ _ _ _ _ h.1.0 h.1.1;
      current = tt;
    }

pub returns-in-Ok-load : goal.returns-in-Ok-load
returns-in-Ok-load g c =
    let h = c.in-Ok-load.ensures.step in
    record {
      outcomes = record { fetched = Ok c.in-Ok.bytes.items; short = h.0 } ∷ [];
      answered = record { each = refl; asked = c.in-Ok.ensures.asked };
      steps = accepted-world _ _ _ _ h.1.0 h.1.2;
      replies = accepted-reply _ _ _ _ _ h.1.0 h.1.1.0 h.1.1.1;
      current = tt;
    }
