use Rattle.std.proofs.Common.{refl, false, [], ◌∷◌}
use Rattle.std.specs.Prelude.{Ok, Err}
use Rattle.command_loop.proofs.OutcomeLemmas.{exe-refused, exe-loaded}
use Rattle.command_loop.proofs.load_exe.load_exe.Goals as goal

pub returns-in-Err : goal.returns-in-Err
returns-in-Err g c = (
  record { fetched = Err c.in-Err.fault; short = false },
  refl,
  record { each = refl; asked = c.in-Err.ensures.asked },
)

pub returns-in-Err-load : goal.returns-in-Err-load
returns-in-Err-load g c =
    let h = c.in-Err-load.ensures.step in (
      record { fetched = Ok c.in-Ok.bytes.items; short = h.0 },
      exe-refused _ _ _ _ c.requires h.1.0,
      record { each = refl; asked = c.in-Ok.ensures.asked },
    )

pub returns-in-Ok-load : goal.returns-in-Ok-load
returns-in-Ok-load g c =
    let h = c.in-Ok-load.ensures.step in
    record {
      first = record { fetched = Ok c.in-Ok.bytes.items; short = h.0 } ∷ [];
      starts = exe-loaded _ _ _ _ c.requires h.1.0 h.1.2;
      one = refl;
      answered = record { each = refl; asked = c.in-Ok.ensures.asked };
    }
