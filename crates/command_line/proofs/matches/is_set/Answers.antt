use Rattle.std.proofs.Common.{◌∙◌, ap, List, ℕ, false}
use Rattle.std.specs.Prelude.{Option, codes}
use Rattle.std.specs.Option.{option_map_or}
use Rattle.std.specs.Str.{bytes_eq}
use Rattle.command_line.proofs.matches.is_set.Goals as goal

pub returns-in-Some : goal.returns-in-Some
returns-in-Some c = c.eq.ensures ∙ ap (λ (o : Option (List ℕ)). option_map_or
    (λ t. bytes_eq t (codes "true")) o false) c.in-Some.ensures

pub returns-in-None : goal.returns-in-None
returns-in-None c = ap (λ (o : Option (List ℕ)). option_map_or (λ t. bytes_eq t (codes "true")) o
    false) c.in-None.ensures
