use Rattle.std.proofs.Common.{◌∙◌, ap, List, ℕ}
use Rattle.std.specs.Prelude.{Some}
use Rattle.answer_text.specs.Printable.{text_or_unknown}
use Rattle.answer_text.specs.Text.{base_name}
use Rattle.answer_text.proofs.PathLemmas.{base-of-last}
use Rattle.answer_text.proofs.PendingLemmas.{puts-as}
use Rattle.answer_text.proofs.paths.put_base_name.Goals as goal

pub returns-clause-bytes : goal.returns-clause-bytes
returns-clause-bytes g c =
    puts-as _ _ _ _ _ _ _ (ap (λ (z : List ℕ). text_or_unknown (Some z))
    (c.base_name.ensures ∙ ap base_name c.last_part.ensures ∙ base-of-last c.args.path))
    c.put_or_unknown.ensures.bytes
