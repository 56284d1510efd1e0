use Rattle.std.proofs.Common.{◌≡◌, rules, true}
use Rattle.std.specs.Prelude.{not}
use Rattle.std.specs.List.{list_all}
use Rattle.answer_text.specs.Printable.{is_control}
use Rattle.answer_text.proofs.PendingLemmas.{all-printable, puts-as}
use Rattle.answer_text.proofs.pending.Pending.put_printable.Goals as goal

pub returns-then-are_printable-clause-bytes : goal.returns-then-are_printable-clause-bytes
returns-then-are_printable-clause-bytes g c =
    let e : list_all (λ byte. not (is_control byte)) c.args.text.now ≡ true = search rules in
    puts-as _ _ _ _ _ _ _ (all-printable c.args.text.now e) c.put.ensures.bytes
