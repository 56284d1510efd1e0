use Rattle.std.specs.Prelude.{FitsSigned}
use Rattle.std.specs.Int.{w64}
use Rattle.std.proofs.Common.{refl, rules}
use Rattle.std.proofs.lemmas.Int.{to_z-of_z}
use Rattle.std.proofs.lemmas.Result.{err_from_is_err_and}
use Rattle.dwarf_bytes.proofs.Numbers.LebPlaces.{sleb_at-ok, sleb_at-err}
use Rattle.dwarf_bytes.proofs.cursor.Cursor.sleb.Goals as goal

pub returns-in_err-value-clause-reads : goal.returns-in_err-value-clause-reads
returns-in_err-value-clause-reads c =
    let p = err_from_is_err_and c.from_residual.result c.from_residual.ensures.1 in
    rw (p.1, p.2, ← c.self.view_is) (sleb_at-err _ _ _ c.in_err-value.ensures.value, refl)

pub returns-clause-reads : goal.returns-clause-reads
returns-clause-reads c =
    let fits : FitsSigned w64 c.in_ok-value.value = search rules in
    rw (to_z-of_z w64 c.in_ok-value.value fits, ← c.self.view_is)
    (sleb_at-ok _ _ _ _ c.in_ok-value.ensures.value, refl)
