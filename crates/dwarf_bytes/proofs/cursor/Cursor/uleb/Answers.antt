use Rattle.std.proofs.Common.{refl}
use Rattle.std.proofs.lemmas.Result.{err_from_is_err_and}
use Rattle.dwarf_bytes.proofs.Numbers.LebPlaces.{uleb_at-ok, uleb_at-err}
use Rattle.dwarf_bytes.proofs.cursor.Cursor.uleb.Goals as goal

pub returns-in_err-value-clause-reads : goal.returns-in_err-value-clause-reads
returns-in_err-value-clause-reads c =
    let p = err_from_is_err_and c.from_residual.result c.from_residual.ensures.1 in
    rw (p.1, p.2, ← c.self.view_is) (uleb_at-err _ _ _ c.in_err-value.ensures.value, refl)

pub returns-clause-reads : goal.returns-clause-reads
returns-clause-reads c = rw (← c.self.view_is)
    (uleb_at-ok _ _ _ _ c.in_ok-value.ensures.value, refl)
