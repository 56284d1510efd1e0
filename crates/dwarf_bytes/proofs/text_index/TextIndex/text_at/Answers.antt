use Rattle.std.proofs.lemmas.Result.{err_from_is_err_and}
use Rattle.dwarf_bytes.proofs.Strings.NulIndex.{text-found, text-lost}
use Rattle.dwarf_bytes.proofs.text_index.TextIndex.text_at.Goals as goal

pub returns-in_err-nul : goal.returns-in_err-nul
returns-in_err-nul c =
    let p = err_from_is_err_and c.from_residual.result c.from_residual.ensures.1 in
    rw (p.1, p.2, ← c.self.view_is) (text-lost _ _ _ _ c.nul_from.ensures
    c.in_err-nul.ensures.value)

pub returns : goal.returns
returns c = rw (← c.self.view_is) (text-found _ _ _ _ c.nul_from.ensures c.in_ok-nul.ensures.value)
