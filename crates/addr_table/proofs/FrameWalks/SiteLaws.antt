-- The position of the innermost frame is that of the row.
use Rattle.std.proofs.Common.{◌≡◌, ℕ, List, [], ◌∷◌, refl, reverse}
use Rattle.std.specs.Prelude.{Option, Some, None}
use Rattle.dwarf_lines.specs.Lines.{Lines}
use Rattle.dwarf_entries.specs.Scopes.{Scope}
use Rattle.addr_table.specs.Frames.{frames_from, frames_of, row_site, first_site}
use Rattle.addr_table.proofs.Chains.ChainEnds.{filled}

pub site-of-frames : (bytes : List ℕ) (lines : Lines) (chain : List Scope) (row : Option ℕ)
    → first_site (frames_of bytes lines chain row) ≡ row_site bytes lines row
site-of-frames bytes lines [] None = refl
site-of-frames bytes lines [] (Some row) = refl
site-of-frames bytes lines (s ∷ inner) row = cases (reverse (s ∷ inner)) refl
  where
    cases : (back : List Scope) → reverse (s ∷ inner) ≡ back
        → first_site (frames_from bytes lines back (row_site bytes lines row))
        ≡ row_site bytes lines row
    cases [] e = absurd (filled s inner e)
    cases (t ∷ back) e = refl
