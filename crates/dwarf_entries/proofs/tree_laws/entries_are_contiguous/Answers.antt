use Rattle.dwarf_entries.proofs
use proofs.{◌≡◌, ℕ, ◌≤◌, List, [], ◌∷◌, ◌++◌, length, take, ◌∙◌, subst, arith, length-take}
use proofs.{leb-true, Format, Declaration, All-contains, Lists, LocatedNode, node_at}
use proofs.{node_at-advances, list-in, HasBounds, headers-in}
use Rattle.dwarf_entries.proofs.tree_laws.entries_are_contiguous.Goals as goal

-- The last node ends where the unit ends.
filled : (format : Format) (table : List Declaration) (unit : List ℕ) (before : List LocatedNode)
    (at : ℕ) (all : List LocatedNode) (after : ℕ)
    → Lists (node_at format table unit) before at all after → at ≤ length unit → after ≡ length unit
filled format table unit before at [] after h le = grind (arith, leb-true)
filled format table unit before at (x ∷ all) after h le =
    let moved = node_at-advances format table unit before at x h.0 h.1 in
    filled format table unit (before ++ x ∷ []) h.0 all after h.2 moved.1

pub returns : goal.returns
returns c info headers header table dies read inside h =
    let bounds = All-contains (HasBounds (length info)) headers header
    (headers-in info headers read).bounded inside in
    let unit : List ℕ = take header.end info in
    let size : length unit ≡ header.end = let taken = length-take header.end info in
    omega (arith, taken, bounds.within) in
    let all = list-in info header table dies h in
    let end_is : all.1 ≡ header.end = filled header.format table unit [] header.first all.0 all.1
    all.3 (omega (arith, size, bounds.last)) ∙ size in (
      all.0,
      subst (λ (k : ℕ). Lists (node_at header.format table unit) [] header.first all.0 k) end_is
          all.3,
      all.4,
    )
