-- The iterations of a loop that reads count items.
use Rattle.std.proofs.Common.{◌≡◌, ℕ, suc, ◌-◌, ◌+◌, ◌≤◌, ◌<◌, List, [], ◌∷◌, ◌++◌, Result, Ok, Err}
use Rattle.std.proofs.Common.{refl, sym, ap, ◌∙◌, append_assoc, arith}
use Rattle.std.proofs.lemmas.List.{append-nil}
use Rattle.dwarf_bytes.specs.Bind.{◌>>=◌}
use Rattle.dwarf_bytes.specs.declared.fault.Cause.{Cause}
use Rattle.dwarf_lines.specs.Entries.{repeated_at}

-- the items read so far, followed by the rest
abbrev pub with_items : {X : Type 0} → List X → Result (List X × ℕ) Cause
    → Result (List X × ℕ) Cause
with_items front read = read >>= λ x. Ok (front ++ x.0, x.1)

regroup : {X : Type 0} (front : List X) (item : X) (read : Result (List X × ℕ) Cause)
    → with_items front (read >>= λ x. Ok (item ∷ x.0, x.1)) ≡ with_items (front ++ item ∷ []) read
regroup {X} front item (Ok x) = ap (λ (items : List X). Ok (items, x.1)) (simp append_assoc)
regroup front item (Err cause) = refl

module _ {X : Type 0} (at : List ℕ → ℕ → Result (X × ℕ) Cause) (front : List X) (count i : ℕ)
    (bytes : List ℕ) (place : ℕ) (total : Result (List X × ℕ) Cause) where
  pub goes_on : (item : X) (after : ℕ) → i < count → at bytes place ≡ Ok (item, after)
      → with_items front (repeated_at at (count - i) bytes place) ≡ total
      → with_items (front ++ item ∷ []) (repeated_at at (count - (i + 1)) bytes after) ≡ total
  unfolding repeated_at
  goes_on item after lt h so_far =
      let k : count - i ≡ suc (count - (i + 1)) = omega arith in
      let one : with_items front (repeated_at at (count - i) bytes place)
      ≡ with_items (front ++ item ∷ []) (repeated_at at (count - (i + 1)) bytes after) =
      rw (k, h) (regroup front item (repeated_at at (count - (i + 1)) bytes after)) in
      sym one ∙ so_far

  pub ends : (cause : Cause) → i < count → at bytes place ≡ Err cause
      → with_items front (repeated_at at (count - i) bytes place) ≡ total
      → total ≡ Err cause
  unfolding repeated_at
  ends cause lt h so_far =
      let k : count - i ≡ suc (count - (i + 1)) = omega arith in
      let one : with_items front (repeated_at at (count - i) bytes place) ≡ Err cause =
      rw (k, h) refl in
      sym so_far ∙ one

  pub is-done : count ≤ i → with_items front (repeated_at at (count - i) bytes place) ≡ total
      → total ≡ Ok (front, place)
  unfolding repeated_at
  is-done le so_far =
      let k : count - i ≡ 0 = omega arith in
      let one : with_items front (repeated_at at (count - i) bytes place) ≡ Ok (front, place) =
      rw k (ap (λ (items : List X). Ok (items, place)) (append-nil front)) in
      sym so_far ∙ one
