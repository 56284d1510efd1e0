-- Names that are empty.
use Rattle.std.proofs.Common.{◌≡◌, ℕ, zero, suc, ◌∷◌, List, [], drop, length, true, false, refl}
use Rattle.std.proofs.Common.{sym, ap, arith}
use Rattle.std.proofs.lemmas.Bool.{lt-ltb}
use Rattle.std.proofs.lemmas.Bool.Decides.{nat_tests}
use Rattle.std.specs.Prelude.{Option, Some, None, Result, Ok, slice_get, option_map, nat_lt}
use Rattle.std.specs.Prelude.{unwrap_or, ◌==◌}
use Rattle.std.specs.Option.{option_map_or}
use Rattle.std.specs.Result.{result_unwrap_or}
use Rattle.dwarf_bytes.specs.Numbers.{text_at, text_front}
use Rattle.dwarf_entries.specs.declared.text_offset.TextOffset.{TextOffset}
use Rattle.addr_table.specs.Frames.{text_bytes, text_section}
use Rattle.addr_table.specs.Private.Views.{is_empty_name}

pub record Begins (xs : List ℕ) (x : ℕ) : Type 0 where
  pub rest : List ℕ
  pub is : xs ≡ x ∷ rest

begins : (xs : List ℕ) (i : ℕ) (x : ℕ) → slice_get xs i ≡ Some x → Begins (drop i xs) x
begins [] i x e = cc
begins (y ∷ xs) zero x e = record {
  rest = xs;
  is = ap (λ (z : ℕ). z ∷ xs) (ap (λ (o : Option ℕ). unwrap_or o y) e);
}
begins (y ∷ xs) (suc i) x e = begins xs i x e

empty-text : (section : List ℕ) (offset : ℕ) → slice_get section offset ≡ Some 0
    → text_at section offset ≡ Ok []
unfolding text_at text_front
empty-text section offset e =
    let b = begins section offset 0 e in
    let some : nat_lt 0 (length (0 ∷ b.rest)) ≡ true =
    lt-ltb 0 (length (0 ∷ b.rest)) (omega arith) in
    rw (b.is, some) refl

pub empty-name : (bytes : List ℕ) (name : Option TextOffset) → is_empty_name bytes name ≡ true
    → Some [] ≡ option_map (text_bytes bytes) name
empty-name bytes None e = cc
empty-name bytes (Some text) e =
    by (slice_get (text_section bytes text.section) text.offset) refl e
  where
    by : (found : Option ℕ) → slice_get (text_section bytes text.section) text.offset ≡ found
        → option_map_or (λ byte. byte == 0) found false ≡ true
        → Some [] ≡ option_map (text_bytes bytes) (Some text)
    by None is zeros = cc
    by (Some zero) is zeros =
        ap (λ (r : Result (List ℕ) _). Some (result_unwrap_or r []))
        (sym (empty-text (text_section bytes text.section) text.offset is))
    by (Some (suc byte)) is zeros = absurd (grind (arith, nat_tests))
