-- A string that is written in several pieces.
use Rattle.std.proofs.Common.{◌≡◌, ◌≢◌, false, nat_eq, ℕ, ◌+◌, ◌-◌, List, [], ◌++◌, length, take}
use Rattle.std.proofs.Common.{drop, refl, sym, ◌∙◌, ap, subst, append-nil, take-add}
use Rattle.std.proofs.lemmas.List.{take-append-drop, take_rest}
use Rattle.std.proofs.lemmas.Bool.{ne_eqb}
use Rattle.std.specs.Prelude.{Option, Ok}
use Rattle.std.specs.Io.KnownBytes.{Appends, Keeps}
use Rattle.io_streams.specs.Streams.{IsBeginning, write_failures}
use Rattle.io_streams.proofs.StreamLemmas.{appends_unchanged, appends_then}

-- a prefix was written, and then no more
pub stops-at : (a b c : Option (List ℕ)) (text : List ℕ) (n : ℕ) → Appends a b (take n text)
    → Keeps b c
    → (part : List ℕ) × IsBeginning part text × Appends a c part
stops-at a b c text n h k = (
  take n text,
  (drop n text, take-append-drop n text),
  appends_unchanged a b c (take n text) h k,
)

-- one more piece of a string
pub goes_on : (a b c : Option (List ℕ)) (text : List ℕ) (n m : ℕ)
    → Appends a b (take n text) → Appends b c (take m (take (length text - n) (drop n text)))
    → Appends a c (take (n + m) text)
goes_on a b c text n m h k =
    let joined : take n text ++ take m (take (length text - n) (drop n text)) ≡ take (n + m) text =
    ap (λ (z : List ℕ). take n text ++ take m z) (take_rest text n) ∙ sym (take-add n m text) in
    let P : List ℕ → Type 0 = λ z. Appends a c z in
    subst P joined (appends_then a b c (take n text) (take m (take (length text - n) (drop n text)))
    h k)

-- a piece without bytes
pub goes-nowhere : (a b c : Option (List ℕ)) (text bytes : List ℕ) (n m : ℕ) → m ≡ 0
    → Appends a b (take n text)
    → Appends b c (take m bytes) → (part : List ℕ) × IsBeginning part text × Appends a c part
goes-nowhere a b c text bytes n m zero_is h k =
    let nothing : take m bytes ≡ [] = ap (λ (z : ℕ). take z bytes) zero_is in
    let joined : take n text ++ take m bytes ≡ take n text =
    ap (λ (z : List ℕ). take n text ++ z) nothing ∙ append-nil (take n text) in
    let P : List ℕ → Type 0 = λ z. Appends a c z in (
      take n text,
      (drop n text, take-append-drop n text),
      subst P joined (appends_then a b c (take n text) (take m bytes) h k),
    )

-- a write that accepted a byte did not fail
pub took-some : (E : Type 0) (failures : ℕ) (bytes : List ℕ) (n : ℕ) → n ≢ 0
    → write_failures {E = E} failures bytes (Ok n) ≡ failures
took-some E failures bytes n ne = let is_no : nat_eq n 0 ≡ false = ne_eqb n 0 ne in rw is_no refl
