-- A valid object: its load segments, and its sections.
use Rattle.std.proofs.Common.{◌≡◌, ℕ, zero, suc, ◌<◌, ◌≤◌, Bool, true, false, List, [], ◌∷◌, length}
use Rattle.std.proofs.Common.{get_or, Option, Some, None, refl, sym, ◌∙◌, arith, min, max, inl, inr}
use Rattle.std.specs.Prelude.{map, unwrap_or, Contains, ◌⊎◌}
use Rattle.std.specs.List.{fold, reduce}
use Rattle.std.specs.Option.{option_or, option_map}
use Rattle.std.proofs.lemmas.Bool.{cases_lt}
use Rattle.std.proofs.lemmas.List.Elements.{All-nil, All-cons, All-head, All-tail}
use Rattle.dwarf_bytes.specs.declared.fault.LoadFault.{LoadFault}
use Rattle.dwarf_bytes.specs.declared.fault.Section.TheVariants as sections
use Rattle.dwarf_bytes.specs.declared.fault.Cause.{Cause}
use Rattle.dwarf_bytes.specs.declared.fault.Cause.TheVariants as causes
use Rattle.dwarf_bytes.specs.declared.headers.ProgramHeader.{ProgramHeader}
use Rattle.dwarf_bytes.specs.Faults.{first_failure, first_fault}
use Rattle.dwarf_bytes.specs.Headers.{load_end}
use Rattle.dwarf_bytes.specs.Elf.{load_item, no_load_item, load_items, section_items, elf_fault}
use Rattle.dwarf_bytes.specs.Elf.{is_empty, loads, low, high}
use Rattle.dwarf_bytes.specs.ElfLaws.{IsLeast, IsGreatest}
use Rattle.dwarf_bytes.proofs.Objects.Extent.{first_fault-append}
use Rattle.dwarf_bytes.proofs.Objects.ObjectLaws.{fault-is}

pub or_none : {X : Type 0} (a b : Option X) → option_or a b ≡ None → (a ≡ None) × (b ≡ None)
or_none None b h = (refl, h)
or_none (Some x) b h = absurd cc

-- the three parts of a valid object: without a fault of the object, none has a fault
loads-valid : (bytes : List ℕ) → elf_fault bytes ≡ None
    → first_fault sections.Elf (load_items bytes)
    ≡ None
loads-valid bytes h = (or_none _ _ (or_none _ _ (sym (fault-is bytes) ∙ h)).0).1

pub sections-valid : (bytes : List ℕ) → elf_fault bytes ≡ None
    → first_fault sections.Elf (section_items bytes) ≡ None
sections-valid bytes h = (or_none _ _ (sym (fault-is bytes) ∙ h)).1

-- ---- the address range

some-loads : (bytes : List ℕ) → elf_fault bytes ≡ None → is_empty (loads bytes) ≡ false
unfolding load_items
some-loads bytes h =
    let parts = or_none _ _ (sym (first_fault-append sections.Elf (map load_item (loads bytes))
    (no_load_item bytes ∷ [])) ∙ loads-valid bytes h) in
    by (is_empty (loads bytes)) ((or_none _ _ parts.1).0)
  where
    by : (t : Bool) → option_map (λ (cause : Cause). let f : LoadFault = record {
      section = sections.Elf;
      cause = cause;
      at = 0;
    } in f) (first_failure ((t, causes.NoLoad) ∷ [])) ≡ None → t ≡ false
    by true e = absurd cc
    by false e = refl

min-is : (x y : ℕ) → (min x y ≡ x) ⊎ (min x y ≡ y)
min-is x y = elim (cases_lt x y) [ inl lt ↦ inl (omega arith) | inr le ↦ inr (omega arith) ]

max-is : (x y : ℕ) → (max x y ≡ x) ⊎ (max x y ≡ y)
max-is x y = elim (cases_lt x y) [ inl lt ↦ inr (omega arith) | inr le ↦ inl (omega arith) ]

-- membership in a list whose first element is one of two numbers
one_of : (x y w m : ℕ) (xs : List ℕ) → (w ≡ x) ⊎ (w ≡ y) → Contains (w ∷ xs) m
    → Contains (x ∷ y ∷ xs) m
one_of x y w m xs which c = by c.0 c.1 c.2 which
  where
    by : (k : ℕ) → k < length (w ∷ xs) → get_or (w ∷ xs) k m ≡ m → (w ≡ x) ⊎ (w ≡ y)
        → Contains (x ∷ y ∷ xs) m
    by zero lt is (inl e) = (0, omega arith, sym e ∙ is)
    by zero lt is (inr e) = (1, omega arith, sym e ∙ is)
    by (suc k) lt is which = (suc (suc k), omega arith, is)

least-step : (x y m : ℕ) (xs : List ℕ) → IsLeast (min x y ∷ xs) m → IsLeast (x ∷ y ∷ xs) m
least-step x y m xs h =
    let head = All-head (λ (n : ℕ). m ≤ n) (min x y) xs h.bound in
    let tail = All-tail (λ (n : ℕ). m ≤ n) (min x y) xs h.bound in
    record {
      is_there = one_of x y (min x y) m xs (min-is x y) h.is_there;
      bound = All-cons (λ (n : ℕ). m ≤ n) x (y ∷ xs) (omega (arith, head))
          (All-cons (λ (n : ℕ). m ≤ n) y xs (omega (arith, head)) tail);
    }

least-in : (xs : List ℕ) (x : ℕ) → IsLeast (x ∷ xs) (fold min x xs)
least-in [] x = record {
  is_there = (0, omega arith, refl);
  bound = All-cons (λ (n : ℕ). x ≤ n) x [] (omega arith) (All-nil (λ (n : ℕ). x ≤ n));
}
least-in (y ∷ xs) x = least-step x y _ xs (least-in xs (min x y))

greatest-step : (x y m : ℕ) (xs : List ℕ) → IsGreatest (max x y ∷ xs) m → IsGreatest (x ∷ y ∷ xs) m
greatest-step x y m xs h =
    let head = All-head (λ (n : ℕ). n ≤ m) (max x y) xs h.bound in
    let tail = All-tail (λ (n : ℕ). n ≤ m) (max x y) xs h.bound in
    record {
      is_there = one_of x y (max x y) m xs (max-is x y) h.is_there;
      bound = All-cons (λ (n : ℕ). n ≤ m) x (y ∷ xs) (omega (arith, head))
          (All-cons (λ (n : ℕ). n ≤ m) y xs (omega (arith, head)) tail);
    }

greatest-in : (xs : List ℕ) (x : ℕ) → IsGreatest (x ∷ xs) (fold max x xs)
greatest-in [] x = record {
  is_there = (0, omega arith, refl);
  bound = All-cons (λ (n : ℕ). n ≤ x) x [] (omega arith) (All-nil (λ (n : ℕ). n ≤ x));
}
greatest-in (y ∷ xs) x = greatest-step x y _ xs (greatest-in xs (max x y))

pub low_is_least : (bytes : List ℕ) → elf_fault bytes ≡ None
    → IsLeast (map (λ header. header.vaddr) (loads bytes)) (low bytes)
unfolding low
low_is_least bytes h = by (loads bytes) (some-loads bytes h)
  where
    by : (xs : List ProgramHeader) → is_empty xs ≡ false
        → IsLeast (map (λ header. header.vaddr) xs)
        (unwrap_or (reduce min (map (λ header. header.vaddr) xs)) 0)
    by [] e = absurd cc
    by (x ∷ xs) e = least-in (map (λ header. header.vaddr) xs) x.vaddr

pub high_is_greatest : (bytes : List ℕ) → elf_fault bytes ≡ None
    → IsGreatest (map load_end (loads bytes)) (high bytes)
unfolding high
high_is_greatest bytes h = by (loads bytes) (some-loads bytes h)
  where
    by : (xs : List ProgramHeader) → is_empty xs ≡ false
        → IsGreatest (map load_end xs) (unwrap_or (reduce max (map load_end xs)) 0)
    by [] e = absurd cc
    by (x ∷ xs) e = greatest-in (map load_end xs) (load_end x)
