-- The sections of a valid object.
use Rattle.std.proofs.Common.{◌≡◌, ◌≢◌, ℕ, zero, suc, ◌+◌, ◌<◌, ◌≤◌, Bool, true, false, cond, ◌&&◌}
use Rattle.std.proofs.Common.{List, [], ◌∷◌, Option, Some, None, refl, sym, ap, subst, ◌∙◌, arith}
use Rattle.std.proofs.Common.{inl, inr, is_none}
use Rattle.std.specs.Prelude.{map, find, ◌⊎◌}
use Rattle.std.specs.List.{range_with_len, list_any}
use Rattle.std.specs.Option.{option_map_or}
use Rattle.std.proofs.lemmas.Bool.{ltb-false, cases_lt}
use Rattle.std.proofs.lemmas.List.Folds.{list_any_at}
use Rattle.std.proofs.lemmas.List.FromFn.{length-range_with_len, get_or-range_with_len}
use Rattle.dwarf_bytes.specs.declared.fault.Section.{Section}
use Rattle.dwarf_bytes.specs.declared.fault.Section.TheVariants as sections
use Rattle.dwarf_bytes.specs.declared.fault.Cause.TheVariants as causes
use Rattle.dwarf_bytes.specs.declared.layout.Span.{Span}
use Rattle.dwarf_bytes.specs.declared.layout.Layout.{Layout}
use Rattle.dwarf_bytes.specs.Faults.{Item, item_fault, first_fault}
use Rattle.dwarf_bytes.specs.Headers.{file_header, is_nobits, is_compressed, is_outside}
use Rattle.dwarf_bytes.specs.Elf.{section_items, section_item, names_item, has_sections}
use Rattle.dwarf_bytes.specs.Elf.{section_numbers, elf_fault, low, high, wanted, is_wanted, is_seen}
use Rattle.dwarf_bytes.specs.Elf.{is_named, name_of, section_header, section_span, span_of, no_span}
use Rattle.dwarf_bytes.specs.Elf.{IsInside, AreInside, layout}
use Rattle.dwarf_bytes.specs.ElfLaws.{IsOneSection, IsNoSection}
use Rattle.dwarf_bytes.proofs.Objects.Extent.{first_fault-append}
use Rattle.dwarf_bytes.proofs.Objects.ValidObject.{or_none, sections-valid}

-- ---- the sections

items-valid : (f : ℕ → Item) (n a : ℕ) → first_fault sections.Elf (map f (range_with_len a n))
    ≡ None
    → (i : ℕ) → i < n
    → item_fault sections.Elf (f (a + i)) ≡ None
items-valid f zero a h i lt = absurd (omega arith)
items-valid f (suc n) a h zero lt = let same : a ≡ a + 0 =
    omega arith in subst (λ (k : ℕ). item_fault sections.Elf (f k) ≡ None) same (or_none _ _ h).0
items-valid f (suc n) a h (suc i) lt =
    let same : a + 1 + i ≡ a + suc i = omega arith in
    subst (λ (k : ℕ). item_fault sections.Elf (f k) ≡ None) same
    (items-valid f n (a + 1) (or_none _ _ h).1 i (omega arith))

-- the result of a search in a range of numbers
pub record IsFirst (p : ℕ → Bool) (a n k : ℕ) : Type 0 where
  pub low : a ≤ k
  pub high : k < a + n
  pub passes : p k ≡ true

found-first : (p : ℕ → Bool) (n a : ℕ) (t : Bool) → p a ≡ t
    → ((k : ℕ) → find p (range_with_len (a + 1) n) ≡ Some k → IsFirst p (a + 1) n k) → (k : ℕ)
    → cond t (Some a) (find p (range_with_len (a + 1) n)) ≡ Some k → IsFirst p a (suc n) k
found-first p n a true is more k e = let same : a ≡ k =
    cc in subst (IsFirst p a (suc n)) same
    (record { low = omega arith; high = omega arith; passes = is })
found-first p n a false is more k e = let m =
    more k e in record {
      low = omega (arith, m.low);
      high = omega (arith, m.high);
      passes =
          m.passes;
    }

find-first : (p : ℕ → Bool) (n a k : ℕ) → find p (range_with_len a n) ≡ Some k → IsFirst p a n k
find-first p zero a k e = absurd cc
find-first p (suc n) a k e = found-first p n a (p a) refl (λ j. find-first p n (a + 1) j) k e

-- a number of a range is the first one, or one after it
first-or : (k a : ℕ) → a ≤ k → (k ≡ a) ⊎ (a + 1 ≤ k)
first-or k a le = elim (cases_lt a k) [ inl lt ↦ inr (omega arith) | inr ge ↦ inl (omega arith) ]

none-from : (p : ℕ → Bool) (n a : ℕ) (t : Bool) → p a ≡ t
    → cond t (Some a) (find p (range_with_len (a + 1) n)) ≡ None
    → (find p (range_with_len (a + 1) n) ≡ None → (k : ℕ) → a + 1 ≤ k → k < a + 1 + n → p k ≡ false)
    → (k : ℕ)
    → (k ≡ a) ⊎ (a + 1 ≤ k) → k < a + suc n → p k ≡ false
none-from p n a true is e more k which lt = absurd cc
none-from p n a false is e more k (inl same) lt = ap p same ∙ is
none-from p n a false is e more k (inr above) lt = more e k above (omega arith)

find_none : (p : ℕ → Bool) (n a : ℕ) → find p (range_with_len a n) ≡ None → (k : ℕ) → a ≤ k
    → k < a + n → p k ≡ false
find_none p zero a e k le lt = absurd (omega arith)
find_none p (suc n) a e k le lt = none-from p n a (p a) refl e (find_none p n (a + 1)) k
    (first-or k a le) lt

-- each section header of a valid object is valid
headers-valid : (bytes : List ℕ) → elf_fault bytes ≡ None → (k : ℕ) → k < (file_header bytes).shnum
    → item_fault sections.Elf (section_item bytes k) ≡ None
unfolding section_items
headers-valid bytes h k lt =
    let parts : (first_fault sections.Elf
    (cond (has_sections (file_header bytes)) (names_item bytes ∷ []) []) ≡ None)
    × (first_fault sections.Elf (map (section_item bytes) (section_numbers bytes)) ≡ None) =
    or_none _ _ (sym (first_fault-append sections.Elf
    (cond (has_sections (file_header bytes)) (names_item bytes ∷ []) [])
    (map (section_item bytes) (section_numbers bytes))) ∙ sections-valid bytes h) in
    let zero_on : 0 + k ≡ k = omega arith in
    subst (λ (j : ℕ). item_fault sections.Elf (section_item bytes j) ≡ None) zero_on
    (items-valid (section_item bytes) (file_header bytes).shnum 0 parts.1 k lt)

-- every section other than the ELF tables is a wanted one
wanted-any : (s : Section) → s ≢ sections.Elf → (p : Section → Bool) → p s ≡ true
    → list_any p wanted ≡ true
wanted-any sections.Elf ne p h = absurd (ne refl)
wanted-any sections.DebugInfo ne p h = list_any_at p wanted 0 sections.Elf (omega arith) h
wanted-any sections.DebugAbbrev ne p h = list_any_at p wanted 1 sections.Elf (omega arith) h
wanted-any sections.DebugLine ne p h = list_any_at p wanted 2 sections.Elf (omega arith) h
wanted-any sections.DebugLineStr ne p h = list_any_at p wanted 3 sections.Elf (omega arith) h
wanted-any sections.DebugStr ne p h = list_any_at p wanted 4 sections.Elf (omega arith) h
wanted-any sections.DebugStrOffsets ne p h = list_any_at p wanted 5 sections.Elf (omega arith) h
wanted-any sections.DebugAddr ne p h = list_any_at p wanted 6 sections.Elf (omega arith) h
wanted-any sections.DebugRnglists ne p h = list_any_at p wanted 7 sections.Elf (omega arith) h

-- the properties of a wanted section's header whose tests all pass
pub record IsGoodHeader (bytes : List ℕ) (k : ℕ) : Type 0 where
  pub fresh : is_seen bytes k ≡ false
  pub has_bits : is_nobits (section_header bytes k) ≡ false
  pub plain : is_compressed (section_header bytes k) ≡ false
  pub inside : IsInside bytes (span_of (section_header bytes k))

tests-pass : (unnamed seen nobits compressed outside : Bool) (at : ℕ)
    → item_fault sections.Elf (record {
      at = at;
      tests = (unnamed, causes.Table) ∷ (seen, causes.SectionTwice) ∷
          (true && nobits, causes.Table) ∷ (true && compressed, causes.Compressed) ∷
          (true && outside, causes.Table) ∷ [];
    }) ≡ None → (seen ≡ false) × (nobits ≡ false) × (compressed ≡ false)
    × (outside ≡ false)
tests-pass true seen nobits compressed outside at h = absurd cc
tests-pass false true nobits compressed outside at h = absurd cc
tests-pass false false true compressed outside at h = absurd cc
tests-pass false false false true outside at h = absurd cc
tests-pass false false false false true at h = absurd cc
tests-pass false false false false false at h = (refl, refl, refl, refl)

header-valid : (bytes : List ℕ) (k : ℕ) (s : Section) → elf_fault bytes ≡ None
    → k < (file_header bytes).shnum
    → s ≢ sections.Elf → is_named bytes k s ≡ true → IsGoodHeader bytes k
header-valid bytes k s h lt ne named =
    let header = section_header bytes k in
    let here : is_wanted bytes k ≡ true = wanted-any s ne (λ t. is_named bytes k t) named in
    let item = subst (λ (b : Bool). item_fault sections.Elf
    (record {
      at = header.at;
      tests = (is_none (name_of bytes k), causes.Table) ∷
          (is_seen bytes k, causes.SectionTwice) ∷ (b && is_nobits header, causes.Table) ∷
          (b && is_compressed header, causes.Compressed) ∷
          (b && is_outside bytes header.offset header.size, causes.Table) ∷ [];
    }) ≡ None) here
    (headers-valid bytes h k lt) in
    let t = tests-pass _ _ _ _ _ header.at item in
    record { fresh = t.0; has_bits = t.1; plain = t.2; inside = ltb-false _ _ t.3 }

-- of two headers with one name, the later one fails its test
seen-by : (bytes : List ℕ) (j k : ℕ) (s : Section) → j < k → s ≢ sections.Elf
    → is_named bytes j s ≡ true
    → is_named bytes k s ≡ true → is_seen bytes k ≡ true
seen-by bytes j k s lt ne first second =
    let before : list_any (λ i. is_named bytes i s) (range_with_len 0 k) ≡ true =
    list_any_at (λ i. is_named bytes i s) (range_with_len 0 k) j 0
    (omega (arith, length-range_with_len 0 k))
    (ap (λ (i : ℕ). is_named bytes i s) (get_or-range_with_len 0 k j 0 lt ∙ omega arith) ∙ first) in
    wanted-any s ne (λ t. is_named bytes k t && list_any (λ i. is_named bytes i t)
    (range_with_len 0 k))
    (rw (second, before) refl)

only-one : (bytes : List ℕ) (j k : ℕ) (s : Section) → elf_fault bytes ≡ None
    → j < (file_header bytes).shnum
    → k < (file_header bytes).shnum → s ≢ sections.Elf → is_named bytes j s ≡ true
    → is_named bytes k s ≡ true → j ≡ k
only-one bytes j k s h jn kn ne first second = by (cases_lt j k) (cases_lt k j)
  where
    by : (j < k) ⊎ (k ≤ j) → (k < j) ⊎ (j ≤ k) → j ≡ k
    by (inl lt) other = absurd (let seen = seen-by bytes j k s lt ne first second in let fresh =
        (header-valid bytes k s h kn ne second).fresh in cc)
    by (inr le) (inl lt) =
        absurd (let seen = seen-by bytes k j s lt ne second first in let fresh =
        (header-valid bytes j s h jn ne first).fresh in cc)
    by (inr le) (inr ge) = omega arith

pub section_is_one : (bytes : List ℕ) (s : Section) → elf_fault bytes ≡ None → s ≢ sections.Elf
    → IsOneSection bytes s (section_span bytes s) ⊎ IsNoSection bytes s (section_span bytes s)
unfolding section_span
section_is_one bytes s h ne = by (find (λ k. is_named bytes k s) (section_numbers bytes)) refl
  where
    by : (found : Option ℕ) → find (λ k. is_named bytes k s) (section_numbers bytes) ≡ found
        → IsOneSection bytes s (option_map_or (λ k. span_of (section_header bytes k)) found no_span)
        ⊎ IsNoSection bytes s
        (option_map_or (λ k. span_of (section_header bytes k)) found no_span)
    by None is = inr (record {
      none = λ k lt. find_none (λ j. is_named bytes j s) (file_header bytes).shnum 0 is k
          (omega arith) (omega arith);
      span_is = refl;
    })
    by (Some n) is =
        let f = find-first (λ j. is_named bytes j s) (file_header bytes).shnum 0 n is in
        let lt : n < (file_header bytes).shnum = omega (arith, f.high) in
        let g = header-valid bytes n s h lt ne f.passes in
        inl (record {
          number = n;
          is_number = lt;
          named = f.passes;
          alone = λ k kn named. only-one bytes k n s h kn lt ne named f.passes;
          span_is = refl;
          has_bits = g.has_bits;
          plain = g.plain;
          inside = g.inside;
        })

span-inside : (bytes : List ℕ) (s : Section) → elf_fault bytes ≡ None → s ≢ sections.Elf
    → IsInside bytes (section_span bytes s)
span-inside bytes s h ne = by (section_span bytes s) (section_is_one bytes s h ne)
  where
    by : (span : Span) → IsOneSection bytes s span ⊎ IsNoSection bytes s span → IsInside bytes span
    by span (inl one) = one.inside
    by span (inr none) = rw none.span_is (omega arith)

pub layout-inside : (bytes : List ℕ) (found : Layout) → elf_fault bytes ≡ None
    → found ≡ layout bytes
    → AreInside bytes found
unfolding layout
layout-inside bytes found h is = subst (AreInside bytes) (sym is) (record {
  debug_info = span-inside bytes sections.DebugInfo h (λ e. cc);
  debug_abbrev = span-inside bytes sections.DebugAbbrev h (λ e. cc);
  debug_line = span-inside bytes sections.DebugLine h (λ e. cc);
  debug_line_str = span-inside bytes sections.DebugLineStr h (λ e. cc);
  debug_str = span-inside bytes sections.DebugStr h (λ e. cc);
  debug_str_offsets = span-inside bytes sections.DebugStrOffsets h (λ e. cc);
  debug_addr = span-inside bytes sections.DebugAddr h (λ e. cc);
  debug_rnglists = span-inside bytes sections.DebugRnglists h (λ e. cc);
})
