-- The first fault of section headers, header by header.
use Rattle.std.proofs.Common.{◌≡◌, ℕ, suc, ◌+◌, ◌-◌, ◌<◌, ◌≤◌, Bool, true, false, not, cond, ◌&&◌}
use Rattle.std.proofs.Common.{◌||◌, List, [], ◌∷◌, ◌++◌, Option, Some, None, refl, sym, ap, ◌∙◌}
use Rattle.std.proofs.Common.{arith, option_map, map}
use Rattle.std.specs.List.{range_with_len}
use Rattle.std.specs.Option.{option_or}
use Rattle.std.specs.Prelude.{◌*◌, ◌==◌, nat_le, replicate}
use Rattle.dwarf_bytes.specs.declared.fault.LoadFault.{LoadFault}
use Rattle.dwarf_bytes.specs.declared.fault.Section.TheVariants as sections
use Rattle.dwarf_bytes.specs.declared.fault.Cause.TheVariants as causes
use Rattle.dwarf_bytes.specs.declared.headers.SectionHeader.{SectionHeader}
use Rattle.dwarf_bytes.specs.declared.headers.FileHeader.{FileHeader}
use Rattle.dwarf_bytes.specs.declared.fault.Cause.{Cause}
use Rattle.dwarf_bytes.specs.Faults.{first_failure, item_fault, first_fault}
use Rattle.dwarf_bytes.specs.Headers.{file_header, is_outside}
use Rattle.dwarf_bytes.specs.Elf.{section_items, names_item, has_sections, is_invalid_section_table}
use Rattle.dwarf_bytes.specs.Elf.{section_item}
use Rattle.dwarf_bytes.specs.Private.FoundSections.{spans_before, wanted_tests}
use Rattle.dwarf_bytes.proofs.Objects.SectionItems.{in_file}

-- ---- the first test that fails

-- the first failure of a wanted section's tests is the fault of its item
by-tests : (bytes : List ℕ) (entry : SectionHeader) (seen here : Bool) (cause : Option Cause)
    → seen ≡ here
    → cause ≡ first_failure (wanted_tests bytes entry seen)
    → in_file bytes entry false here true ≡ option_map
    (λ c. record { section = sections.Elf; cause = c; at = entry.at }) cause
by-tests bytes entry seen here cause same is =
    ap (λ (b : Bool). in_file bytes entry false b true) (sym same)
    ∙ ap (λ (o : Option Cause). option_map
    (λ c. record { section = sections.Elf; cause = c; at = entry.at }) o)
    (sym is)

pub by-cause : (bytes : List ℕ) (entry : SectionHeader) (seen here : Bool) (found : Option Cause)
    (cause : Cause)
    (fault : LoadFault) → seen ≡ here → found ≡ first_failure (wanted_tests bytes entry seen)
    → found ≡ Some cause → fault ≡ record { section = sections.Elf; cause = cause; at = entry.at }
    → in_file bytes entry false here true ≡ Some fault
by-cause bytes entry seen here found cause fault same is some fault-is =
    by-tests bytes entry seen here (Some cause) same (sym some ∙ is)
    ∙ ap (λ (f : LoadFault). Some f) (sym fault-is)

pub by-none : (bytes : List ℕ) (entry : SectionHeader) (seen here : Bool) (found : Option Cause)
    → seen ≡ here
    → found ≡ first_failure (wanted_tests bytes entry seen) → found ≡ None
    → in_file bytes entry false here true ≡ None
by-none bytes entry seen here found same is none =
    by-tests bytes entry seen here None same (sym none ∙ is)

pub unseen : (bytes : List ℕ) (entry : SectionHeader) (seen here : Bool) (found : Option Cause)
    → seen ≡ here
    → found ≡ first_failure (wanted_tests bytes entry seen) → found ≡ None → here ≡ false
unseen bytes entry true here found same is none = absurd (never (sym none ∙ is))
  where
    never : None ≡ (let f : Cause → Option Cause = λ z. Some z in f causes.SectionTwice) → ⊥
    never h = cc
unseen bytes entry false here found same is none = sym same

-- ---- header by header

pub items-next : (bytes : List ℕ) (k n : ℕ) → k < n → item_fault sections.Elf (section_item bytes k)
    ≡ None
    → first_fault sections.Elf (map (section_item bytes) (range_with_len k (n - k)))
    ≡ first_fault sections.Elf
    (map (section_item bytes) (range_with_len (k + 1) (n - (k + 1))))
items-next bytes k n lt good =
    let more : n - k ≡ suc (n - (k + 1)) = omega arith in
    ap (λ (m : ℕ). first_fault sections.Elf (map (section_item bytes) (range_with_len k m))) more
    ∙ ap (λ (o : Option LoadFault). option_or o (first_fault sections.Elf
    (map (section_item bytes) (range_with_len (k + 1) (n - (k + 1)))))) good

pub items-stop : (bytes : List ℕ) (k n : ℕ) (f : LoadFault) → k < n
    → item_fault sections.Elf (section_item bytes k) ≡ Some f
    → first_fault sections.Elf (map (section_item bytes) (range_with_len k (n - k))) ≡ Some f
items-stop bytes k n f lt bad =
    let more : n - k ≡ suc (n - (k + 1)) = omega arith in
    ap (λ (m : ℕ). first_fault sections.Elf (map (section_item bytes) (range_with_len k m))) more
    ∙ ap (λ (o : Option LoadFault). option_or o (first_fault sections.Elf
    (map (section_item bytes) (range_with_len (k + 1) (n - (k + 1)))))) bad

pub items-end : (bytes : List ℕ) (k n : ℕ) → n ≤ k
    → first_fault sections.Elf (map (section_item bytes) (range_with_len k (n - k))) ≡ None
items-end bytes k n le =
    let done : n - k ≡ 0 = omega arith in
    ap (λ (m : ℕ). first_fault sections.Elf (map (section_item bytes) (range_with_len k m))) done

-- ---- all sections

and-true : (b : Bool) → (b && true) ≡ false → b ≡ false
and-true true h = h
and-true false h = refl

-- a file without section headers has no fault in them
pub without : (bytes : List ℕ) (header : FileHeader) → header ≡ file_header bytes → header.shnum ≡ 0
    → is_invalid_section_table bytes header ≡ false → first_fault sections.Elf (section_items bytes)
    ≡ None
unfolding section_items
without bytes header same zero_sections sound =
    let none : has_sections header ≡ false =
    and-true (has_sections header) (ap (λ (n : ℕ). has_sections header &&
    ((n == 0) || nat_le 0xff00 header.shnum || not
    (header.shentsize == 64) || nat_le header.shnum header.shstrndx || is_outside bytes header.shoff
    (64 * header.shnum))) (sym zero_sections) ∙ sound) in
    let none' : has_sections (file_header bytes) ≡ false = ap has_sections (sym same) ∙ none in
    let zero' : (file_header bytes).shnum ≡ 0 = ap (λ (h : FileHeader). h.shnum) (sym same)
    ∙ zero_sections in
    ap (λ (b : Bool). first_fault sections.Elf
    (cond b (names_item bytes ∷ []) [] ++ map (section_item bytes)
    (range_with_len 0 (file_header bytes).shnum))) none'
    ∙ ap (λ (n : ℕ). first_fault sections.Elf (map (section_item bytes) (range_with_len 0 n))) zero'

-- a file with section headers: the fault of the name section, or the first fault of a header
pub with-some : (bytes : List ℕ) (header : FileHeader) → header ≡ file_header bytes
    → (header.shnum == 0) ≡ false
    → first_fault sections.Elf (section_items bytes)
    ≡ option_or (item_fault sections.Elf (names_item bytes))
    (first_fault sections.Elf (map (section_item bytes) (range_with_len 0 header.shnum)))
unfolding section_items
with-some bytes header same some =
    let there : has_sections (file_header bytes) ≡ true =
    ap has_sections (sym same) ∙ ap (λ (b : Bool). not (b && (header.shoff == 0))) some in
    ap (λ (b : Bool). first_fault sections.Elf
    (cond b (names_item bytes ∷ []) [] ++ map (section_item bytes)
    (range_with_len 0 (file_header bytes).shnum))) there
    ∙ ap (λ (h : FileHeader). option_or (item_fault sections.Elf (names_item bytes))
    (first_fault sections.Elf (map (section_item bytes) (range_with_len 0 h.shnum)))) (sym same)

pub spans-none : (bytes : List ℕ) → replicate 8 None ≡ spans_before bytes 0
unfolding spans_before
spans-none bytes = refl
