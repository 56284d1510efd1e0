-- The item of a section header, and the spans after it is processed.
use Rattle.std.proofs.Common.{◌≡◌, ℕ, suc, ◌+◌, Bool, true, false, cond, ◌&&◌, List, [], ◌∷◌}
use Rattle.std.proofs.Common.{get_or, set, Option, Some, None, refl, sym, ap, ◌∙◌, arith, position}
use Rattle.std.proofs.Common.{option_map, is_some, is_none, find, Result, Ok, Err}
use Rattle.std.specs.List.{list_any, range_with_len}
use Rattle.std.specs.Option.{option_or, option_map_or}
use Rattle.std.specs.Str.{bytes_eq}
use Rattle.std.specs.Result.{result_ok}
use Rattle.dwarf_bytes.specs.declared.fault.ReadFault.{ReadFault}
use Rattle.dwarf_bytes.specs.declared.fault.LoadFault.{LoadFault}
use Rattle.dwarf_bytes.specs.declared.fault.Section.TheVariants as sections
use Rattle.dwarf_bytes.specs.declared.fault.Cause.TheVariants as causes
use Rattle.dwarf_bytes.specs.declared.headers.SectionHeader.{SectionHeader}
use Rattle.dwarf_bytes.specs.Numbers.{text_at}
use Rattle.dwarf_bytes.specs.Faults.{item_fault}
use Rattle.dwarf_bytes.specs.Headers.{is_nobits, is_compressed, is_outside}
use Rattle.dwarf_bytes.specs.declared.fault.Section.{Section}
use Rattle.dwarf_bytes.specs.declared.layout.Span.{Span}
use Rattle.dwarf_bytes.specs.Words.{section_name}
use Rattle.dwarf_bytes.specs.Elf.{names, name_of, is_seen, is_wanted, section_item, wanted}
use Rattle.dwarf_bytes.specs.Elf.{is_named, span_of, section_header}
use Rattle.dwarf_bytes.specs.Private.FoundSections.{span_before, spans_before}
use Rattle.dwarf_bytes.proofs.Objects.Sections.{IsOnly, any-and, only-any, only-and, none-map}
use Rattle.dwarf_bytes.proofs.Objects.Sections.{only-set, find-push, range-push, any-found, is_name}
use Rattle.dwarf_bytes.proofs.Objects.Sections.{number-none, number-some}

-- ---- the item of the k-th header

pub named-ok : (bytes table name : List ℕ) (k offset : ℕ) (entry : SectionHeader)
    → table ≡ names bytes
    → offset ≡ entry.name → entry ≡ section_header bytes k → text_at table offset ≡ Ok name
    → name_of bytes k ≡ Some name
unfolding name_of
named-ok bytes table name k offset entry t o e read =
    ap (λ (h : SectionHeader). result_ok (text_at (names bytes) h.name)) (sym e)
    ∙ ap (λ (n : ℕ). result_ok (text_at (names bytes) n)) (sym o)
    ∙ ap (λ (b : List ℕ). result_ok (text_at b offset)) (sym t)
    ∙ ap (λ (r : Result (List ℕ) ReadFault). result_ok r) read

pub named-err : (bytes table : List ℕ) (k offset : ℕ) (entry : SectionHeader) (fault : ReadFault)
    → table ≡ names bytes → offset ≡ entry.name → entry ≡ section_header bytes k
    → text_at table offset ≡ Err fault
    → name_of bytes k ≡ None
unfolding name_of
named-err bytes table k offset entry fault t o e read =
    ap (λ (h : SectionHeader). result_ok (text_at (names bytes) h.name)) (sym e)
    ∙ ap (λ (n : ℕ). result_ok (text_at (names bytes) n)) (sym o)
    ∙ ap (λ (b : List ℕ). result_ok (text_at b offset)) (sym t)
    ∙ ap (λ (r : Result (List ℕ) ReadFault). result_ok r) read

-- the fault of an item, by the outcomes of its tests
abbrev pub fault_by : Bool → Bool → Bool → Bool → Bool → Bool → ℕ → Option LoadFault
fault_by unnamed seen here nobits compressed outside at =
    item_fault sections.Elf (record {
      at = at;
      tests = (unnamed, causes.Table) ∷ (seen, causes.SectionTwice) ∷
          (here && nobits, causes.Table) ∷ (here && compressed, causes.Compressed) ∷
          (here && outside, causes.Table) ∷ [];
    })

abbrev pub in_file : List ℕ → SectionHeader → Bool → Bool → Bool → Option LoadFault
in_file bytes entry unnamed seen here =
    fault_by unnamed seen here (is_nobits entry) (is_compressed entry)
    (is_outside bytes entry.offset entry.size) entry.at

some-map : {X Y : Type 0} (f : X → Y) (o : Option X) → is_some o ≡ is_some (option_map f o)
some-map f None = refl
some-map f (Some x) = refl

pub seen-is : (bytes : List ℕ) (k i : ℕ) (name : List ℕ) → name_of bytes k ≡ Some name
    → IsOnly (is_name name) wanted i → is_seen bytes k
    ≡ is_some (get_or (spans_before bytes k) i None)
unfolding spans_before
seen-is bytes k i name named is_only =
    ap (λ (o : Option (List ℕ)). list_any
    (λ s. option_map_or (λ n. bytes_eq n (section_name s)) o false && list_any
    (λ j. is_named bytes j s) (range_with_len 0 k)) wanted) named
    ∙ only-and (is_name name) (λ s. list_any (λ j. is_named bytes j s) (range_with_len 0 k))
    (span_before bytes k)
    (λ s. any-found (λ j. is_named bytes j s) (range_with_len 0 k)
    ∙ some-map (λ j. span_of (section_header bytes j)) _) wanted i is_only

wanted-at : (bytes : List ℕ) (k : ℕ) (name : List ℕ) → name_of bytes k ≡ Some name
    → is_wanted bytes k ≡ list_any (is_name name) wanted
wanted-at bytes k name named =
    ap (λ (o : Option (List ℕ)). list_any
    (λ s. option_map_or (λ n. bytes_eq n (section_name s)) o false) wanted) named

-- a wanted section
pub checked : (bytes : List ℕ) (k i : ℕ) (name : List ℕ) (entry : SectionHeader)
    (found : List (Option Span))
    → name_of bytes k ≡ Some name → Some i ≡ position (is_name name) wanted
    → entry ≡ section_header bytes k
    → found ≡ spans_before bytes k → item_fault sections.Elf (section_item bytes k)
    ≡ in_file bytes entry false
    (is_some (get_or found i None)) true
checked bytes k i name entry found named number e f =
    let is_only = number-some name i number in
    let seen = seen-is bytes k i name named is_only
    ∙ ap (λ (spans : List (Option Span)). is_some (get_or spans i None)) (sym f) in
    let here = wanted-at bytes k name named ∙ only-any (is_name name) wanted i is_only in
    let h = section_header bytes k in
    ap (λ (o : Option (List ℕ)). in_file bytes h (is_none o) (is_seen bytes k) (is_wanted bytes k))
    named
    ∙ ap (λ (b : Bool). in_file bytes h false b (is_wanted bytes k)) seen
    ∙ ap (λ (b : Bool). in_file bytes h false (is_some (get_or found i None)) b) here
    ∙ ap (λ (g : SectionHeader). in_file bytes g false (is_some (get_or found i None)) true) (sym e)

-- a section that is not wanted
pub passed_over : (bytes : List ℕ) (k : ℕ) (name : List ℕ) → name_of bytes k ≡ Some name
    → None ≡ position (is_name name) wanted → item_fault sections.Elf (section_item bytes k) ≡ None
passed_over bytes k name named number =
    let none = number-none name number in
    let seen : is_seen bytes k ≡ false =
    ap (λ (o : Option (List ℕ)). list_any
    (λ s. option_map_or (λ n. bytes_eq n (section_name s)) o false && list_any
    (λ j. is_named bytes j s) (range_with_len 0 k)) wanted) named
    ∙ any-and (is_name name) (λ s. list_any (λ j. is_named bytes j s) (range_with_len 0 k)) wanted
    none in
    let here = wanted-at bytes k name named ∙ none in
    let h = section_header bytes k in
    ap (λ (o : Option (List ℕ)). in_file bytes h (is_none o) (is_seen bytes k) (is_wanted bytes k))
    named
    ∙ ap (λ (b : Bool). in_file bytes h false b (is_wanted bytes k)) seen
    ∙ ap (λ (b : Bool). in_file bytes h false false b) here

-- a section without a name
pub unnamed : (bytes : List ℕ) (k : ℕ) (entry : SectionHeader) → name_of bytes k ≡ None
    → entry ≡ section_header bytes k → item_fault sections.Elf (section_item bytes k) ≡ Some
    (record { section = sections.Elf; cause = causes.Table; at = entry.at })
unnamed bytes k entry named e =
    let h = section_header bytes k in
    ap (λ (o : Option (List ℕ)). in_file bytes h (is_none o) (is_seen bytes k) (is_wanted bytes k))
    named
    ∙ ap (λ (g : SectionHeader). fault_by true (is_seen bytes k) (is_wanted bytes k) (is_nobits h)
    (is_compressed h)
    (is_outside bytes h.offset h.size) g.at) (sym e)

-- ---- the spans after the k-th header

or_none : {X : Type 0} (o : Option X) → option_or o None ≡ o
or_none None = refl
or_none (Some x) = refl

span-next : (bytes : List ℕ) (k : ℕ) (s : Section) (b : Bool) → is_named bytes k s ≡ b
    → span_before bytes (k + 1) s ≡ option_or (span_before bytes k s)
    (cond b (Some (span_of (section_header bytes k))) None)
span-next bytes k s b is =
    let next : k + 1 ≡ suc k = omega arith in
    let at : 0 + k ≡ k = omega arith in
    let f = λ (j : ℕ). span_of (section_header bytes j) in
    ap (λ (n : ℕ). span_before bytes n s) next
    ∙ ap (λ (r : List ℕ). option_map f (find (λ j. is_named bytes j s) r)) (range-push 0 k)
    ∙ ap (option_map f) (find-push (λ j. is_named bytes j s) (range_with_len 0 k) (0 + k))
    ∙ ap (λ (j : ℕ). option_map f (option_or (find (λ i. is_named bytes i s) (range_with_len 0 k))
    (cond (is_named bytes j s) (Some j) None))) at
    ∙ ap (λ (t : Bool). option_map f (option_or
    (find (λ i. is_named bytes i s) (range_with_len 0 k))
    (cond t (Some k) None))) is
    ∙ through f (find (λ i. is_named bytes i s) (range_with_len 0 k)) k b
  where
    through : {X : Type 0} (f : ℕ → X) (o : Option ℕ) (n : ℕ) (t : Bool)
        → option_map f (option_or o (cond t (Some n) None))
        ≡ option_or (option_map f o) (cond t (Some (f n)) None)
    through f None n true = refl
    through f None n false = refl
    through f (Some x) n t = refl

named-by : (bytes : List ℕ) (k : ℕ) (name : List ℕ) (s : Section) → name_of bytes k ≡ Some name
    → is_named bytes k s ≡ is_name name s
named-by bytes k name s named =
    ap (λ (o : Option (List ℕ)). option_map_or (λ n. bytes_eq n (section_name s)) o false) named

no_span-yet : {X : Type 0} (o p : Option X) → is_some o ≡ false → option_or o p ≡ p
no_span-yet None p h = refl
no_span-yet (Some x) p h = absurd cc

-- the k-th header adds the span of a wanted section
pub spans-set : (bytes : List ℕ) (k i : ℕ) (name : List ℕ) (entry : SectionHeader)
    (found : List (Option Span))
    → name_of bytes k ≡ Some name → Some i ≡ position (is_name name) wanted
    → entry ≡ section_header bytes k
    → found ≡ spans_before bytes k → is_some (get_or found i None) ≡ false
    → set found i (Some (span_of entry)) ≡ spans_before bytes (k + 1)
unfolding spans_before
spans-set bytes k i name entry found named number e f free =
    ap (λ (spans : List (Option Span)). set spans i (Some (span_of entry))) f
    ∙ only-set (is_name name) (span_before bytes k) (span_before bytes (k + 1)) (span_of entry)
    (λ s h. span-next bytes k s false (named-by bytes k name s named ∙ h)
    ∙ or_none (span_before bytes k s))
    (λ s h n. span-next bytes k s true (named-by bytes k name s named ∙ h)
    ∙ no_span-yet (span_before bytes k s) _ n
    ∙ ap (λ (g : SectionHeader). Some (span_of g)) (sym e))
    wanted i (number-some name i number)
    (ap (λ (spans : List (Option Span)). is_some (get_or spans i None)) (sym f)
    ∙ free)

-- the k-th header adds no span
pub spans-same : (bytes : List ℕ) (k : ℕ) (name : List ℕ) (found : List (Option Span))
    → name_of bytes k ≡ Some name
    → None ≡ position (is_name name) wanted → found ≡ spans_before bytes k
    → found ≡ spans_before bytes (k + 1)
unfolding spans_before
spans-same bytes k name found named number f =
    f ∙ sym (none-map (is_name name) (span_before bytes k) (span_before bytes (k + 1))
    (λ s h. span-next bytes k s false (named-by bytes k name s named ∙ h)
    ∙ or_none (span_before bytes k s)) wanted
    (number-none name number))
