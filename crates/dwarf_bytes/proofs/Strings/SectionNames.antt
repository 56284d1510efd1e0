-- A name that is not scanned to its end: whether it has a NUL, and whether it is a wanted one.
use Rattle.std.proofs.Common.{◌≡◌, ℕ, zero, suc, ◌+◌, ◌-◌, ◌<◌, ◌≤◌, Bool, true, false, not, ◌&&◌}
use Rattle.std.proofs.Common.{◌||◌, cond, List, [], ◌∷◌, length, take, drop, get_or, Option, Some}
use Rattle.std.proofs.Common.{None, Ok, Err, refl, sym, ap, ◌∙◌, arith}
use Rattle.std.specs.Prelude.{◌≢◌, position, option_map, ◌==◌, nat_eq, nat_lt}
use Rattle.std.specs.List.{starts_with, prefix_len, list_any}
use Rattle.std.specs.Option.{option_map_or}
use Rattle.std.specs.Str.{bytes_eq}
use Rattle.std.proofs.lemmas.Bool.{ne_eqb, eqb-true, eqb-false, eq-eqb, ltb-true, ltb-false, lt-ltb}
use Rattle.std.proofs.lemmas.Bool.{le-ltb}
use Rattle.std.proofs.lemmas.List.{get_or-drop, length-drop, take_all}
use Rattle.dwarf_bytes.specs.declared.fault.ReadFault.TheVariants.{Unterminated}
use Rattle.dwarf_bytes.specs.declared.fault.Section.{Section}
use Rattle.dwarf_bytes.specs.declared.fault.Section.TheVariants as sections
use Rattle.dwarf_bytes.specs.Numbers.{text_front, text_at, EndsStrings}
use Rattle.dwarf_bytes.specs.Words.{section_name}
use Rattle.dwarf_bytes.specs.Elf.{wanted}
use Rattle.dwarf_bytes.specs.Private.SectionNames.{begins_with, IsNumberAt}
use Rattle.dwarf_bytes.proofs.Strings.FirstNuls.{is_nul, position-skip, position-first}
use Rattle.dwarf_bytes.proofs.Strings.FirstNuls.{position-none}

-- no string starts after the last NUL
pub string-after-end : (names : List ℕ) (end offset : ℕ) → EndsStrings names end → end ≤ offset
    → text_at names offset ≡ Err Unterminated
unfolding text_at text_front
string-after-end names end offset ends behind =
    let none : position is_nul (drop offset names) ≡ None =
    position-none is_nul (drop offset names) (λ k lt.
    let size = length-drop offset names in
    let here : get_or names (offset + k) 0 ≢ 0 =
    ends.none_after (offset + k) (omega (arith, behind)) (omega (arith, size, lt)) in
    ap (λ (b : ℕ). b == 0) (get_or-drop offset names k 0) ∙ ne_eqb (get_or names (offset + k) 0) 0
    here) in
    ap (λ (o : Option ℕ). option_map_or (λ (text : List ℕ). Ok text)
    (option_map (λ n. take n (drop offset names)) o)
    (Err Unterminated)) none

-- if a search finds nothing, no element satisfies the predicate
none-fails : (p : ℕ → Bool) (xs : List ℕ) → position p xs ≡ None → (k : ℕ) → k < length xs
    → p (get_or xs k 0) ≡ false
none-fails p [] none k lt = absurd (omega (arith, lt))
none-fails p (x ∷ xs) none k lt =
    by_test (p x) refl (λ (rest : position p xs ≡ None) (i : ℕ)
    (below : i < length xs). none-fails p xs rest i below) k lt
  where
    inner : (o : Option ℕ) → option_map (λ n. 1 + n) o ≡ None → o ≡ None
    inner None h = refl
    inner (Some n) h = cc

    by_test : (b : Bool) → p x ≡ b → (position p xs ≡ None → (i : ℕ) → i < length xs
        → p (get_or xs i 0) ≡ false)
        → (k : ℕ) → k < length (x ∷ xs) → p (get_or (x ∷ xs) k 0) ≡ false
    by_test true is later k lt = absurd (never (sym (position-first p x xs is) ∙ none))
      where
        never : (let f : ℕ → Option ℕ = λ z. Some z in f 0) ≡ None → ⊥
        never h = cc
    by_test false is later zero lt = is
    by_test false is later (suc k) lt =
        later (inner (position p xs) (sym (position-skip p x xs is) ∙ none)) k (omega (arith, lt))

-- every offset before the last NUL is that of a string
pub before-all : (names : List ℕ) (end offset : ℕ) → EndsStrings names end → offset < end
    → (name : List ℕ)
    × (text_at names offset ≡ Ok name) × (text_front (drop offset names) ≡ Some name)
unfolding text_at text_front
before-all names end offset ends before = by_found (position is_nul (drop offset names)) refl
  where
    by_found : (o : Option ℕ) → position is_nul (drop offset names) ≡ o → (name : List ℕ)
        × (text_at names offset ≡ Ok name) × (text_front (drop offset names) ≡ Some name)
    by_found (Some n) is = (
      take n (drop offset names),
      ap (λ (o : Option ℕ). option_map_or (λ (text : List ℕ). Ok text)
          (option_map (λ n. take n (drop offset names)) o)
          (Err Unterminated)) is,
      ap (λ (o : Option ℕ). option_map (λ n. take n (drop offset names)) o) is,
    )
    by_found None is =
        let nul = ends.last (omega (arith, before)) in
        let k : ℕ = nul.0 - offset in
        let size = length-drop offset names in
        let place : offset + k ≡ nul.0 = omega (arith, before, nul.1) in
        let fails = none-fails is_nul (drop offset names) is k
        (omega (arith, size, place, ends.within, nul.1, before)) in
        let zero_is : get_or (drop offset names) k 0 ≡ 0 =
        get_or-drop offset names k 0 ∙ (ap (λ (i : ℕ). get_or names i 0) place ∙ nul.2) in
        absurd (eqb-false (get_or (drop offset names) k 0) 0 fails zero_is)

-- ---- the string at the start of the bytes, by its own bytes and its NUL

abbrev HasNoNul : List ℕ → Type 0
HasNoNul text = list_any is_nul text ≡ false

or-false : (b c : Bool) → (b || c) ≡ false → (b ≡ false) × (c ≡ false)
or-false true c h = absurd cc
or-false false c h = (refl, h)

and-false : (b : Bool) → (b && false) ≡ false
and-false true = refl
and-false false = refl

nat-eq-sym : (a b : ℕ) → nat_eq a b ≡ nat_eq b a
nat-eq-sym a b = by (nat_eq a b) refl
  where
    by : (t : Bool) → nat_eq a b ≡ t → t ≡ nat_eq b a
    by true h = sym (eq-eqb b a (sym (eqb-true a b h)))
    by false h = sym (ne_eqb b a (λ e. eqb-false a b h (sym e)))

lt-suc : (a b : ℕ) → nat_lt (suc a) (suc b) ≡ nat_lt a b
lt-suc a b = by (nat_lt a b) refl
  where
    by : (t : Bool) → nat_lt a b ≡ t → nat_lt (suc a) (suc b) ≡ t
    by true h = let lt : a < b = ltb-true a b h in lt-ltb (suc a) (suc b) (omega (arith, lt))
    by false h = let le : b ≤ a = ltb-false a b h in le-ltb (suc a) (suc b) (omega (arith, le))

-- the string at the start, with one more byte before it
front-nul : (b : ℕ) (bytes : List ℕ) → is_nul b ≡ true → text_front (b ∷ bytes) ≡ Some []
unfolding text_front
front-nul b bytes is = ap (λ (o : Option ℕ). option_map (λ n. take n (b ∷ bytes)) o)
    (position-first is_nul b bytes is)

front-more : (b : ℕ) (bytes : List ℕ) → is_nul b ≡ false
    → text_front (b ∷ bytes) ≡ option_map (λ text. b ∷ text) (text_front bytes)
unfolding text_front
front-more b bytes is =
    ap (λ (o : Option ℕ). option_map (λ n. take n (b ∷ bytes)) o) (position-skip is_nul b bytes is)
    ∙ moved (position is_nul bytes)
  where
    moved : (o : Option ℕ) → option_map (λ n. take n (b ∷ bytes)) (option_map (λ n. 1 + n) o)
        ≡ option_map
        (λ text. b ∷ text) (option_map (λ n. take n bytes) o)
    moved None = refl
    moved (Some n) = let next : 1 + n ≡ suc n = omega arith in
        ap (λ (k : ℕ). Some (take k (b ∷ bytes))) next

front-none : (name : List ℕ) → text_front [] ≡ Some name → ⊥
unfolding text_front
front-none name h = cc

same_name : {x y : List ℕ} → (let f : List ℕ → Option (List ℕ) = λ z. Some z in f x ≡ f y) → x ≡ y
same_name h = cc

turned : (l e p g : Bool) → (l && ((e && p) && g)) ≡ (e && (l && (p && g)))
turned true true p g = refl
turned true false p g = refl
turned false true p g = refl
turned false false p g = refl

-- the string at the start equals `text` if and only if the bytes start with `text` and a NUL
pub front-is : (bytes text name : List ℕ) → HasNoNul text → text_front bytes ≡ Some name
    → begins_with bytes text ≡ bytes_eq name text
front-is [] text name plain h = absurd (front-none name h)
front-is (b ∷ bytes) [] name plain h =
    let some : nat_lt 0 (suc (length bytes)) ≡ true = lt-ltb 0 (suc (length bytes)) (omega arith) in
    rw some (by_nul (is_nul b) refl)
  where
    by_nul : (t : Bool) → is_nul b ≡ t → is_nul b ≡ bytes_eq name []
    by_nul true is = is ∙ ap (λ (n : List ℕ). bytes_eq n [])
        (same_name (sym (front-nul b bytes is) ∙ h))
    by_nul false is = is ∙ by_more (text_front bytes) (sym (front-more b bytes is) ∙ h)
      where
        by_more : (o : Option (List ℕ)) → option_map (λ text. b ∷ text) o ≡ Some name
            → false ≡ bytes_eq name []
        by_more None h = cc
        by_more (Some rest) h = ap (λ (n : List ℕ). bytes_eq n []) (same_name h)
front-is (b ∷ bytes) (t ∷ text) name plain h =
    by_nul (is_nul b) refl (λ (rest : List ℕ) (r : text_front bytes ≡ Some rest). front-is bytes
    text rest
    (or-false (is_nul t) (list_any is_nul text) plain).1 r)
  where
    by_nul : (c : Bool) → is_nul b ≡ c → ((rest : List ℕ) → text_front bytes ≡ Some rest
        → begins_with bytes text ≡ bytes_eq rest text) → begins_with (b ∷ bytes) (t ∷ text)
        ≡ bytes_eq name (t ∷ text)
    by_nul true is later =
        let differ : nat_eq t b ≡ false =
        ap (λ (n : ℕ). nat_eq t n) (eqb-true b 0 is)
        ∙ (or-false (is_nul t) (list_any is_nul text) plain).0 in
        rw differ (and-false (nat_lt (suc (length text)) (suc (length bytes)))
        ∙ ap (λ (n : List ℕ). bytes_eq n (t ∷ text)) (same_name (sym (front-nul b bytes is) ∙ h)))
    by_nul false is later = by_more (text_front bytes) refl (sym (front-more b bytes is) ∙ h)
      where
        by_more : (o : Option (List ℕ)) → text_front bytes ≡ o → option_map (λ text. b ∷ text) o
            ≡ Some name
            → begins_with (b ∷ bytes) (t ∷ text) ≡ bytes_eq name (t ∷ text)
        by_more None o h = cc
        by_more (Some rest) o h =
            rw (lt-suc (length text) (length bytes), nat-eq-sym t b)
            (turned (nat_lt (length text) (length bytes)) (nat_eq b t)
            (starts_with nat_eq bytes text)
            (get_or bytes (length text) 0 == 0)
            ∙ (ap (λ (c : Bool). nat_eq b t && c) (later rest o)
            ∙ ap (λ (n : List ℕ). bytes_eq n (t ∷ text)) (same_name h)))

-- ---- the wanted names

name-without-nul : (section : Section) → HasNoNul (section_name section)
name-without-nul sections.Elf = refl
name-without-nul sections.DebugInfo = refl
name-without-nul sections.DebugAbbrev = refl
name-without-nul sections.DebugLine = refl
name-without-nul sections.DebugLineStr = refl
name-without-nul sections.DebugStr = refl
name-without-nul sections.DebugStrOffsets = refl
name-without-nul sections.DebugAddr = refl
name-without-nul sections.DebugRnglists = refl

same-prefix : {X : Type 0} (p q : X → Bool) → ((x : X) → p x ≡ q x) → (xs : List X)
    → prefix_len p xs ≡ prefix_len q xs
same-prefix p q same [] = refl
same-prefix p q same (x ∷ xs) =
    ap (λ (b : Bool). cond b (1 + prefix_len p xs) 0) (same x)
    ∙ ap (λ (n : ℕ). cond (q x) (1 + n) 0) (same-prefix p q same xs)

same-position : {X : Type 0} (p q : X → Bool) → ((x : X) → p x ≡ q x) → (xs : List X)
    → position p xs ≡ position q xs
same-position p q same xs =
    ap (λ (n : ℕ). cond (nat_lt n (length xs)) (Some n) None)
    (same-prefix (λ y. not (p y)) (λ y. not (q y)) (λ x. ap not (same x)) xs)

-- the index of the name at an offset, by the bytes there
pub number-at : (names : List ℕ) (end offset : ℕ) (number : Option ℕ) → EndsStrings names end
    → offset < end
    → number ≡ position (λ s. begins_with (take (length names - offset) (drop offset names))
    (section_name s)) wanted
    → IsNumberAt names offset number
number-at names end offset number ends before number_is =
    let there = before-all names end offset ends before in
    let size = length-drop offset names in
    let rest : take (length names - offset) (drop offset names) ≡ drop offset names =
    take_all (length names - offset) (drop offset names) (omega (arith, size)) in (
      there.0,
      there.1,
      number_is ∙ (ap (λ (bytes : List ℕ). position (λ s. begins_with bytes (section_name s))
          wanted) rest
          ∙ same-position (λ s. begins_with (drop offset names) (section_name s))
          (λ s. bytes_eq there.0 (section_name s))
          (λ s. front-is (drop offset names) (section_name s) there.0 (name-without-nul s) there.2)
          wanted),
    )
