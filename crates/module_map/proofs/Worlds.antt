-- Sorted modules as a world: the meaning of a name, an address, a gap and a change.
use Rattle.std.proofs.Common.{◌≡◌, ◌≢◌, ◌⊎◌, inl, inr, ℕ, zero, suc, ◌-◌, ◌^◌, ◌<◌, ◌≤◌, Bool, true}
use Rattle.std.proofs.Common.{false, List, [], ◌∷◌, length, map}
use Rattle.std.proofs.Common.{get_or, refl, sym, ap, ◌∙◌, arith}
use Rattle.std.specs.Prelude.{Option, None, Some, is_some, position, find, slice_get, insert}
use Rattle.std.specs.Prelude.{remove, nat_lt, not, ◌&&◌, ◌||◌}
use Rattle.std.specs.List.{list_any}
use Rattle.std.specs.Str.{bytes_eq}
use Rattle.std.proofs.lemmas.Bool.{cases_lt, lt-ltb, ltb-true, false_from_ne_true}
use Rattle.std.proofs.lemmas.List.Quantifiers.{position-Some}
use Rattle.std.proofs.lemmas.Slice.Eq.{bytes_eq-Decides}
use Rattle.module_map.specs.World.{Loaded, start_of, end_of, is_named, meets, insert_by_address}
use Rattle.module_map.specs.World.{without}
use Rattle.module_map.specs.World.{first_overlap}
use Rattle.module_map.specs.Changes.{place_fault}
use Rattle.module_map.specs.declared.faults.MapFault.TheVariants.{Range, Overlap}
use Rattle.module_map.specs.Private.Serials.{NumberedModule, loaded_of}
use Rattle.module_map.specs.Private.Rising.{IsClear, Overlaps, IsOther, IsOnly}
use Rattle.module_map.proofs.Positions.{is_at, is_nowhere, position_of_map}
use Rattle.module_map.proofs.Names.{all-fail}

module _ (p : Loaded → Bool) where
  abbrev at_loaded : NumberedModule → Bool
  at_loaded h = p h.loaded

  none_any : (hs : List NumberedModule) → ((k : ℕ) (d : NumberedModule) → k < length hs
      → at_loaded (get_or hs k d) ≡ false)
      → list_any p (map loaded_of hs) ≡ false
  none_any [] none = refl
  none_any (h ∷ hs) none = let first = none 0 h (omega arith) in
      rw first (none_any hs (λ k d lt. none (suc k) d (omega arith)))

  some_any : (hs : List NumberedModule) (i : ℕ) (d : NumberedModule) → i < length hs
      → at_loaded (get_or hs i d) ≡ true
      → list_any p (map loaded_of hs) ≡ true
  some_any [] i d lt here = absurd (omega arith)
  some_any (h ∷ hs) zero d lt here = rw here refl
  some_any (h ∷ hs) (suc i) d lt here = rw (some_any hs i d (omega arith) here)
      (or_true (p h.loaded))
    where
      or_true : (b : Bool) → (b || true) ≡ true
      or_true true = refl
      or_true false = refl

  none_found : (hs : List NumberedModule)
      → ((k : ℕ) (d : NumberedModule) → k < length hs → at_loaded (get_or hs k d) ≡ false)
      → find p (map loaded_of hs) ≡ None
  none_found [] none = refl
  none_found (h ∷ hs) none = let first = none 0 h (omega arith) in
      rw first (none_found hs (λ k d lt. none (suc k) d (omega arith)))

  some_found : (hs : List NumberedModule) (i : ℕ) (d : NumberedModule) → i < length hs
      → at_loaded (get_or hs i d) ≡ true
      → ((k : ℕ) → k < i → at_loaded (get_or hs k d) ≡ false)
      → find p (map loaded_of hs) ≡ Some (get_or hs i d).loaded
  some_found [] i d lt here before = absurd (omega arith)
  some_found (h ∷ hs) zero d lt here before = rw here refl
  some_found (h ∷ hs) (suc i) d lt here before =
      let first = before 0 (omega arith) in
      rw first (some_found hs i d (omega arith) here (λ k k_lt. before (suc k) (omega arith)))

  in-list : (hs : List NumberedModule) (i : ℕ) → position at_loaded hs ≡ Some i → i < length hs
  in-list [] i e = cc
  in-list (h ∷ hs) i e = (position-Some at_loaded (h ∷ hs) i h e).0

  any_by : (hs : List NumberedModule) (o : Option ℕ) → position at_loaded hs ≡ o
      → is_some o ≡ list_any p (map loaded_of hs)
  any_by hs None e = sym (none_any hs (all-fail at_loaded hs e))
  any_by [] (Some i) e = cc
  any_by (h ∷ hs) (Some i) e = let at = position-Some at_loaded (h ∷ hs) i h e in
      sym (some_any (h ∷ hs) i h at.0 at.1)

  pub any_is : (hs : List NumberedModule) → is_some (position at_loaded hs)
      ≡ list_any p (map loaded_of hs)
  any_is hs = any_by hs (position at_loaded hs) refl

  pub found_none : (hs : List NumberedModule) → position at_loaded hs ≡ None
      → find p (map loaded_of hs) ≡ None
  found_none hs e = none_found hs (all-fail at_loaded hs e)

  pub found_some : (hs : List NumberedModule) (i : ℕ) (d : NumberedModule)
      → position at_loaded hs ≡ Some i
      → find p (map loaded_of hs) ≡ Some (get_or hs i d).loaded
  found_some hs i d e = let at =
      position-Some at_loaded hs i d e in some_found hs i d at.0 at.1 at.2

pub slice_get_map : (hs : List NumberedModule) (i : ℕ) (d : NumberedModule) → i < length hs
    → slice_get (map loaded_of hs) i ≡ Some (get_or hs i d).loaded
slice_get_map [] i d lt = absurd (omega arith)
slice_get_map (h ∷ hs) zero d lt = refl
slice_get_map (h ∷ hs) (suc i) d lt = slice_get_map hs i d (omega arith)

pub slice_get_past : (hs : List NumberedModule) (i : ℕ) → length hs ≤ i
    → slice_get (map loaded_of hs) i ≡ None
slice_get_past [] i le = refl
slice_get_past (h ∷ hs) zero le = absurd (omega arith)
slice_get_past (h ∷ hs) (suc i) le = slice_get_past hs i (omega arith)

-- ---- changes

not-below : (a b : ℕ) → b ≤ a → nat_lt a b ≡ false
not-below a b le = false_from_ne_true (nat_lt a b) (λ e. let lt = ltb-true a b e in omega arith)

pub insert-at : (hs : List NumberedModule) (at : ℕ) (h : NumberedModule) → at ≤ length hs
    → ((k : ℕ) (d : NumberedModule) → k < at → start_of (get_or hs k d).loaded < start_of h.loaded)
    → ((d : NumberedModule) → at < length hs → start_of h.loaded ≤ start_of (get_or hs at d).loaded)
    → insert_by_address h.loaded (map loaded_of hs) ≡ map loaded_of (insert hs at h)
insert-at [] zero h le before after = refl
insert-at [] (suc at) h le before after = absurd (omega arith)
insert-at (x ∷ xs) zero h le before after =
    rw (not-below (start_of x.loaded) (start_of h.loaded) (after x (omega arith))) refl
insert-at (x ∷ xs) (suc at) h le before after =
    rw (lt-ltb (start_of x.loaded) (start_of h.loaded) (before 0 x (omega arith)))
    (ap (λ (l : List Loaded). x.loaded ∷ l)
    (insert-at xs at h (omega arith) (λ k d lt. before (suc k) d (omega arith))
    (λ d lt. after d (omega arith))))

-- inserting a module into a gap is inserting it in ascending order of address
pub insert-clear : (hs : List NumberedModule) (at : ℕ) (h : NumberedModule)
    → IsClear hs (length hs) (start_of h.loaded) (end_of h.loaded) at
    → start_of h.loaded < end_of h.loaded
    → insert_by_address h.loaded (map loaded_of hs) ≡ map loaded_of (insert hs at h)
insert-clear hs at h clear order = let within = clear.within in insert-at hs at h within
    (λ k d lt. clear.under k d lt (inl (omega arith)))
    (λ d lt. let a = clear.after at d (omega arith) lt (inl lt) in omega arith)

-- all modules have other names
keep-all : (name : List ℕ) (hs : List NumberedModule)
    → ((k : ℕ) (d : NumberedModule) → k < length hs → is_named name (get_or hs k d).loaded ≡ false)
    → without name (map loaded_of hs) ≡ map loaded_of hs
keep-all name [] others = refl
keep-all name (h ∷ hs) others =
    let first = others 0 h (omega arith) in
    rw first (ap (λ (l : List Loaded). h.loaded ∷ l)
    (keep-all name hs (λ k d lt. others (suc k) d (omega arith))))

drop-one : (name : List ℕ) (hs : List NumberedModule) (own : ℕ) → own < length hs
    → ((d : NumberedModule) → is_named name (get_or hs own d).loaded ≡ true)
    → ((k : ℕ) (d : NumberedModule) → k < length hs → IsOther own k
    → is_named name (get_or hs k d).loaded ≡ false) → without name (map loaded_of hs)
    ≡ map loaded_of (remove hs own)
drop-one name [] own lt here others = absurd (omega arith)
drop-one name (h ∷ hs) zero lt here others =
    let first = here h in rw first (keep-all name hs
    (λ k d k_lt. others (suc k) d (omega arith) (inr (omega arith))))
drop-one name (h ∷ hs) (suc own) lt here others = let first =
    others 0 h (omega arith) (inl (omega arith)) in
    rw first (ap (λ (l : List Loaded). h.loaded ∷ l)
    (drop-one name hs own (omega arith) here
    (λ k d k_lt o. others (suc k) d (omega arith) (up k o))))
  where
    up : (k : ℕ) → IsOther own k → IsOther (suc own) (suc k)
    up k (inl below) = inl (omega arith)
    up k (inr above) = inr (omega arith)

pub not-named : (name : List ℕ) (h : NumberedModule) → h.loaded.name ≢ name
    → is_named name h.loaded ≡ false
not-named name h ne = false_from_ne_true (bytes_eq h.loaded.name name)
    (λ e. ne ((bytes_eq-Decides h.loaded.name name).0 e))

pub is-its-name : (name : List ℕ) (h : NumberedModule) → h.loaded.name ≡ name
    → is_named name h.loaded ≡ true
is-its-name name h e = (bytes_eq-Decides h.loaded.name name).1 e

pub without-is : (name : List ℕ) (hs : List NumberedModule) (own : ℕ) → IsOnly hs name own
    → without name (map loaded_of hs) ≡ map loaded_of (remove hs own)
without-is name hs own only =
    drop-one name hs own only.within (λ d. is-its-name name (get_or hs own d) (only.here d))
    (λ k d lt o. not-named name (get_or hs k d) (only.others k d lt o))

-- ---- free addresses for a module

meets-no : (low e : ℕ) (other : Bool) → e ≤ low → (nat_lt low e && other) ≡ false
meets-no low e other le = rw (not-below low e le) refl

meets-past : (high s : ℕ) (other : Bool) → high ≤ s → (other && nat_lt s high) ≡ false
meets-past high s other le = rw (not-below s high le) (and_false other)
  where
    and_false : (b : Bool) → (b && false) ≡ false
    and_false true = refl
    and_false false = refl

module _ (hs : List NumberedModule) (own : ℕ) (m : Loaded)
    (itself : (d : NumberedModule) → own < length hs → is_named m.name (get_or hs own d).loaded
    ≡ true)
    (others : (k : ℕ) (d : NumberedModule) → k < length hs → IsOther own k
    → is_named m.name (get_or hs k d).loaded ≡ false) where
  abbrev meeting : Loaded → Bool
  meeting other = not (is_named m.name other) && meets m other

  misses : (k : ℕ) (d : NumberedModule) → k < length hs
      → (IsOther own k → meets m (get_or hs k d).loaded ≡ false)
      → meeting (get_or hs k d).loaded ≡ false
  misses k d lt none = by (cases_lt k own) (cases_lt own k)
    where
      apart : IsOther own k → meeting (get_or hs k d).loaded ≡ false
      apart o = rw (others k d lt o, none o) refl

      by : (k < own) ⊎ (own ≤ k) → (own < k) ⊎ (k ≤ own) → meeting (get_or hs k d).loaded ≡ false
      by (inl below) q = apart (inl below)
      by (inr from) (inl above) = apart (inr above)
      by (inr from) (inr to) = let same : k ≡ own = omega arith in let named =
          itself d (omega arith) in rw same (rw named refl)

  pub met_is : (met : ℕ) → Overlaps hs own (start_of m) (end_of m) met → first_overlap m
      (map loaded_of hs)
      ≡ Some met
  met_is met is = position_of_map meeting loaded_of hs
      ∙ is_at (λ (h : NumberedModule). meeting h.loaded) hs met is.within
      (λ d. let named = others met d is.within is.other in let begins = is.begins d in let ends =
      is.ends d in rw (named, lt-ltb _ _ ends, lt-ltb _ _ begins) refl)
      (λ k d lt. let w = is.within in misses k d (omega arith)
      (λ o. meets-no (start_of m) (end_of (get_or hs k d).loaded) _ (is.before k d lt o)))

  pub nothing_met : (at : ℕ) → IsClear hs own (start_of m) (end_of m) at
      → first_overlap m (map loaded_of hs) ≡ None
  nothing_met at clear =
      position_of_map meeting loaded_of hs
      ∙ is_nowhere (λ (h : NumberedModule). meeting h.loaded) hs
      (λ k d lt. misses k d lt (λ o. by k d lt o (cases_lt k at)))
    where
      by : (k : ℕ) (d : NumberedModule) → k < length hs → IsOther own k → (k < at) ⊎ (at ≤ k)
          → meets m (get_or hs k d).loaded ≡ false
      by k d lt o (inl below) = meets-no (start_of m) (end_of (get_or hs k d).loaded) _
          (clear.before k d below o)
      by k d lt o (inr from) = meets-past (end_of m) (start_of (get_or hs k d).loaded) _
          (clear.after k d from lt o)

pub range-fault : (m : Loaded) (others : List Loaded) → 2 ^ 64 ≤ end_of m
    → place_fault m others ≡ Some Range
range-fault m others le = rw (lt-ltb (2 ^ 64 - 1) (end_of m) (omega arith)) refl

pub overlap-fault : (m : Loaded) (others : List Loaded) (met : ℕ) → end_of m < 2 ^ 64
    → first_overlap m others ≡ Some met
    → place_fault m others ≡ Some (Overlap met)
overlap-fault m others met lt e = rw (not-below (2 ^ 64 - 1) (end_of m) (omega arith), e) refl

pub no_place-fault : (m : Loaded) (others : List Loaded) → end_of m < 2 ^ 64
    → first_overlap m others ≡ None → place_fault m others ≡ None
no_place-fault m others lt e = rw (not-below (2 ^ 64 - 1) (end_of m) (omega arith), e) refl
