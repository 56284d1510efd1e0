-- The cache after changes of the modules.
use Rattle.std.proofs.Common.{◌≡◌, ℕ, ◌-◌, ◌^◌, ◌<◌, ◌≤◌, Bool, true, false, List, length, map}
use Rattle.std.proofs.Common.{get_or, refl, sym, ap, ◌∙◌, subst, arith}
use Rattle.std.specs.Prelude.{Option, None, Some, Ok, Err, is_some, position, insert, nat_le, ◌||◌}
use Rattle.std.proofs.lemmas.Bool.{true≢false, leb-false}
use Rattle.std.proofs.lemmas.List.{length-map, get_or_default}
use Rattle.module_map.specs.World.{most_modules, World, Loaded, start_of, end_of, is_named}
use Rattle.module_map.specs.World.{moved_to, insert_by_address}
use Rattle.module_map.specs.Changes.{is_full, is_taken, place_fault, IsExtentOf, Moves}
use Rattle.module_map.specs.declared.faults.Extent.{Extent}
use Rattle.module_map.specs.declared.faults.MapFault.TheVariants.{Range, Overlap}
use Rattle.module_map.specs.Counts.{ModuleMap}
use Rattle.module_map.specs.Private.Serials.{NumberedModule, loaded_of}
use Rattle.module_map.specs.Private.Rising.{IsClear, Overlaps, IsOnly, relocated, rebased}
use Rattle.module_map.proofs.Names.{all-fail}
use Rattle.module_map.proofs.Worlds.{any_is, insert-clear, met_is, nothing_met, overlap-fault}
use Rattle.module_map.proofs.Worlds.{no_place-fault}
use Rattle.module_map.proofs.Changing.{world_of, named, moved_past, moved_over, moved_into}

-- ---- adding a module

module _ (hs : List NumberedModule) (loads : ℕ) (m : Loaded)
    (new : position (named m.name) hs ≡ None) where
  none_itself : (d : NumberedModule) → length hs < length hs
      → is_named m.name (get_or hs (length hs) d).loaded ≡ true
  none_itself d lt = absurd (omega arith)

  pub place_over : (met : ℕ) → end_of m < 2 ^ 64 → Overlaps hs (length hs) (start_of m)
      (end_of m) met
      → place_fault m (map loaded_of hs) ≡ Some (Overlap met)
  place_over met lt is =
      overlap-fault m (map loaded_of hs) met lt
      (met_is hs (length hs) m none_itself
      (λ k d k_lt o. all-fail (named m.name) hs new k d k_lt) met is)

  pub place_free : (at : ℕ) → end_of m < 2 ^ 64 → IsClear hs (length hs) (start_of m) (end_of m) at
      → place_fault m (map loaded_of hs) ≡ None
  place_free at lt clear =
      no_place-fault m (map loaded_of hs) lt
      (nothing_met hs (length hs) m none_itself
      (λ k d k_lt o. all-fail (named m.name) hs new k d k_lt) at clear)

-- no module has a name that is not taken
pub free-name : (name : List ℕ) (hs : List NumberedModule) (loads : ℕ)
    → is_taken name (world_of hs loads) ≡ false
    → position (named name) hs ≡ None
free-name name hs loads e = by (position (named name) hs) refl
  where
    by : (o : Option ℕ) → position (named name) hs ≡ o → o ≡ None
    by None q = refl
    by (Some i) q = absurd (true≢false (sym (ap is_some q) ∙ any_is (is_named name) hs ∙ e))

-- ---- the same for an entry that was read at its index

abbrev LiesAt : Extent → Loaded → Type 0
LiesAt extent m = IsExtentOf extent m × (start_of m < end_of m) × (end_of m < 2 ^ 64)

module _ (hs : List NumberedModule) (loads : ℕ) (name : List ℕ) (base own : ℕ) (x : NumberedModule)
    (at_own : position (named name) hs ≡ Some own) (only : IsOnly hs name own)
    (is : x ≡ get_or hs own x) where
  abbrev its : Loaded
  its = moved_to base (get_or hs own x).loaded

  lies : (extent : Extent) → LiesAt extent (moved_to base x.loaded) → LiesAt extent its
  lies extent h = subst (λ (y : NumberedModule). LiesAt extent (moved_to base y.loaded)) is h

  pub past_by : 2 ^ 64 ≤ end_of (moved_to base x.loaded)
      → Moves (world_of hs loads) name base (Err Range) (world_of hs loads)
  past_by le =
      moved_past hs loads name base own x at_own only
      (subst (λ (y : NumberedModule). 2 ^ 64 ≤ end_of (moved_to base y.loaded)) is le)

  pub over_by : (extent : Extent) (met : ℕ) → LiesAt extent (moved_to base x.loaded)
      → Overlaps hs own extent.low extent.high met
      → Moves (world_of hs loads) name base (Err (Overlap met)) (world_of hs loads)
  over_by extent met h there = let l = lies extent h in
      moved_over hs loads name base own x at_own only met l.2
      (subst (λ a. Overlaps hs own a (end_of its) met) l.0.0
      (subst (λ b. Overlaps hs own extent.low b met) l.0.1 there))

  clear_by : (extent : Extent) (at : ℕ) → LiesAt extent (moved_to base x.loaded)
      → IsClear hs own extent.low extent.high at
      → IsClear hs own (start_of its) (end_of its) at
  clear_by extent at h clear =
      let l = lies extent h in
      subst (λ a. IsClear hs own a (end_of its) at) l.0.0
      (subst (λ b. IsClear hs own extent.low b at) l.0.1 clear)

  pub into_by : (hs' : List NumberedModule) (extent : Extent) (at : ℕ)
      → LiesAt extent (moved_to base x.loaded)
      → IsClear hs own extent.low extent.high at
      → hs' ≡ relocated hs own at (rebased base (get_or hs own x))
      → Moves (world_of hs loads) name base (Ok extent) (world_of hs' loads)
  into_by hs' extent at h clear turn = let l = lies extent h in
      moved_into hs loads name base own x at_own only hs' at extent l.2 l.1
      (clear_by extent at h clear) l.0 turn

  -- the precondition of relocating a module
  pub gap_by : (extent : Extent) (at : ℕ) → LiesAt extent (moved_to base x.loaded)
      → IsClear hs own extent.low extent.high at
      → (d : NumberedModule)
      → IsClear hs own (start_of (moved_to base (get_or hs own d).loaded))
      (end_of (moved_to base (get_or hs own d).loaded)) at
  gap_by extent at h clear d =
      subst (λ (y : NumberedModule). IsClear hs own (start_of (moved_to base y.loaded))
      (end_of (moved_to base y.loaded)) at) (get_or_default hs own x d only.within)
      (clear_by extent at h clear)

  pub fits_by : (extent : Extent) → LiesAt extent (moved_to base x.loaded) → (d : NumberedModule)
      → end_of (moved_to base (get_or hs own d).loaded) < 2 ^ 64
  fits_by extent h d =
      subst (λ (y : NumberedModule). end_of (moved_to base y.loaded) < 2 ^ 64)
      (is ∙ get_or_default hs own x d only.within) h.2

-- ---- the outcome of a load

module _ (hs : List NumberedModule) (loads : ℕ) (m : Loaded) (len low high : ℕ)
    (free : is_taken m.name (world_of hs loads) ≡ false) (all : len ≡ length hs)
    (from : low ≡ start_of m) (to : high ≡ end_of m) where
  pub over_any : (met : ℕ) → end_of m < 2 ^ 64 → Overlaps hs len low high met
      → place_fault m (map loaded_of hs) ≡ Some (Overlap met)
  over_any met lt is =
      place_over hs loads m (free-name m.name hs loads free) met lt
      (subst (λ n. Overlaps hs n (start_of m) (end_of m) met) all
      (subst (λ a. Overlaps hs len a (end_of m) met) from
      (subst (λ b. Overlaps hs len low b met) to is)))

  pub clear_all : (at : ℕ) → IsClear hs len low high at
      → IsClear hs (length hs) (start_of m) (end_of m) at
  clear_all at is =
      subst (λ n. IsClear hs n (start_of m) (end_of m) at) all
      (subst (λ a. IsClear hs len a (end_of m) at) from
      (subst (λ b. IsClear hs len low b at) to is))

  pub free_all : (at : ℕ) → end_of m < 2 ^ 64 → IsClear hs len low high at
      → place_fault m (map loaded_of hs) ≡ None
  free_all at lt is = place_free hs loads m (free-name m.name hs loads free) at lt
      (clear_all at is)

  pub stored-there : (hs' : List NumberedModule) (at serial : ℕ) (h : NumberedModule)
      → h ≡ record { serial = serial; loaded = m }
      → start_of m < end_of m → IsClear hs len low high at → hs' ≡ insert hs at h
      → map loaded_of hs' ≡ insert_by_address m (map loaded_of hs)
  stored-there hs' at serial h is order clear new =
      ap (map loaded_of) (new ∙ ap (insert hs at) is)
      ∙ sym (insert-clear hs at (record { serial = serial; loaded = m }) (clear_all at clear) order)

-- the same state with an equal list of modules
pub same-but-modules : (l l' : List Loaded) (loads cached capacity compares decoded : ℕ) → l ≡ l'
    → ◌≡◌ {A = ModuleMap} (record {
      world = record { modules = l; loads = loads };
      cached = cached;
      capacity = capacity;
      compares = compares;
      decoded = decoded;
    })
    (record {
      world = record { modules = l'; loads = loads };
      cached = cached;
      capacity = capacity;
      compares = compares;
      decoded = decoded;
    })
same-but-modules l l' loads cached capacity compares decoded e =
    ap (λ (z : List Loaded). let w : World = record { modules = z; loads = loads } in
    let m : ModuleMap = record {
      world = w;
      cached = cached;
      capacity = capacity;
      compares =
          compares;
      decoded = decoded;
    } in m) e

-- the number of modules is below the limit
pub limit-left : (hs : List NumberedModule) (loads : ℕ) → is_full (world_of hs loads) ≡ false
    → length hs < most_modules
limit-left hs loads e = let count : length (map loaded_of hs) ≡ length hs = simp length-map in
    let first = left_false (nat_le most_modules (length (map loaded_of hs)))
    (nat_le (2 ^ 64 - 1) loads) e in
    let lt = leb-false most_modules (length (map loaded_of hs)) first in omega arith
  where
    left_false : (a b : Bool) → (a || b) ≡ false → a ≡ false
    left_false true b h = cc
    left_false false b h = refl
