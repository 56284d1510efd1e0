-- The ascending order of the modules, without their serial numbers.
use Rattle.std.proofs.Common.{◌≡◌, ℕ, ◌<◌, ◌≤◌, List, length, map, get_or, refl, arith}
use Rattle.std.proofs.Common.{true, inl, inr, [], ◌∷◌, suc, ap}
use Rattle.std.specs.Prelude.{◌⊎◌}
use Rattle.std.proofs.Math.ListN.{get_or-map}
use Rattle.std.proofs.lemmas.Bool.{cases_lt}
use Rattle.std.proofs.lemmas.Bool.Decides.{nat_tests}
use Rattle.module_map.specs.World.{Loaded, start_of, end_of, holds, HoldOnce}
use Rattle.module_map.specs.World as world
use Rattle.module_map.specs.Private.Serials.{NumberedModule, loaded_of}
use Rattle.module_map.specs.Private.Rising.{AreRising}

-- a module with a placeholder for its serial number
abbrev numbered : Loaded → NumberedModule
numbered m = record { serial = 0; loaded = m }

loaded_at : (sorted : List NumberedModule) (i : ℕ) (d : Loaded)
    → get_or (map loaded_of sorted) i d ≡ loaded_of (get_or sorted i (numbered d))
loaded_at sorted i d = get_or-map loaded_of sorted i (numbered d)

count : (sorted : List NumberedModule) → length (map loaded_of sorted) ≡ length sorted
count [] = refl
count (h ∷ sorted) = ap suc (count sorted)

pub rising-modules : (sorted : List NumberedModule) → AreRising sorted
    → world.AreRising (map loaded_of sorted)
rising-modules sorted rising = record {
  nonempty = λ i d lt.
      rw (loaded_at sorted i d)
      (rising.sound i (numbered d) (omega (arith, lt, count sorted)));
  apart = λ i j d lt within.
      rw (loaded_at sorted i d, loaded_at sorted j d)
      (rising.apart i j (numbered d) lt (omega (arith, within, count sorted)));
  names = λ i j d lt within.
      rw (loaded_at sorted i d, loaded_at sorted j d)
      (rising.names i j (numbered d) lt (omega (arith, within, count sorted)));
}

holds_bounds : (m : Loaded) (address : ℕ) → holds address m ≡ true
    → (start_of m ≤ address) × (address < end_of m)
holds_bounds m address h = grind (arith, nat_tests, h)

not-both : (modules : List Loaded) (address i j : ℕ) (d : Loaded) → world.AreRising modules
    → i < j → j < length modules → holds address (get_or modules i d) ≡ true
    → holds address (get_or modules j d) ≡ true → ⊥
not-both modules address i j d rising lt within one other =
    let first = holds_bounds (get_or modules i d) address one in
    let second = holds_bounds (get_or modules j d) address other in
    let apart = rising.apart i j d lt within in
    omega (arith, first.1, second.0, apart)

pub hold-once : (modules : List Loaded) → world.AreRising modules → HoldOnce modules
hold-once modules rising address i j d in_i in_j one other = by (cases_lt i j) (cases_lt j i)
  where
    by : (i < j) ⊎ (j ≤ i) → (j < i) ⊎ (i ≤ j) → i ≡ j
    by (inl lt) _ = absurd (not-both modules address i j d rising lt in_j one other)
    by (inr above) (inl lt) = absurd (not-both modules address j i d rising lt in_i other one)
    by (inr above) (inr below) = omega (arith, above, below)
