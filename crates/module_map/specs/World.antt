-- The loaded modules.
use Rattle.std.specs.Prelude.{◌≡◌, ◌≢◌, ℕ, ◌+◌, ◌<◌, ◌≤◌, Bool, true, not, ◌&&◌, List, [], ◌∷◌}
use Rattle.std.specs.Prelude.{length, filter, nat_lt, nat_le, slice_index_or}
use Rattle.std.specs.Prelude.{Option, if◌then◌else◌, position, slice_get}
use Rattle.std.specs.Option.{option_map_or}
use Rattle.std.specs.Str.{bytes_eq}
use Rattle.addr_table.specs.Module.{low_of, high_of}

-- an object at its base
pub record Loaded : Type 0 where
  pub name : List ℕ
  pub base : ℕ
  pub bytes : List ℕ

-- the modules in ascending order of address, and the number of accepted loads
pub record World : Type 0 where
  pub modules : List Loaded
  pub loads : ℕ

-- the maximum number of loaded modules
abbrev pub most_modules : ℕ
most_modules = 4096

abbrev pub no_modules : World
no_modules = record { modules = []; loads = 0 }

-- the first address of a module, and its end (exclusive)
abbrev pub start_of : Loaded → ℕ
start_of m = m.base + low_of m.bytes

abbrev pub end_of : Loaded → ℕ
end_of m = m.base + high_of m.bytes

abbrev pub is_named : List ℕ → Loaded → Bool
is_named name m = bytes_eq m.name name

abbrev pub holds : ℕ → Loaded → Bool
holds address m = nat_le (start_of m) address && nat_lt address (end_of m)

-- whether two modules share an address
abbrev pub meets : Loaded → Loaded → Bool
meets m other = nat_lt (start_of m) (end_of other) && nat_lt (start_of other) (end_of m)

-- the modules with one more inserted, in ascending order of address
abbrev pub insert_by_address : Loaded → List Loaded → List Loaded
insert_by_address m [] = m ∷ []
insert_by_address m (other ∷ others) =
    if nat_lt (start_of other) (start_of m) then other ∷ insert_by_address m others
    else m ∷ other ∷ others

-- the modules with other names
abbrev pub without : List ℕ → List Loaded → List Loaded
without name modules = filter (λ m. not (is_named name m)) modules

-- the same module at another base
abbrev pub moved_to : ℕ → Loaded → Loaded
moved_to base m = record m { base = base }

-- the index of the lowest module that overlaps this one, excluding itself
abbrev pub first_overlap : Loaded → List Loaded → Option ℕ
first_overlap m modules = position (λ other. not (is_named m.name other) && meets m other) modules

-- the name of the module at an index
abbrev pub name_at : List Loaded → ℕ → List ℕ
name_at modules place = option_map_or (λ m. m.name) (slice_get modules place) []

-- The modules are in ascending order: each is nonempty and ends before the next one starts, and no
-- two have the same name.
pub record AreRising (modules : List Loaded) : Type 0 where
  pub nonempty : (i : ℕ) (d : Loaded) → i < length modules →
      start_of (slice_index_or modules i d) < end_of (slice_index_or modules i d)
  pub apart : (i j : ℕ) (d : Loaded) → i < j → j < length modules →
      end_of (slice_index_or modules i d) ≤ start_of (slice_index_or modules j d)
  pub names : (i j : ℕ) (d : Loaded) → i < j → j < length modules →
      (slice_index_or modules i d).name ≢ (slice_index_or modules j d).name

-- at most one of the modules contains an address
abbrev pub HoldOnce : List Loaded → Type 0
HoldOnce modules = (address i j : ℕ) (d : Loaded) → i < length modules → j < length modules →
    holds address (slice_index_or modules i d) ≡ true →
    holds address (slice_index_or modules j d) ≡ true → i ≡ j
