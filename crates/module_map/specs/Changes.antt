-- The effects of a load, an unload and a move on the modules. Each is refused by the first test
-- that it fails, and then changes nothing. Otherwise it is done.
use Rattle.std.specs.Prelude.{◌≡◌, ℕ, ◌+◌, ◌-◌, ◌^◌, Bool, ◌||◌, List, length, nat_lt, nat_le, find}
use Rattle.std.specs.Prelude.{Option, None, Some, Result, Ok, Err, if◌then◌else◌, option_map}
use Rattle.std.specs.List.{list_any}
use Rattle.addr_table.specs.Module.{fault_of}
use Rattle.dwarf_bytes.specs.declared.fault.LoadFault.{LoadFault}
use Rattle.module_map.specs.World.{World, most_modules, Loaded, start_of, end_of, is_named}
use Rattle.module_map.specs.World.{insert_by_address, without, moved_to, first_overlap}
use Rattle.module_map.specs.declared.faults.Extent.{Extent}
use Rattle.module_map.specs.declared.faults.MapFault.{MapFault}
use Rattle.module_map.specs.declared.faults.MapFault.TheVariants.{NameTaken, NoModule, Full}
use Rattle.module_map.specs.declared.faults.MapFault.TheVariants.{Object, Range, Overlap, Memory}

abbrev pub is_full : World → Bool
is_full world = nat_le most_modules (length world.modules) || nat_le (2 ^ 64 - 1) world.loads

abbrev pub is_taken : List ℕ → World → Bool
is_taken name world = list_any (is_named name) world.modules

-- the fault of a module that ends after the highest address or overlaps another module
abbrev pub place_fault : Loaded → List Loaded → Option MapFault
place_fault m others =
    if nat_lt (2 ^ 64 - 1) (end_of m) then Some Range else option_map Overlap
    (first_overlap m others)

abbrev pub object_fault : Option LoadFault → Option MapFault → Option MapFault
object_fault (Some fault) place = Some (Object fault)
object_fault None place = place

-- ---- a load

-- the reason for refusing a load; short means that memory ran out
unfoldable pub load_fault : World → Loaded → Bool → Option MapFault
load_fault world m short =
    if is_taken m.name world then Some NameTaken
    else (if is_full world then Some Full
    else (if short then Some Memory
    else object_fault (fault_of m.bytes) (place_fault m world.modules)))

abbrev pub with_module : World → Loaded → World
with_module world m =
    record { modules = insert_by_address m world.modules; loads = world.loads + 1 }

abbrev pub IsExtentOf : Extent → Loaded → Type 0
IsExtentOf extent m = (extent.low ≡ start_of m) × (extent.high ≡ end_of m)

abbrev pub Loads : World → Loaded → Bool → Result Extent MapFault → World → Type 0
Loads old m short (Ok extent) new =
    (load_fault old m short ≡ None) × IsExtentOf extent m × (new ≡ with_module old m)
Loads old m short (Err fault) new = (load_fault old m short ≡ Some fault) × (new ≡ old)

-- ---- an unload

abbrev pub without_module : World → List ℕ → World
without_module world name = record world { modules = without name world.modules }

abbrev pub Unloads : World → List ℕ → Result (Unit {0}) MapFault → World → Type 0
Unloads old name (Ok done) new = (is_taken name old ≡ Bool.true) × (new ≡ without_module old name)
Unloads old name (Err fault) new =
    (is_taken name old ≡ Bool.false) × (fault ≡ NoModule) × (new ≡ old)

-- ---- a move

-- the reason for not moving a module, which is not compared with itself
abbrev pub move_fault : Option Loaded → World → ℕ → Option MapFault
move_fault None world base = Some NoModule
move_fault (Some m) world base = place_fault (moved_to base m) world.modules

abbrev pub with_moved : World → Loaded → ℕ → World
with_moved world m base =
    record world { modules = insert_by_address (moved_to base m) (without m.name world.modules) }

-- the module with a name is moved
abbrev pub IsMoved : World → Option Loaded → ℕ → Extent → World → Type 0
IsMoved old None base extent new = ⊥
IsMoved old (Some m) base extent new =
    IsExtentOf extent (moved_to base m) × (new ≡ with_moved old m base)

abbrev pub Moves : World → List ℕ → ℕ → Result Extent MapFault → World → Type 0
Moves old name base (Ok extent) new =
    (move_fault (find (is_named name) old.modules) old base ≡ None)
    × IsMoved old (find (is_named name) old.modules) base extent new
Moves old name base (Err fault) new =
    (move_fault (find (is_named name) old.modules) old base ≡ Some fault) × (new ≡ old)
