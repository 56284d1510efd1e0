-- The list of modules.
use Rattle.std.specs.Prelude.{ℕ, List, map}
use Rattle.std.specs.Borrow.{Bor}
use Rattle.module_map.specs.World.{World, Loaded, start_of, end_of}
use Rattle.module_map.specs.declared.faults.Extent.{Extent}

-- the name, the extent and the base of a module
pub record Listed : Type 0 where
  pub name : List ℕ
  pub low : ℕ
  pub high : ℕ
  pub base : ℕ

abbrev pub list_item : Loaded → Listed
list_item m = record { name = m.name; low = start_of m; high = end_of m; base = m.base }

-- the modules in ascending order of address
abbrev pub listing : World → List Listed
listing world = map list_item world.modules

-- the data of a list item
abbrev pub item_data : Bor (List ℕ) × Extent × ℕ → Listed
item_data item =
    record { name = item.0.now; low = item.1.low; high = item.1.high; base = item.2 }
