-- The meaning of the loaded modules and of the cache entries.
use Rattle.std.specs.Prelude.{◌≡◌, ℕ, ◌<◌, ◌≤◌, List, length, Contains, Option}
use Rattle.addr_table.specs.Module.{place_in}
use Rattle.addr_table.specs.declared.place.Place.{Place}
use Rattle.module_map.specs.declared.cache.CacheKey.{CacheKey}
use Rattle.module_map.specs.World.{Loaded, most_modules}

-- a module and the serial number of its load, which is never reused
pub record NumberedModule : Type 0 where
  pub serial : ℕ
  pub loaded : Loaded

abbrev pub loaded_of : NumberedModule → Loaded
loaded_of h = h.loaded

-- a key, and the place that was found for it
abbrev pub CacheEntry : Type 0
CacheEntry = CacheKey × Option Place

-- the entries of a cache, and its capacity
pub record CacheEntries : Type 0 where
  pub entries : List CacheEntry
  pub capacity : ℕ

-- the entry is an answer of the module
abbrev pub IsAnswerOf : NumberedModule → CacheEntry → Type 0
IsAnswerOf h e = (h.serial ≡ e.0.serial) × (e.1 ≡ place_in h.loaded.bytes e.0.link)

-- The number of modules is within the limit. A serial number is below the count of loads and
-- identifies the bytes of one module. A value cached under it is an answer of that module.
pub record AreSound (sorted : List NumberedModule) (loads : ℕ) (entries : List CacheEntry) :
    Type 0 where
  pub few : length sorted ≤ most_modules
  pub below : (h : NumberedModule) → Contains sorted h → h.serial < loads
  pub one : (h g : NumberedModule) → Contains sorted h → Contains sorted g →
      h.serial ≡ g.serial → h.loaded.bytes ≡ g.loaded.bytes
  pub past : (e : CacheEntry) → Contains entries e → e.0.serial < loads
  pub right : (e : CacheEntry) (h : NumberedModule) → Contains entries e → Contains sorted h →
      h.serial ≡ e.0.serial → e.1 ≡ place_in h.loaded.bytes e.0.link
