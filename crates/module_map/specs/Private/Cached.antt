-- The entries of the cache, most recently used first.
use Rattle.std.specs.Prelude.{ℕ, List, Bool, ◌==◌, ◌&&◌, Option}
use Rattle.std.specs.Map.{lookup}
use Rattle.lru.specs.LruCache.{lru_cache, promoted, put_entries}
use Rattle.addr_table.specs.declared.place.Place.{Place}
use Rattle.module_map.specs.declared.cache.CacheKey.{CacheKey}
use Rattle.module_map.specs.Private.Serials.{CacheEntry, CacheEntries}

-- whether two keys have the same load and the same link address
abbrev pub is_key : CacheKey → CacheKey → Bool
is_key x y = (x.serial == y.serial) && (x.link == y.link)

-- the value cached under a key
abbrev pub cached_under : CacheKey → List CacheEntry → Option (Option Place)
cached_under key entries = lookup (is_key key) entries

-- the entries after a lookup, with the entry of the key first
abbrev pub after_lookup : CacheKey → List CacheEntry → List CacheEntry
after_lookup key entries = promoted (is_key key) entries

-- the entries with a new one first, which replaces the entry of its key, or the last entry if the
-- cache is full
abbrev pub with_answer : CacheKey → Option Place → CacheEntries → List CacheEntry
with_answer key place cache = put_entries is_key (lru_cache cache.entries cache.capacity) key place
