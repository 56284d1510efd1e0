-- The cache of the names of reference targets, for the contracts of the pass over scopes.
use Rattle.dwarf_bytes.specs.{Bind.◌>>=◌, declared.fault.Cause.Cause}
use Rattle.dwarf_entries.specs.Names.{EntryNames, Member, names_within, target_of}
use Rattle.dwarf_entries.specs.{Names.{member_at, members_of}, Private.PackedNames.unpacked_names}
use Rattle.dwarf_entries.specs.Units.{CompilationUnit}
use Rattle.dwarf_entries.specs.declared.name_cache.{CachedTarget.CachedTarget, NameCache.NameCache}
use Rattle.dwarf_units.specs.declared.attributes.AttributeValue.{AttributeValue}
use Rattle.dwarf_walk.specs.Sections.{Sections}
use Rattle.std.specs.Prelude.{List, None, Ok, Option, Result, Some, get_or, option_map, ℕ, ◌%◌, ◌≡◌}

-- The slot of an offset.
abbrev pub slot_of : ℕ → ℕ
slot_of offset = offset % 4096

-- The offset of a target, and its names.
pub record CachedNames : Type 0 where
  pub offset : ℕ
  pub names : EntryNames

-- The same, from its packed form.
abbrev pub cached_names_of : CachedTarget → CachedNames
cached_names_of packed =
    record { offset = packed.offset; names = unpacked_names packed.names }

-- The contents of a slot.
abbrev pub slot_at : NameCache → ℕ → Option CachedNames
slot_at cache slot = option_map cached_names_of (get_or cache.slots.items slot None)

-- The names of an entry that is the second one of an origin chain.
abbrev pub second_names : Sections → List CompilationUnit → Member → Result EntryNames Cause
second_names = names_within 15

-- The names of the target of a reference in a unit.
abbrev pub target_names : Sections → List CompilationUnit → CompilationUnit → AttributeValue
    → Result EntryNames Cause
target_names s units unit reference = target_of units unit reference >>= λ m. second_names s units m

-- If names are cached for an offset, an entry is at that offset, and they are its names.
abbrev pub IsCacheOf : Sections → List CompilationUnit → NameCache → Type 0
IsCacheOf s units cache =
    (slot : ℕ) (packed : CachedNames) → slot_at cache slot ≡ Some packed
    → (member_at (members_of units) packed.offset >>= λ m. second_names s units m)
    ≡ Ok packed.names
