-- Entries with their units, as the program stores them, for the contracts of origin chains.
use Rattle.std.specs.Prelude.{◌≡◌, ℕ, List, Option, Some, None, Result, Ok, Err}
use Rattle.std.specs.Prelude.{slice_get, option_to_list}
use Rattle.dwarf_bytes.specs.declared.constants.TheConstants.{DW_AT_LINKAGE_NAME, DW_AT_NAME}
use Rattle.dwarf_bytes.specs.{declared.fault.Cause.Cause, Refusals.Fails}
use Rattle.dwarf_walk.specs.{declared.unit_entries.NamedEntry.NamedEntry, Stored.named_entry}
use Rattle.dwarf_entries.specs.declared.origin_chains.UnitEntry.{UnitEntry}
use Rattle.dwarf_entries.specs.declared.references.UnitPlace.{UnitPlace}
use Rattle.dwarf_entries.specs.declared.origin_chains.UnitAttribute.{UnitAttribute}
use Rattle.dwarf_entries.specs.{declared.origin_chains.FirstNames.FirstNames, Units.CompilationUnit}
use Rattle.dwarf_entries.specs.Names.{Member, members_of, member_at, first_on}
use Rattle.dwarf_units.specs.declared.attributes.AttributeValue.{AttributeValue}
use Rattle.dwarf_bytes.specs.declared.fault.Cause.TheVariants as causes

-- The entry, in the unit at an index, is the stored form of the member.
pub record IsMember (units : List CompilationUnit) (number : ℕ) (entry : NamedEntry) (m : Member)
    : Type 0 where
  pub unit_is : slice_get units number ≡ Some m.unit
  pub entry_is : entry ≡ named_entry m.die

-- The entry at an offset of .debug_info, if it is in the unit at an index.
abbrev pub member_in : List CompilationUnit → ℕ → ℕ → Result Member Cause
member_in units number offset =
    member_at (members_of (option_to_list (slice_get units number))) offset

-- The member is at the place.
pub record IsPlaceOf (units : List CompilationUnit) (place : UnitPlace) (m : Member) : Type 0 where
  pub unit_is : slice_get units place.unit ≡ Some m.unit
  pub offset_is : m.die.offset ≡ place.offset
  pub index : ℕ
  pub there : slice_get m.unit.dies index ≡ Some m.die

-- The outcome is the entry at the offset, if there is one.
abbrev pub LeadsTo : List CompilationUnit → Option ℕ → Result Member Cause → Type 0
LeadsTo units (Some offset) outcome = outcome ≡ member_at (members_of units) offset
LeadsTo units None outcome = outcome ≡ Err causes.Reference

-- The entry that is re-read is the stored form of the member. The call may also fail because
-- memory ran out.
abbrev pub IsRereadOf : List CompilationUnit → Result UnitEntry Cause → Member → Type 0
IsRereadOf units (Ok found) m = IsMember units found.unit found.entry m
IsRereadOf units (Err cause) m = cause ≡ causes.Memory

-- The result is the place of the member of the outcome.
abbrev pub Finds : List CompilationUnit → Option UnitPlace → Result Member Cause → Type 0
Finds units (Some place) outcome = (m : Member) × (outcome ≡ Ok m) × IsPlaceOf units place m
Finds units None outcome = outcome ≡ Err causes.Reference

-- The stored form of the first attribute with a name on an origin chain, if there is one: its
-- value, and the index of its unit.
abbrev pub IsFirst : List CompilationUnit → UnitAttribute
    → Option (CompilationUnit × AttributeValue) → Type 0
IsFirst units stored None = stored.value ≡ None
IsFirst units stored (Some first) =
    (slice_get units stored.unit ≡ Some first.0) × (stored.value ≡ Some first.1)

pub record AreFirst (units : List CompilationUnit) (stored : FirstNames) (path : List Member)
    : Type 0 where
  pub name : IsFirst units stored.name (first_on DW_AT_NAME path)
  pub linkage_name : IsFirst units stored.linkage_name (first_on DW_AT_LINKAGE_NAME path)

-- The result is that of the origin chain of the outcome. The call may also fail because memory ran
-- out.
abbrev pub FindsFirst : List CompilationUnit → Result FirstNames Cause
    → Result (List Member) Cause → Type 0
FindsFirst units (Ok stored) outcome =
    (path : List Member) × (outcome ≡ Ok path) × AreFirst units stored path
FindsFirst units (Err cause) outcome = Fails cause outcome
