-- Unit headers (DWARF 5, 7.5.1) and the abbreviation tables of the units.
use Rattle.dwarf_bytes.specs.{Bind.◌>>=◌, Items.{At, End, Item, Next, each, items_from, reading}}
use Rattle.dwarf_bytes.specs.{Items.refuse_if, Numbers.{initial_length_at, offset_at, u16_at}}
use Rattle.dwarf_bytes.specs.{Numbers.u8_at, declared.constants.TheConstants.DW_UT_COMPILE}
use Rattle.dwarf_bytes.specs.declared.constants.TheConstants.{DW_UT_PARTIAL, DW_UT_TYPE}
use Rattle.dwarf_bytes.specs.declared.{fault.Cause.Cause, format.Format.Format}
use Rattle.dwarf_forms.specs.{Declarations.Declaration, Tables.declarations_of}
use Rattle.dwarf_units.specs.declared.unit_headers.{UnitHeader.UnitHeader, UnitType.UnitType}
use Rattle.std.specs.Prelude.{Bool, List, None, Ok, Option, Result, Some, [], false, filter}
use Rattle.std.specs.Prelude.{if◌then◌else◌, length, nat_le, nat_lt, not, ok_or, sum_by, take, true}
use Rattle.std.specs.Prelude.{ℕ, ◌+◌, ◌-◌, ◌==◌}
use Rattle.dwarf_bytes.specs.declared.fault.Cause.TheVariants as causes
use Rattle.dwarf_units.specs.declared.unit_headers.UnitType.TheVariants as types

-- The supported unit types (7.5.1, table 7.2). Other units are refused.
abbrev pub unit_type_of : ℕ → Option UnitType
unit_type_of number =
    if number == DW_UT_COMPILE then Some types.Compile
    else (if number == DW_UT_TYPE then Some types.Type
    else (if number == DW_UT_PARTIAL then Some types.Partial else None))

-- Whether units of a type are read.
abbrev pub is_read_type : UnitType → Bool
is_read_type types.Compile = true
is_read_type types.Type = false
is_read_type types.Partial = true

abbrev pub is_read : UnitHeader → Bool
is_read header = is_read_type header.unit_type

-- The header after the length of a unit. The bytes end with the unit.
abbrev pub header_in : ℕ → Format → List ℕ → ℕ → Result UnitHeader Cause
header_in start format unit at = do
  version ← reading (u16_at unit at)
  _ ← refuse_if (not (version.0 == 5)) causes.Version
  number ← reading (u8_at unit version.1)
  unit_type ← ok_or (unit_type_of number.0) causes.UnitType
  if not (is_read_type unit_type) then Ok (record {
    start = start;
    format = format;
    unit_type = unit_type;
    abbreviations = 0;
    first = length unit;
    end = length unit;
  }) else do
    size ← reading (u8_at unit number.1)
    _ ← refuse_if (not (size.0 == 8)) causes.AddressSize
    abbreviations ← reading (offset_at format unit size.1)
    Ok (record {
      start = start;
      format = format;
      unit_type = unit_type;
      abbreviations = abbreviations.0;
      first = abbreviations.1;
      end = length unit;
    })

-- The header of the unit at an offset of .debug_info.
unfoldable pub unit_at : List ℕ → ℕ → Result UnitHeader Cause
unit_at info at = do
  len ← reading (initial_length_at info at)
  let end = len.1 + len.0.1
  _ ← refuse_if (nat_lt (length info) end) causes.Short
  header_in at len.0.0 (take end info) len.1

-- The units are contiguous, up to the end of the section.
abbrev pub header_at : List ℕ → List UnitHeader → ℕ → Result (Next UnitHeader) Cause
header_at info before at =
    if nat_le (length info) at then Ok (End at)
    else (unit_at info at >>= λ header. Ok (Item header header.end))

-- The headers of all units.
unfoldable pub headers_of : List ℕ → Result (List UnitHeader) At
headers_of info = items_from (length info) (header_at info) [] 0 >>= λ all. Ok all.0

-- The headers of the units that are read.
unfoldable pub units_of : List ℕ → Result (List UnitHeader) At
units_of info = headers_of info >>= λ all. Ok (filter is_read all)

-- The maximum number of declarations that are read for all units of an object.
abbrev pub declarations_limit : ℕ
declarations_limit = 4194304

-- The table of each unit. Each table uses up a part of the limit.
unfoldable pub tables_of : List ℕ → List UnitHeader → Result (List (List Declaration)) At
tables_of section headers = each
    (λ before header. declarations_of (declarations_limit - sum_by length before) section
    header.abbreviations) headers
