-- The bases that the root of a unit defines for the whole unit: its tables and its low_pc
-- (DWARF 5, 3.1.1, 7.26 to 7.28).
use Rattle.std.specs.Prelude.{ℕ, ◌+◌, ◌*◌, List, Option, Some, None, Result, Ok, Err, nat_le, ◌==◌}
use Rattle.std.specs.Prelude.{if◌then◌else◌}
use Rattle.dwarf_bytes.specs.declared.constants.TheConstants.{DW_AT_ADDR_BASE, DW_AT_LOW_PC}
use Rattle.dwarf_bytes.specs.declared.constants.TheConstants.{DW_AT_RNGLISTS_BASE}
use Rattle.dwarf_bytes.specs.declared.constants.TheConstants.{DW_AT_STR_OFFSETS_BASE, DW_FORM_ADDR}
use Rattle.dwarf_bytes.specs.{declared.fault.Cause.Cause, declared.fault.ReadFault.ReadFault}
use Rattle.dwarf_bytes.specs.{declared.format.Format.Format, declared.tables.TableKind.TableKind}
use Rattle.dwarf_bytes.specs.declared.tables.TableKind.TheVariants.{StrOffsets, Addr, RngLists}
use Rattle.dwarf_bytes.specs.{Bind.◌>>=◌, Items.{reading, refuse_if}, Numbers.{u64_at, offset_len}}
use Rattle.dwarf_bytes.specs.{Numbers.offset_at, Tables.table_before}
use Rattle.dwarf_units.specs.{declared.attributes.AttributeValue.AttributeValue, Entries.Die}
use Rattle.dwarf_units.specs.Entries.{attribute}
use Rattle.dwarf_walk.specs.Sections.{Sections}
use Rattle.dwarf_ranges.specs.{declared.bases.Table.Table, declared.bases.Bases.Bases}
use Rattle.dwarf_bytes.specs.declared.fault.Cause.TheVariants as causes

-- The bases of a unit without a root.
abbrev pub no_bases : Bases
no_bases = record { str_offsets = None; addr = None; rnglists = None; low_pc = None }

-- Applies a function to an optional value.
abbrev pub optional : {X Y : Type 0} → (X → Result Y Cause) → Option X → Result (Option Y) Cause
optional f None = Ok None
optional f (Some x) = f x >>= λ y. Ok (Some y)

-- The table at the base that an attribute of the root contains.
abbrev pub table_of : TableKind → Format → List ℕ → AttributeValue → Result Table Cause
table_of kind format section value =
    table_before kind format section value.number
    >>= λ head. Ok (record { base = value.number; head = head; format = format })

-- The size in bytes of an item of a table: an offset or an address.
abbrev pub item_len : TableKind → Format → ℕ
item_len StrOffsets format = offset_len format
item_len Addr format = 8
item_len RngLists format = offset_len format

abbrev pub item_in : TableKind → Format → List ℕ → ℕ → Result (ℕ × ℕ) ReadFault
item_in StrOffsets format = offset_at format
item_in Addr format = u64_at
item_in RngLists format = offset_at format

-- The item at an index of a table. The index counts from the base of the table.
abbrev pub item_at : TableKind → List ℕ → Option Table → ℕ → Result ℕ Cause
item_at kind section None index = Err causes.Base
item_at kind section (Some table) index = do
  _ ← refuse_if (nat_le table.head.items index) causes.Index
  item ← reading
      (item_in kind table.format section (table.base + item_len kind table.format * index))
  Ok item.0

-- The address of a value of class address. All forms except addr are indexes of .debug_addr.
abbrev pub address_of : Sections → Option Table → AttributeValue → Result ℕ Cause
address_of sections addr value =
    if value.form == DW_FORM_ADDR then Ok value.number
    else item_at Addr sections.debug_addr addr value.number

-- The bases that the attributes of a root define, in the order in which they are validated.
abbrev pub bases_by : Sections → Format → Option AttributeValue → Option AttributeValue
    → Option AttributeValue → Option AttributeValue → Result Bases Cause
bases_by sections format str_offsets addr rnglists low_pc = do
  str_offsets ← optional (table_of StrOffsets format sections.debug_str_offsets) str_offsets
  addr ← optional (table_of Addr format sections.debug_addr) addr
  rnglists ← optional (table_of RngLists format sections.debug_rnglists) rnglists
  low_pc ← optional (address_of sections addr) low_pc
  Ok (record { str_offsets = str_offsets; addr = addr; rnglists = rnglists; low_pc = low_pc })

abbrev pub bases_at : Sections → Format → Die → Result Bases Cause
bases_at sections format root = bases_by sections format
    (attribute root DW_AT_STR_OFFSETS_BASE) (attribute root DW_AT_ADDR_BASE)
    (attribute root DW_AT_RNGLISTS_BASE) (attribute root DW_AT_LOW_PC)
