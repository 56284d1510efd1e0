-- The used attributes of an entry by name (DWARF 5, 2.2). The first of two values counts.
use Rattle.dwarf_bytes.specs.declared.constants.TheConstants.{DW_AT_ABSTRACT_ORIGIN}
use Rattle.dwarf_bytes.specs.declared.constants.TheConstants.{DW_AT_ADDR_BASE, DW_AT_CALL_FILE}
use Rattle.dwarf_bytes.specs.declared.constants.TheConstants.{DW_AT_CALL_LINE, DW_AT_HIGH_PC}
use Rattle.dwarf_bytes.specs.declared.constants.TheConstants.{DW_AT_LINKAGE_NAME, DW_AT_LOW_PC}
use Rattle.dwarf_bytes.specs.declared.constants.TheConstants.{DW_AT_NAME, DW_AT_RANGES}
use Rattle.dwarf_bytes.specs.declared.constants.TheConstants.{DW_AT_RNGLISTS_BASE}
use Rattle.dwarf_bytes.specs.declared.constants.TheConstants.{DW_AT_SPECIFICATION, DW_AT_STMT_LIST}
use Rattle.dwarf_bytes.specs.declared.constants.TheConstants.{DW_AT_STR_OFFSETS_BASE}
use Rattle.dwarf_units.specs.{Entries.value_of, declared.attributes.Attribute.Attribute}
use Rattle.dwarf_units.specs.declared.attributes.AttributeValue.{AttributeValue}
use Rattle.dwarf_units.specs.declared.used_name.UsedName.TheVariants.{AbstractOrigin, AddrBase}
use Rattle.dwarf_units.specs.declared.used_name.UsedName.TheVariants.{CallFile, CallLine, HighPc}
use Rattle.dwarf_units.specs.declared.used_name.UsedName.TheVariants.{LinkageName, LowPc, Name}
use Rattle.dwarf_units.specs.declared.used_name.UsedName.TheVariants.{Ranges, RnglistsBase}
use Rattle.dwarf_units.specs.declared.used_name.UsedName.TheVariants.{Specification, StmtList}
use Rattle.dwarf_units.specs.declared.used_name.UsedName.{TheVariants.StrOffsetsBase, UsedName}
use Rattle.std.specs.Prelude.{List, Option, ℕ}

-- The value of each used attribute that an entry has.
pub record Used : Type 0 where
  pub name : Option AttributeValue
  pub linkage_name : Option AttributeValue
  pub abstract_origin : Option AttributeValue
  pub specification : Option AttributeValue
  pub low_pc : Option AttributeValue
  pub high_pc : Option AttributeValue
  pub ranges : Option AttributeValue
  pub call_file : Option AttributeValue
  pub call_line : Option AttributeValue
  pub stmt_list : Option AttributeValue
  pub str_offsets_base : Option AttributeValue
  pub addr_base : Option AttributeValue
  pub rnglists_base : Option AttributeValue

-- The value with a name.
abbrev pub value_named : UsedName → Used → Option AttributeValue
value_named Name used = used.name
value_named LinkageName used = used.linkage_name
value_named AbstractOrigin used = used.abstract_origin
value_named Specification used = used.specification
value_named LowPc used = used.low_pc
value_named HighPc used = used.high_pc
value_named Ranges used = used.ranges
value_named CallFile used = used.call_file
value_named CallLine used = used.call_line
value_named StmtList used = used.stmt_list
value_named StrOffsetsBase used = used.str_offsets_base
value_named AddrBase used = used.addr_base
value_named RnglistsBase used = used.rnglists_base

-- The code of an attribute name (DWARF 5, table 7.5).
abbrev pub name_of : UsedName → ℕ
name_of Name = DW_AT_NAME
name_of LinkageName = DW_AT_LINKAGE_NAME
name_of AbstractOrigin = DW_AT_ABSTRACT_ORIGIN
name_of Specification = DW_AT_SPECIFICATION
name_of LowPc = DW_AT_LOW_PC
name_of HighPc = DW_AT_HIGH_PC
name_of Ranges = DW_AT_RANGES
name_of CallFile = DW_AT_CALL_FILE
name_of CallLine = DW_AT_CALL_LINE
name_of StmtList = DW_AT_STMT_LIST
name_of StrOffsetsBase = DW_AT_STR_OFFSETS_BASE
name_of AddrBase = DW_AT_ADDR_BASE
name_of RnglistsBase = DW_AT_RNGLISTS_BASE

-- The used attributes, built from a function of the name.
abbrev pub used_by : (UsedName → Option AttributeValue) → Used
used_by value = record {
  name = value Name;
  linkage_name = value LinkageName;
  abstract_origin = value AbstractOrigin;
  specification = value Specification;
  low_pc = value LowPc;
  high_pc = value HighPc;
  ranges = value Ranges;
  call_file = value CallFile;
  call_line = value CallLine;
  stmt_list = value StmtList;
  str_offsets_base = value StrOffsetsBase;
  addr_base = value AddrBase;
  rnglists_base = value RnglistsBase;
}

-- The used attributes of a list.
abbrev pub used_among : List Attribute → Used
used_among attributes = used_by (λ name. value_of attributes (name_of name))
