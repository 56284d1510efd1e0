-- The names of entries as they are stored.
use Rattle.std.specs.Prelude.{Option}
use Rattle.dwarf_entries.specs.declared.origin_chains.PackedNames.{PackedNames}
use Rattle.dwarf_entries.specs.declared.text_offset.{PackedText.PackedText, TextOffset.TextOffset}
use Rattle.dwarf_entries.specs.{Names.EntryNames, Scopes.text_by}

abbrev pub unpacked_text : PackedText → Option TextOffset
unpacked_text text = text_by text.section text.offset

abbrev pub unpacked_names : PackedNames → EntryNames
unpacked_names names = record {
  name = unpacked_text names.name;
  linkage_name = unpacked_text names.linkage_name;
}
