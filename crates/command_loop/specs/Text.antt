-- Replies as they are printed.
use Rattle.std.specs.Prelude.{ℕ, List, [], ◌∷◌, ◌++◌, flat_map, codes, decimal}
use Rattle.dwarf_bytes.specs.Words.{section_name, cause_word}
use Rattle.dwarf_bytes.specs.declared.fault.LoadFault.{LoadFault}
use Rattle.module_map.specs.Listing.{Listed}
use Rattle.module_map.specs.declared.faults.MapFault.{MapFault}
use Rattle.module_map.specs.declared.faults.MapFault.TheVariants as modules
use Rattle.module_map.specs.Words.{map_word}
use Rattle.answer_text.specs.Numerals.{address_text}
use Rattle.answer_text.specs.Text.{answer_text}
use Rattle.io_streams.specs.declared.options.Options.{Options}
use Rattle.io_streams.specs.Words.{fetch_word}
use Rattle.command_loop.specs.Replies.{Reply}
use Rattle.command_loop.specs.Replies.Reply.{Unreadable, NotFetched, Refused, LoadedAt, Unloaded}
use Rattle.command_loop.specs.Replies.Reply.{MovedTo, AllListed, Answered}
use Rattle.command_loop.specs.declared.commands.BadLine.{BadLine}
use Rattle.command_loop.specs.declared.commands.BadLine.TheVariants as lines

abbrev pub line_word : BadLine → List ℕ
line_word lines.LongLine = codes "long-line"
line_word lines.Command = codes "command"
line_word lines.Fields = codes "fields"
line_word lines.Name = codes "name"
line_word lines.Number = codes "number"
line_word lines.Path = codes "path"

abbrev pub object_text : LoadFault → List ℕ
object_text fault =
    codes "object " ++ section_name fault.section ++ codes " " ++ cause_word fault.cause
    ++ codes " at " ++ decimal fault.at

-- why the modules are not changed, and the name of the module that one would overlap
abbrev pub map_words : MapFault → List ℕ → List ℕ
map_words (modules.Object fault) overlap = object_text fault
map_words (modules.Overlap index) overlap = codes "overlap " ++ overlap
map_words fault overlap = map_word fault

abbrev pub refusal_text : List ℕ → List ℕ
refusal_text words = codes "refused " ++ words ++ 10 ∷ []

-- where a module was loaded, or moved to
abbrev pub extent_text : List ℕ → List ℕ → ℕ → ℕ → List ℕ
extent_text done name low high =
    done ++ name ++ codes " " ++ address_text low ++ codes "-" ++ address_text high ++ 10 ∷ []

abbrev pub unload_text : List ℕ → List ℕ
unload_text name = codes "unloaded " ++ name ++ 10 ∷ []

abbrev pub module_text : Listed → List ℕ
module_text m =
    codes "module " ++ m.name ++ codes " " ++ address_text m.low ++ codes "-"
    ++ address_text m.high ++ codes " " ++ address_text m.base ++ 10 ∷ []

abbrev pub list_text : List Listed → List ℕ
list_text modules = flat_map module_text modules ++ codes "end\n"

-- the bytes of a reply; each of its lines ends with a line feed
unfoldable pub text : Options → Reply → List ℕ
text options (Unreadable fault) = refusal_text (line_word fault)
text options (NotFetched fault) = refusal_text (fetch_word fault)
text options (Refused fault overlap) = refusal_text (map_words fault overlap)
text options (LoadedAt name low high) = extent_text (codes "loaded ") name low high
text options (Unloaded name) = unload_text name
text options (MovedTo name low high) = extent_text (codes "moved ") name low high
text options (AllListed modules) = list_text modules
text options (Answered answer) = answer_text options answer
