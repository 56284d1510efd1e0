-- The names of sections and the reply words of causes.
use Rattle.std.specs.Prelude.{ℕ, List, [], codes}
use Rattle.dwarf_bytes.specs.declared.fault.Section.{Section}
use Rattle.dwarf_bytes.specs.declared.fault.Section.TheVariants as sections
use Rattle.dwarf_bytes.specs.declared.fault.Cause.{Cause}
use Rattle.dwarf_bytes.specs.declared.fault.Cause.TheVariants as causes
use Rattle.dwarf_bytes.specs.declared.fault.ReadFault.{ReadFault}
use Rattle.dwarf_bytes.specs.declared.fault.ReadFault.TheVariants.{Short, Leb, Unterminated, Length}

-- the name of a section (DWARF 5, 7.1; ELF, special sections), or `elf` for the file's own tables
abbrev pub section_name : Section → List ℕ
section_name sections.Elf = codes "elf"
section_name sections.DebugInfo = codes ".debug_info"
section_name sections.DebugAbbrev = codes ".debug_abbrev"
section_name sections.DebugLine = codes ".debug_line"
section_name sections.DebugLineStr = codes ".debug_line_str"
section_name sections.DebugStr = codes ".debug_str"
section_name sections.DebugStrOffsets = codes ".debug_str_offsets"
section_name sections.DebugAddr = codes ".debug_addr"
section_name sections.DebugRnglists = codes ".debug_rnglists"

-- the words of the causes of ranges and line programs, and no byte for every other cause
abbrev pub range_or_line_word : Cause → List ℕ
range_or_line_word causes.RangeBackwards = codes "range-backwards"
range_or_line_word causes.Overflow = codes "overflow"
range_or_line_word causes.PcAndRanges = codes "pc-and-ranges"
range_or_line_word causes.RangeKind = codes "range-kind"
range_or_line_word causes.LineParams = codes "line-params"
range_or_line_word causes.OpcodeLengths = codes "opcode-lengths"
range_or_line_word causes.Extended = codes "extended"
range_or_line_word causes.FileFormat = codes "file-format"
range_or_line_word causes.DirIndex = codes "dir-index"
range_or_line_word causes.FileIndex = codes "file-index"
range_or_line_word causes.GoesBack = codes "goes-back"
range_or_line_word causes.SequenceOpen = codes "sequence-open"
range_or_line_word causes.StmtList = codes "stmt-list"
range_or_line_word causes.CallFile = codes "call-file"
range_or_line_word causes.TooMany = codes "too-many"
range_or_line_word causes.LineRange = codes "line-range"
range_or_line_word _ = []

-- the reply word of a cause
abbrev pub cause_word : Cause → List ℕ
cause_word causes.NotElf = codes "not-elf"
cause_word causes.Class = codes "class"
cause_word causes.FileType = codes "type"
cause_word causes.Table = codes "table"
cause_word causes.SectionTwice = codes "section-twice"
cause_word causes.Compressed = codes "compressed"
cause_word causes.NoLoad = codes "no-load"
cause_word causes.Range = codes "range"
cause_word causes.Memory = codes "memory"
cause_word causes.Short = codes "short"
cause_word causes.Leb = codes "leb"
cause_word causes.Length = codes "length"
cause_word causes.Version = codes "version"
cause_word causes.UnitType = codes "unit-type"
cause_word causes.AddressSize = codes "address-size"
cause_word causes.SegmentSize = codes "segment"
cause_word causes.AbbrevCode = codes "abbrev-code"
cause_word causes.AbbrevTwice = codes "abbrev-twice"
cause_word causes.Form = codes "form"
cause_word causes.AttrTwice = codes "attr-twice"
cause_word causes.AttrForm = codes "attr-form"
cause_word causes.TwoRoots = codes "two-roots"
cause_word causes.TreeOpen = codes "tree-open"
cause_word causes.TooDeep = codes "too-deep"
cause_word causes.String = codes "string"
cause_word causes.Index = codes "index"
cause_word causes.Base = codes "base"
cause_word causes.Reference = codes "reference"
cause_word causes.OriginDepth = codes "origin-depth"
cause_word causes.Children = codes "children"
cause_word causes.RangeBackwards = range_or_line_word causes.RangeBackwards
cause_word causes.Overflow = range_or_line_word causes.Overflow
cause_word causes.PcAndRanges = range_or_line_word causes.PcAndRanges
cause_word causes.RangeKind = range_or_line_word causes.RangeKind
cause_word causes.LineParams = range_or_line_word causes.LineParams
cause_word causes.OpcodeLengths = range_or_line_word causes.OpcodeLengths
cause_word causes.Extended = range_or_line_word causes.Extended
cause_word causes.FileFormat = range_or_line_word causes.FileFormat
cause_word causes.DirIndex = range_or_line_word causes.DirIndex
cause_word causes.FileIndex = range_or_line_word causes.FileIndex
cause_word causes.GoesBack = range_or_line_word causes.GoesBack
cause_word causes.SequenceOpen = range_or_line_word causes.SequenceOpen
cause_word causes.StmtList = range_or_line_word causes.StmtList
cause_word causes.CallFile = range_or_line_word causes.CallFile
cause_word causes.TooMany = range_or_line_word causes.TooMany
cause_word causes.LineRange = range_or_line_word causes.LineRange

-- the cause that corresponds to a read fault
abbrev pub cause_of : ReadFault → Cause
cause_of Short = causes.Short
cause_of Leb = causes.Leb
cause_of Unterminated = causes.String
cause_of Length = causes.Length
