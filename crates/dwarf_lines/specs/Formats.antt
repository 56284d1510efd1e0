-- The entry formats of the directory table and the file table of a line program header (DWARF 5,
-- 6.2.4 and 6.2.4.1).
use Rattle.std.specs.Prelude.{ℕ, List, Bool, false, ◌&&◌, ◌||◌, Option, Some, None, nat_le, is_some}
use Rattle.std.specs.Prelude.{count_by, ◌==◌, if◌then◌else◌}
use Rattle.std.specs.List.{list_all}
use Rattle.dwarf_bytes.specs.declared.constants.TheConstants.{DW_FORM_STRING, DW_FORM_STRP}
use Rattle.dwarf_bytes.specs.declared.constants.TheConstants.{DW_FORM_LINE_STRP, DW_FORM_DATA1}
use Rattle.dwarf_bytes.specs.declared.constants.TheConstants.{DW_FORM_DATA2, DW_FORM_UDATA}
use Rattle.dwarf_bytes.specs.declared.constants.TheConstants.{DW_LNCT_PATH, DW_LNCT_DIRECTORY_INDEX}
use Rattle.dwarf_bytes.specs.declared.form.ValueLayout.{ValueLayout}
use Rattle.dwarf_bytes.specs.declared.form.Form.{Form}
use Rattle.dwarf_bytes.specs.declared.form.Form.TheVariants.{Direct, ImplicitConst, Indirect}
use Rattle.dwarf_bytes.specs.Forms.{form_of}
use Rattle.dwarf_lines.specs.declared.formats.Field.{Field}
use Rattle.dwarf_lines.specs.declared.formats.EntryTable.{EntryTable}
use Rattle.dwarf_lines.specs.declared.formats.EntryTable.TheVariants.{Directories, Files}

-- whether a field is a path (DW_LNCT_path)
abbrev pub is_path : Field → Bool
is_path field = field.content == DW_LNCT_PATH

-- whether a field of a table is the directory index of a file (DW_LNCT_directory_index)
abbrev pub is_index : EntryTable → Field → Bool
is_index Directories field = false
is_index (Files directories) field = field.content == DW_LNCT_DIRECTORY_INDEX

-- string, strp and line_strp
abbrev pub is_text_form : ℕ → Bool
is_text_form form =
    (form == DW_FORM_STRING) || (form == DW_FORM_STRP) || (form == DW_FORM_LINE_STRP)

-- data1, data2 and udata
abbrev pub is_index_form : ℕ → Bool
is_index_form form = (form == DW_FORM_DATA1) || (form == DW_FORM_DATA2) || (form == DW_FORM_UDATA)

-- the layout of a value that is directly in its entry
abbrev pub direct : Option Form → Option ValueLayout
direct (Some (Direct layout)) = Some layout
direct (Some ImplicitConst) = None
direct (Some Indirect) = None
direct None = None

abbrev pub layout_of : ℕ → Option ValueLayout
layout_of form = direct (form_of form)

-- The form of a field suits its content type: a string for a path, an unsigned number for a
-- directory index, and any form with a known layout for other content types (our choice).
abbrev pub has_valid_form : EntryTable → Field → Bool
has_valid_form table field =
    if is_path field then is_text_form field.form
    else if is_index table field then is_index_form field.form
    else is_some (layout_of field.form)

-- A format has exactly one path and at most one directory index (our choice).
abbrev pub is_format : EntryTable → List Field → Bool
is_format table fields =
    (count_by is_path fields == 1)
    && nat_le (count_by (is_index table) fields) 1
    && list_all (has_valid_form table) fields
