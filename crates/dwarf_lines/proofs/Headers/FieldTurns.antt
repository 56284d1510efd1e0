-- The iterations of the loop that reads the fields of an entry.
use Rattle.std.proofs.Common.{◌≡◌, ℕ, ◌+◌, ◌<◌, ◌≤◌, List, length, drop, get_or, Result, Ok, Err}
use Rattle.std.proofs.Common.{refl, sym, ◌∙◌, add-one}
use Rattle.std.proofs.Math.Seq.{drop-cons}
use Rattle.std.proofs.lemmas.List.{drop_all}
use Rattle.dwarf_bytes.specs.declared.format.Format.{Format}
use Rattle.dwarf_bytes.specs.declared.fault.Cause.{Cause}
use Rattle.dwarf_lines.specs.declared.formats.Field.{Field}
use Rattle.dwarf_lines.specs.declared.formats.EntryTable.{EntryTable}
use Rattle.dwarf_lines.specs.declared.entries.Entry.{Entry}
use Rattle.dwarf_lines.specs.Sections.{LineSections}
use Rattle.dwarf_lines.specs.Entries.{field_at, fields_at}

module _ (s : LineSections) (format : Format) (table : EntryTable) (fields : List Field) (i : ℕ)
    (d : Field) (entry : Entry) (bytes : List ℕ) (place : ℕ) (total : Result (Entry × ℕ) Cause)
  where
    pub goes_on : (next : Entry) (after : ℕ) → i < length fields
        → field_at s format table (get_or fields i d) entry bytes place ≡ Ok (next, after)
        → fields_at s format table (drop i fields) entry bytes place ≡ total
        → fields_at s format table (drop (i + 1) fields) next bytes after ≡ total
    unfolding fields_at
    goes_on next after lt h so_far =
        let one : fields_at s format table (drop i fields) entry bytes place
        ≡ fields_at s format table (drop (i + 1) fields) next bytes after =
        rw (add-one, drop-cons fields i d, h) refl in
        sym one ∙ so_far

    pub ends : (cause : Cause) → i < length fields
        → field_at s format table (get_or fields i d) entry bytes place ≡ Err cause
        → fields_at s format table (drop i fields) entry bytes place ≡ total → total ≡ Err cause
    unfolding fields_at
    ends cause lt h so_far =
        let one : fields_at s format table (drop i fields) entry bytes place ≡ Err cause =
        rw (drop-cons fields i d, h) refl in
        sym so_far ∙ one

pub is-done : (s : LineSections) (format : Format) (table : EntryTable) (fields : List Field)
    (i : ℕ) (entry : Entry) (bytes : List ℕ) (place : ℕ) (total : Result (Entry × ℕ) Cause)
    → length fields ≤ i
    → fields_at s format table (drop i fields) entry bytes place ≡ total → total ≡ Ok (entry, place)
unfolding fields_at
is-done s format table fields i entry bytes place total le so_far =
    let one : fields_at s format table (drop i fields) entry bytes place ≡ Ok (entry, place) =
    rw (drop_all i fields le) refl in
    sym so_far ∙ one
