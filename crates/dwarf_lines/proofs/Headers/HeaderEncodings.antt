-- The encoding of a line program header, in both directions.
use Rattle.std.proofs.Common.{◌≡◌, ℕ, ◌+◌, ◌<◌, ◌≤◌, List, ◌++◌, length, take, Ok, refl, ap, subst}
use Rattle.std.proofs.Common.{arith, length-take}
use Rattle.dwarf_bytes.specs.declared.format.Format.{Format}
use Rattle.dwarf_bytes.specs.Numbers.{IsEncodedAt}
use Rattle.dwarf_lines.specs.declared.formats.EntryTable.{EntryTable}
use Rattle.dwarf_lines.specs.declared.formats.EntryTable.TheVariants.{Directories, Files}
use Rattle.dwarf_lines.specs.declared.entries.Entry.{Entry}
use Rattle.dwarf_lines.specs.Sections.{LineSections}
use Rattle.dwarf_lines.specs.Instructions.{Encoding}
use Rattle.dwarf_lines.specs.Entries.{table_at}
use Rattle.dwarf_lines.specs.Headers.{LineHeader, encoding_at}
use Rattle.dwarf_lines.specs.HeaderEncodings.{EncodesTable, EncodesParameters, EncodesFields}
use Rattle.dwarf_lines.proofs.Lists.Spans.{Stretch, stretch-of, encoded-of, join, first_of, rest-of}
use Rattle.dwarf_lines.proofs.Headers.TableEncodings.{table-again}
use Rattle.dwarf_lines.proofs.Headers.ParameterEncodings.{front-within, encoding_again}
use Rattle.dwarf_lines.proofs.Headers.BoundsEncodings.{cut, uncut, between}

-- each part has at least one byte
some-encoding : (bytes : List ℕ) (e : Encoding) → EncodesParameters bytes e → 0 < length bytes
some-encoding bytes e is = omega (arith, ap length is.whole)

some-table : (s : LineSections) (format : Format) (table : EntryTable) (place : ℕ) (bytes : List ℕ)
    (entries : List Entry)
    → EncodesTable s format table place bytes entries → 0 < length bytes
some-table s format table place bytes entries is = omega (arith, ap length is.whole)

module _ (s : LineSections) (format : Format) (start : ℕ) (header : LineHeader) where
  -- the encoding parameters, the tables and the unread bytes fill the header
  pub fields_encoded : (e d f : ℕ) → header.first ≤ length s.line
      → IsEncodedAt EncodesParameters (take header.first s.line) start header.encoding e
      → IsEncodedAt (EncodesTable s format Directories e) (take header.first s.line) e
      header.directories d
      → IsEncodedAt (EncodesTable s format (Files (length header.directories)) d)
      (take header.first s.line) d header.files f
      → (fields : List ℕ) × Stretch s.line start fields header.first
      × EncodesFields s format start fields header
  fields_encoded e d f le encoding directories files =
      let line = s.line in
      let all = take header.first line in
      let last = stretch-of (EncodesTable s format (Files (length header.directories)) d) all d
      header.files f files in
      let some = some-table s format (Files (length header.directories)) d files.front header.files
      files.encoded in
      let a = uncut header.first line start encoding.front e
      (some-encoding encoding.front header.encoding encoding.encoded)
      (stretch-of EncodesParameters all start header.encoding e encoding) in
      let b = uncut header.first line e directories.front d
      (some-table s format Directories e directories.front header.directories
      directories.encoded) (stretch-of (EncodesTable s format Directories e) all e
      header.directories d directories) in
      let c = uncut header.first line d files.front f some last in
      let unread = between line f header.first
      (omega (arith, front-within all d files.front f some last, length-take header.first line)) le
      in
      let cu = join line d files.front f unread.0 header.first c unread.1 in
      let bcu = join line e directories.front d (files.front ++ unread.0) header.first b cu in
      let abcu = join line start encoding.front e (directories.front ++ (files.front ++ unread.0))
      header.first a bcu in
      let d_is : d ≡ start + length encoding.front + length directories.front =
      omega (arith, a.next_is, b.next_is) in (
        encoding.front ++ (directories.front ++ (files.front ++ unread.0)),
        abcu,
        record {
          encoding = encoding.front;
          directories = directories.front;
          files = files.front;
          unread = unread.0;
          whole = refl;
          encoding_is = encoding.encoded;
          directories_are = subst (λ (n : ℕ). EncodesTable s format Directories n directories.front
              header.directories) a.next_is directories.encoded;
          files_are = subst (λ (n : ℕ). EncodesTable s format (Files (length header.directories)) n
              files.front header.files) d_is files.encoded;
          first_is = abcu.next_is;
        },
      )

-- the parts of the fields of a program are read
module _ (s : LineSections) (format : Format) (start : ℕ) (fields : List ℕ) (header : LineHeader)
    (t : EncodesFields s format start fields header)
    (there : Stretch s.line start fields header.first) where
  whole_there : Stretch (take header.first s.line) start
      (t.encoding ++ (t.directories ++ (t.files ++ t.unread))) header.first
  whole_there = cut header.first s.line start
      (t.encoding ++ (t.directories ++ (t.files ++ t.unread))) header.first (omega arith)
      (subst (λ (b : List ℕ). Stretch s.line start b header.first) t.whole there)

  behind_encoding : Stretch (take header.first s.line) (start + length t.encoding)
      (t.directories ++ (t.files ++ t.unread)) header.first
  behind_encoding = rest-of (take header.first s.line) start t.encoding
      (t.directories ++ (t.files ++ t.unread)) header.first whole_there

  behind_directories : Stretch (take header.first s.line)
      (start + length t.encoding + length t.directories) (t.files ++ t.unread) header.first
  behind_directories = rest-of (take header.first s.line) (start + length t.encoding) t.directories
      (t.files ++ t.unread) header.first behind_encoding

  pub encoding_is : encoding_at (take header.first s.line) start
      ≡ Ok (header.encoding, start + length t.encoding)
  encoding_is =
      let all = take header.first s.line in
      encoding_again all start header.encoding (start + length t.encoding)
      (encoded-of EncodesParameters all start header.encoding (start + length t.encoding) t.encoding
      (first_of all start t.encoding (t.directories ++ (t.files ++ t.unread)) header.first
      whole_there) t.encoding_is)

  pub directories_are : table_at s format Directories (take header.first s.line)
      (start + length t.encoding) ≡ Ok (
        header.directories,
        start + length t.encoding + length
            t.directories,
      )
  directories_are =
      let all = take header.first s.line in
      let at = start + length t.encoding in
      table-again s format Directories all at header.directories (at + length t.directories)
      (encoded-of (EncodesTable s format Directories at) all at header.directories
      (at + length t.directories) t.directories
      (first_of all at t.directories (t.files ++ t.unread) header.first behind_encoding)
      t.directories_are)

  pub files_are : table_at s format (Files (length header.directories)) (take header.first s.line)
      (start + length t.encoding + length t.directories)
      ≡ Ok (header.files, start + length t.encoding + length t.directories + length t.files)
  files_are =
      let all = take header.first s.line in
      let table = Files (length header.directories) in
      let at = start + length t.encoding + length t.directories in
      table-again s format table all at header.files (at + length t.files)
      (encoded-of (EncodesTable s format table at) all at header.files (at + length t.files) t.files
      (first_of all at t.files t.unread header.first behind_directories) t.files_are)
