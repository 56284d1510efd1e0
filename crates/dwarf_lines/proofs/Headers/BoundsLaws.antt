-- The offsets of the parts of a line program: each program has at least one byte and ends within
-- the section.
use Rattle.std.proofs.Common.{◌≡◌, ℕ, ◌+◌, ◌<◌, ◌≤◌, List, length, take, drop, not, ◌==◌, Result}
use Rattle.std.proofs.Common.{Ok, Err, ap, arith, length-take}
use Rattle.std.specs.Prelude.{nat_lt}
use Rattle.std.proofs.lemmas.Bool.Decides.{nat_tests}
use Rattle.dwarf_bytes.specs.declared.fault.ReadFault.{ReadFault}
use Rattle.dwarf_bytes.specs.declared.fault.ReadFault.TheVariants.{Short}
use Rattle.dwarf_bytes.specs.declared.fault.Cause.{Cause}
use Rattle.dwarf_bytes.specs.declared.fault.Cause.TheVariants as causes
use Rattle.dwarf_bytes.specs.Items.{reading}
use Rattle.dwarf_bytes.specs.Numbers.{block_at, fixed_at, little_endian, u8_at, u16_at, offset_at}
use Rattle.dwarf_bytes.specs.Numbers.{initial_length_at}
use Rattle.dwarf_bytes.specs.declared.format.Format.{Format}
use Rattle.dwarf_bytes.specs.declared.format.Format.TheVariants.{Dwarf32, Dwarf64}
use Rattle.dwarf_bytes.proofs.Numbers.Advance.{after-bind, after-test, chosen, reading-ok}
use Rattle.dwarf_bytes.proofs.Numbers.LengthLaws.{initial_length_at-moves}
use Rattle.dwarf_lines.specs.declared.formats.EntryTable.TheVariants.{Directories, Files}
use Rattle.dwarf_lines.specs.declared.program_bounds.ProgramBounds.{ProgramBounds}
use Rattle.dwarf_lines.specs.Sections.{LineSections}
use Rattle.dwarf_lines.specs.Entries.{table_at}
use Rattle.dwarf_lines.specs.Headers.{LineHeader, within, bounds_at, encoding_at, header_at}

pub ok-is : {A E : Type 0} (x y : A) → (let f : A → Result A E = λ z. Ok z in f x ≡ f y) → x ≡ y
ok-is x y h = cc

pub fixed_at-place : (n : ℕ) (bytes : List ℕ) (at : ℕ) (v : ℕ × ℕ) → fixed_at n bytes at ≡ Ok v
    → v.1 ≡ at + n
unfolding fixed_at block_at
fixed_at-place n bytes at v h =
    let P : Type 0 = v.1 ≡ at + n in
    after-bind (block_at n bytes at) _ v h P (λ block block_is h1.
    chosen (nat_lt (length bytes) (at + n)) (Err Short) (Ok (take n (drop at bytes), at + n))
    (Ok block) block_is P (λ _ e. cc) (λ _ e.
    let same : (take n (drop at bytes), at + n) ≡ block =
    ok-is {E = ReadFault} (take n (drop at bytes), at + n) block e in
    let last : at + n ≡ block.1 = ap (λ (p : List ℕ × ℕ). p.1) same in
    let pair : (little_endian block.0, block.1) ≡ v =
    ok-is {E = ReadFault} (little_endian block.0, block.1) v h1 in
    let place : block.1 ≡ v.1 = ap (λ (p : ℕ × ℕ). p.1) pair in
    omega arith))

-- an offset into a section has at least one byte
offset_at-moves : (format : Format) (bytes : List ℕ) (at : ℕ) (v : ℕ × ℕ)
    → offset_at format bytes at ≡ Ok v → at < v.1
offset_at-moves Dwarf32 bytes at v h = let last = fixed_at-place 4 bytes at v h in omega
    (arith, last)
offset_at-moves Dwarf64 bytes at v h = let last = fixed_at-place 8 bytes at v h in omega
    (arith, last)

pub within-is : (bytes : List ℕ) (place found : ℕ) → within bytes place ≡ Ok found
    → (found ≡ place) × (found ≤ length bytes)
within-is bytes place found h = grind (arith, nat_tests)

-- the bounds of a program are in ascending order
pub record AreNested (line : List ℕ) (place : ℕ) (b : ProgramBounds) : Type 0 where
  pub starts : place < b.past
  pub front : place < b.fields
  pub fields : b.fields ≤ b.first
  pub first : b.first ≤ b.past
  pub past : b.past ≤ length line

pub bounds_at-nested : (line : List ℕ) (place : ℕ) (b : ProgramBounds) → bounds_at line place ≡ Ok b
    → AreNested line place b
unfolding bounds_at
bounds_at-nested line place b h =
    let P : Type 0 = AreNested line place b in
    after-bind (reading (initial_length_at line place)) _ b h P (λ unit unit_is h1.
    after-bind (within line (unit.1 + unit.0.1)) _ b h1 P (λ past past_is h2.
    after-bind (reading (u16_at (take past line) unit.1)) _ b h2 P (λ version version_is h3.
    after-test (not (version.0 == 5)) causes.Version _ b h3 P (λ _ h4.
    after-bind (reading (u8_at (take past line) version.1)) _ b h4 P (λ address address-is h5.
    after-test (not (address.0 == 8)) causes.AddressSize _ b h5 P (λ _ h6.
    after-bind (reading (u8_at (take past line) address.1)) _ b h6 P (λ segment segment_is h7.
    after-test (not (segment.0 == 0)) causes.SegmentSize _ b h7 P (λ _ h8.
    after-bind (reading (offset_at unit.0.0 (take past line) segment.1)) _ b h8 P (λ len len_is h9.
    after-bind (within (take past line) (len.1 + len.0)) _ b h9 P (λ first first_is h10.
    let same : record { format = unit.0.0; fields = len.1; first = first; past = past } ≡ b =
    ok-is {E = Cause} (record { format = unit.0.0; fields = len.1; first = first; past = past })
    b h10 in
    let fields : len.1 ≡ b.fields = ap (λ (c : ProgramBounds). c.fields) same in
    let firsts : first ≡ b.first = ap (λ (c : ProgramBounds). c.first) same in
    let pasts : past ≡ b.past = ap (λ (c : ProgramBounds). c.past) same in
    let start = initial_length_at-moves line place unit
    (reading-ok (initial_length_at line place) unit unit_is) in
    let ended = within-is line (unit.1 + unit.0.1) past past_is in
    let began = within-is (take past line) (len.1 + len.0) first first_is in
    let cut = length-take past line in
    let before_len = fixed_at-place 2 (take past line) unit.1 version
    (reading-ok (u16_at (take past line) unit.1) version version_is) in
    let before_segment = fixed_at-place 1 (take past line) version.1 address
    (reading-ok (u8_at (take past line) version.1) address address-is) in
    let before_offset = fixed_at-place 1 (take past line) address.1 segment
    (reading-ok (u8_at (take past line) address.1) segment segment_is) in
    let before_fields = offset_at-moves unit.0.0 (take past line) segment.1 len
    (reading-ok (offset_at unit.0.0 (take past line) segment.1) len len_is) in
    record {
      starts = omega (arith, start.0, ended.0);
      front = omega
          (arith, start.0, before_len, before_segment, before_offset, before_fields, fields);
      fields = omega (arith, began.0);
      first =
          omega (arith, began.1, cut);
      past = omega (arith, ended.1);
    }))))))))))

-- the end of a program with a valid header
pub header_at-past : (s : LineSections) (place : ℕ) (h : LineHeader) → header_at s place ≡ Ok h
    → (place < h.past) × (h.past ≤ length s.line)
unfolding header_at
header_at-past s place h is =
    let P : Type 0 = (place < h.past) × (h.past ≤ length s.line) in
    after-bind (bounds_at s.line place) _ h is P (λ bounds bounds_is h1.
    after-bind (encoding_at (take bounds.first s.line) bounds.fields) _ h h1 P
    (λ encoding encoding_is h2.
    after-bind (table_at s bounds.format Directories (take bounds.first s.line) encoding.1) _ h h2 P
    (λ directories directories_is h3.
    after-bind (table_at s bounds.format (Files (length directories.0)) (take bounds.first s.line)
    directories.1) _ h h3 P (λ files files_is h4.
    let same : bounds.past ≡ h.past = ap (λ (c : LineHeader). c.past)
    (ok-is {E = Cause} (record {
      encoding = encoding.0;
      directories = directories.0;
      files =
          files.0;
      first = bounds.first;
      past = bounds.past;
    }) h h4) in
    let nested = bounds_at-nested s.line place bounds bounds_is in
    let starts = nested.starts in
    let past = nested.past in
    (omega arith, omega arith)))))

-- the first instruction of a program with a valid header
pub header_at-first : (s : LineSections) (place : ℕ) (h : LineHeader) → header_at s place ≡ Ok h
    → place ≤ h.first
unfolding header_at
header_at-first s place h is =
    let P : Type 0 = place ≤ h.first in
    after-bind (bounds_at s.line place) _ h is P (λ bounds bounds_is h1.
    after-bind (encoding_at (take bounds.first s.line) bounds.fields) _ h h1 P
    (λ encoding encoding_is h2.
    after-bind (table_at s bounds.format Directories (take bounds.first s.line) encoding.1) _ h h2 P
    (λ directories directories_is h3.
    after-bind (table_at s bounds.format (Files (length directories.0)) (take bounds.first s.line)
    directories.1) _ h h3 P (λ files files_is h4.
    let same : bounds.first ≡ h.first = ap (λ (c : LineHeader). c.first)
    (ok-is {E = Cause} (record {
      encoding = encoding.0;
      directories = directories.0;
      files = files.0;
      first = bounds.first;
      past = bounds.past;
    }) h h4) in
    let nested = bounds_at-nested s.line place bounds bounds_is in
    let front = nested.front in
    let fields = nested.fields in
    omega (arith, front, fields, same)))))
