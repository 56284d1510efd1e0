-- The encoding of the bounds of a line program, in both directions.
use Rattle.std.proofs.Common.{◌≡◌, ℕ, ◌+◌, ◌-◌, ◌<◌, ◌≤◌, List, [], ◌∷◌, ◌++◌, length, take, drop}
use Rattle.std.proofs.Common.{true, not, ◌==◌, Ok, refl, sym, ap, ◌∙◌, subst, arith, append_assoc}
use Rattle.std.proofs.Common.{length-take, length-drop}
use Rattle.std.specs.Prelude.{nat_le}
use Rattle.std.proofs.Math.Seq.{take-append-add}
use Rattle.std.proofs.lemmas.List.{take-append-drop, drop-take, drop-append-le}
use Rattle.std.proofs.lemmas.Bool.Decides.{nat_tests}
use Rattle.dwarf_bytes.specs.declared.fault.Cause.{Cause}
use Rattle.dwarf_bytes.specs.declared.fault.Cause.TheVariants as causes
use Rattle.dwarf_bytes.specs.Items.{reading}
use Rattle.dwarf_bytes.specs.Numbers.{IsFixed, IsInitialLength, little_endian, u8_at, u16_at}
use Rattle.dwarf_bytes.specs.Numbers.{offset_at, offset_len, initial_length_at}
use Rattle.dwarf_bytes.proofs.Numbers.Advance.{after-bind, after-test, reading-ok}
use Rattle.dwarf_bytes.proofs.Numbers.LengthLaws.{initial-encoded, initial-again}
use Rattle.dwarf_lines.specs.declared.program_bounds.ProgramBounds.{ProgramBounds}
use Rattle.dwarf_lines.specs.Headers.{within, bounds_at}
use Rattle.dwarf_lines.proofs.Headers.BoundsLaws.{ok-is, within-is}
use Rattle.dwarf_lines.proofs.Lists.Spans.{Stretch, stretch, stretch-of, encoded-of, join, first_of}
use Rattle.dwarf_lines.proofs.Lists.Spans.{rest-of, two-bytes, fixed-encoded, fixed-again}
use Rattle.dwarf_lines.proofs.Lists.Spans.{byte-encoded, byte-again}
use Rattle.dwarf_lines.proofs.Headers.PathEncodings.{offset-encoded, offset-again}
use Rattle.dwarf_lines.proofs.Headers.ParameterEncodings.{asked-for, front-within}

-- ---- bytes truncated at an end

pub cut : (n : ℕ) (bytes : List ℕ) (at : ℕ) (front : List ℕ) (next : ℕ) → next ≤ n
    → Stretch bytes at front next
    → Stretch (take n bytes) at front next
cut n bytes at front next le there =
    let more : ℕ = n - next in
    let size : n ≡ at + (length front + more) = omega (arith, le, there.next_is) in
    let parts : drop at (take n bytes) ≡ front ++ take more (drop next bytes) =
    ap (λ (k : ℕ). drop at (take k bytes)) size
    ∙ (drop-take at (length front + more) bytes
    ∙ (ap (take (length front + more)) there.parts ∙ take-append-add front (drop next bytes)
    more)) in
    stretch (take n bytes) at front (take more (drop next bytes)) next parts there.next_is

pub uncut : (n : ℕ) (bytes : List ℕ) (at : ℕ) (front : List ℕ) (next : ℕ) → 0 < length front
    → Stretch (take n bytes) at front next
    → Stretch bytes at front next
uncut n bytes at front next some there =
    let starts : at ≤ length (take n bytes) =
    omega (arith, there.next_is, front-within (take n bytes) at front next some there) in
    let parts : drop at bytes ≡ front ++ (drop next (take n bytes) ++ drop n bytes) =
    ap (drop at) (sym (take-append-drop n bytes))
    ∙ (drop-append-le at (take n bytes) (drop n bytes) starts
    ∙ (ap (λ (l : List ℕ). l ++ drop n bytes) there.parts
    ∙ append_assoc front (drop next (take n bytes)) (drop n bytes))) in
    stretch bytes at front (drop next (take n bytes) ++ drop n bytes) next parts there.next_is

-- the bytes between two offsets
pub between : (bytes : List ℕ) (at next : ℕ) → at ≤ next → next ≤ length bytes
    → (front : List ℕ) × Stretch bytes at front next
between bytes at next le within =
    let size : next ≡ at + length (take (next - at) (drop at bytes)) =
    omega (arith, length-take (next - at) (drop at bytes), length-drop at bytes, le, within) in (
      take (next - at) (drop at bytes),
      stretch bytes at (take (next - at) (drop at bytes))
          (drop (next - at) (drop at bytes)) next
          (sym (take-append-drop (next - at) (drop at bytes)))
          size,
    )

-- ---- bounds

-- the encoded fields up to header_length, and the bounds they give
pub record AreEncoded (line : List ℕ) (place : ℕ) (b : ProgramBounds) : Type 0 where
  pub unit_length : List ℕ
  pub header_length : List ℕ
  pub mid : ℕ
  pub unit : ℕ
  pub counted : ℕ
  pub length_there : Stretch line place unit_length mid
  pub head_there : Stretch line mid (5 ∷ 0 ∷ 8 ∷ 0 ∷ header_length) b.fields
  pub unit_is : IsInitialLength b.format unit_length unit
  pub counted_is : IsFixed (offset_len b.format) header_length counted
  pub past_is : b.past ≡ mid + unit
  pub first_is : b.first ≡ b.fields + counted
  pub first : b.first ≤ b.past
  pub past : b.past ≤ length line

is-version : (block : List ℕ) → length block ≡ 2 → little_endian block ≡ 5 → block ≡ 5 ∷ 0 ∷ []
is-version block size value =
    let two = two-bytes block size in
    let sum : little_endian (two.0 ∷ two.1 ∷ []) ≡ 5 = ap little_endian (sym two.2) ∙ value in
    let low : two.0 ≡ 5 = omega (arith, sum) in
    let high : two.1 ≡ 0 = omega (arith, sum) in
    two.2 ∙ (ap (λ (n : ℕ). n ∷ two.1 ∷ []) low ∙ ap (λ (n : ℕ). 5 ∷ n ∷ []) high)

pub bounds-encoded : (line : List ℕ) (place : ℕ) (b : ProgramBounds) → bounds_at line place ≡ Ok b
    → AreEncoded line place b
unfolding bounds_at
bounds-encoded line place b h =
    let P : Type 0 = AreEncoded line place b in
    after-bind (reading (initial_length_at line place)) _ b h P (λ unit unit_is h1.
    after-bind (within line (unit.1 + unit.0.1)) _ b h1 P (λ past past_is h2.
    after-bind (reading (u16_at (take past line) unit.1)) _ b h2 P (λ version version_is h3.
    after-test (not (version.0 == 5)) causes.Version _ b h3 P (λ five h4.
    after-bind (reading (u8_at (take past line) version.1)) _ b h4 P (λ address address-is h5.
    after-test (not (address.0 == 8)) causes.AddressSize _ b h5 P (λ eight h6.
    after-bind (reading (u8_at (take past line) address.1)) _ b h6 P (λ segment segment_is h7.
    after-test (not (segment.0 == 0)) causes.SegmentSize _ b h7 P (λ zero_is h8.
    after-bind (reading (offset_at unit.0.0 (take past line) segment.1)) _ b h8 P (λ len len_is h9.
    after-bind (within (take past line) (len.1 + len.0)) _ b h9 P (λ first first_is h10.
    let all = take past line in
    let u = initial-encoded line place unit
    (reading-ok (initial_length_at line place) unit unit_is) in
    let ended = within-is line (unit.1 + unit.0.1) past past_is in
    let began = within-is all (len.1 + len.0) first first_is in
    let block = fixed-encoded 2 all unit.1 version
    (reading-ok (u16_at all unit.1) version version_is) in
    let v = subst (λ (front : List ℕ). Stretch all unit.1 front version.1)
    (is-version block.0 block.2 (sym block.3 ∙ asked-for version.0 5 five)) block.1 in
    let a = subst (λ (n : ℕ). Stretch all version.1 (n ∷ []) address.1)
    (asked-for address.0 8 eight) (byte-encoded all version.1 address
    (reading-ok (u8_at all version.1) address address-is)) in
    let g = subst (λ (n : ℕ). Stretch all address.1 (n ∷ []) segment.1)
    (asked-for segment.0 0 zero_is) (byte-encoded all address.1 segment
    (reading-ok (u8_at all address.1) segment segment_is)) in
    let l = offset-encoded unit.0.0 all segment.1 len.0 len.1
    (reading-ok (offset_at unit.0.0 all segment.1) len len_is) in
    let gl = join all address.1 (0 ∷ []) segment.1 l.front len.1 g
    (stretch-of (IsFixed (offset_len unit.0.0)) all segment.1 len.0 len.1 l) in
    let agl = join all version.1 (8 ∷ []) address.1 (0 ∷ l.front) len.1 a gl in
    let head = join all unit.1 (5 ∷ 0 ∷ []) version.1 (8 ∷ 0 ∷ l.front) len.1 v agl in
    let it : ProgramBounds = record {
      format = unit.0.0;
      fields = len.1;
      first = first;
      past =
          past;
    } in
    subst (λ (c : ProgramBounds). AreEncoded line place c) (ok-is {E = Cause} it b h10)
    (record {
      unit_length = u.front;
      header_length = l.front;
      mid = unit.1;
      unit = unit.0.1;
      counted = len.0;
      length_there = stretch-of (IsInitialLength unit.0.0) line place unit.0.1 unit.1 u;
      head_there = uncut past line unit.1 (5 ∷ 0 ∷ 8 ∷ 0 ∷ l.front) len.1 (omega arith) head;
      unit_is = u.encoded;
      counted_is = l.encoded;
      past_is = ended.0;
      first_is = began.0;
      first = omega (arith, began.1, length-take past line);
      past = ended.1;
    })))))))))))

within-again : (bytes : List ℕ) (place found : ℕ) → found ≡ place → found ≤ length bytes
    → within bytes place ≡ Ok found
within-again bytes place found is le =
    let front-within : nat_le place (length bytes) ≡ true =
    fits place (length bytes) (omega (arith, is, le)) in
    rw front-within (ap (λ (n : ℕ). Ok n) (sym is))
  where
    fits : (m n : ℕ) → m ≤ n → nat_le m n ≡ true
    fits m n h = grind (arith, nat_tests)

pub bounds-again : (line : List ℕ) (place : ℕ) (b : ProgramBounds) → AreEncoded line place b
    → bounds_at line place ≡ Ok b
unfolding bounds_at
bounds-again line place b t =
    let all = take b.past line in
    let head = cut b.past line t.mid (5 ∷ 0 ∷ 8 ∷ 0 ∷ t.header_length) b.fields
    (omega (arith, t.first_is, t.first)) t.head_there in
    let unit = initial-again b.format line place t.unit t.mid
    (encoded-of (IsInitialLength b.format) line place t.unit t.mid t.unit_length t.length_there
    t.unit_is) in
    let past = within-again line (t.mid + t.unit) b.past t.past_is t.past in
    let behind_version = rest-of all t.mid (5 ∷ 0 ∷ []) (8 ∷ 0 ∷ t.header_length) b.fields head in
    let behind_address = rest-of all (t.mid + 2) (8 ∷ []) (0 ∷ t.header_length) b.fields
    behind_version in
    let behind_segment = rest-of all (t.mid + 2 + 1) (0 ∷ []) t.header_length b.fields
    behind_address in
    let version : u16_at all t.mid ≡ Ok (5, t.mid + 2) =
    fixed-again all t.mid (5 ∷ 0 ∷ []) (t.mid + 2) (omega arith)
    (first_of all t.mid (5 ∷ 0 ∷ []) (8 ∷ 0 ∷ t.header_length) b.fields head) in
    let address = byte-again all (t.mid + 2) 8 (t.mid + 2 + 1)
    (first_of all (t.mid + 2) (8 ∷ []) (0 ∷ t.header_length) b.fields behind_version) in
    let segment = byte-again all (t.mid + 2 + 1) 0 (t.mid + 2 + 1 + 1)
    (first_of all (t.mid + 2 + 1) (0 ∷ []) t.header_length b.fields behind_address) in
    let len = offset-again b.format all (t.mid + 2 + 1 + 1) t.counted b.fields
    (encoded-of (IsFixed (offset_len b.format)) all (t.mid + 2 + 1 + 1) t.counted b.fields
    t.header_length behind_segment t.counted_is) in
    let first = within-again all (b.fields + t.counted) b.first t.first_is
    (omega (arith, t.first, t.past, length-take b.past line)) in
    rw (unit, past, version, address, segment, len, first) refl
