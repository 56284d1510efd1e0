-- The encoding of a path and of a directory index, in both directions.
use Rattle.std.proofs.Common.{◌≡◌, ℕ, ◌+◌, ◌<◌, List, ◌++◌, length, drop, Bool, true, false, ◌||◌}
use Rattle.std.proofs.Common.{◌==◌, Result, Ok, Err, Some, None, refl, ap, subst, arith}
use Rattle.std.proofs.Common.{length-append, length-drop}
use Rattle.std.specs.Prelude.{Option}
use Rattle.std.specs.Option.{option_map_or}
use Rattle.dwarf_bytes.specs.declared.constants.TheConstants.{DW_FORM_STRING, DW_FORM_STRP}
use Rattle.dwarf_bytes.specs.declared.constants.TheConstants.{DW_FORM_LINE_STRP, DW_FORM_DATA1}
use Rattle.dwarf_bytes.specs.declared.constants.TheConstants.{DW_FORM_DATA2, DW_FORM_UDATA}
use Rattle.dwarf_bytes.specs.declared.fault.ReadFault.{ReadFault}
use Rattle.dwarf_bytes.specs.declared.fault.ReadFault.TheVariants.{Unterminated}
use Rattle.dwarf_bytes.specs.declared.fault.Cause.{Cause}
use Rattle.dwarf_bytes.specs.declared.fault.Section.{Section}
use Rattle.dwarf_bytes.specs.declared.fault.Section.TheVariants as sections
use Rattle.dwarf_bytes.specs.declared.format.Format.{Format}
use Rattle.dwarf_bytes.specs.declared.format.Format.TheVariants.{Dwarf32, Dwarf64}
use Rattle.dwarf_bytes.specs.Items.{reading}
use Rattle.dwarf_bytes.specs.Numbers.{IsFixed, IsText, IsUleb, IsEncodedAt, text_front, cstr_at}
use Rattle.dwarf_bytes.specs.Numbers.{text_at, fixed_at, u8_at, u16_at, uleb_at, offset_at}
use Rattle.dwarf_bytes.specs.Numbers.{offset_len}
use Rattle.dwarf_bytes.proofs.Numbers.Advance.{after-bind, chosen, reading-ok}
use Rattle.dwarf_bytes.proofs.Numbers.LebEncodings.{uleb-encoded, uleb-again}
use Rattle.dwarf_bytes.proofs.Numbers.AtOffsets.{fixed-encoded, fixed-again}
use Rattle.dwarf_bytes.proofs.Strings.StringLaws.{text-encoded, text-again}
use Rattle.dwarf_lines.specs.declared.entries.PathText.{PathText}
use Rattle.dwarf_lines.specs.Sections.{LineSections}
use Rattle.dwarf_lines.specs.Formats.{is_text_form, is_index_form}
use Rattle.dwarf_lines.specs.Entries.{text_from, text_by_offset, path_at, index_at}
use Rattle.dwarf_lines.specs.HeaderEncodings.{EncodesPath, string, strp, line_strp, EncodesIndex}
use Rattle.dwarf_lines.specs.HeaderEncodings.{data1, data2, udata}
use Rattle.dwarf_lines.proofs.Headers.BoundsLaws.{ok-is}
use Rattle.dwarf_lines.proofs.Instructions.OperandEncodings.{eqb-eq}

-- converts between two encoding relations for the bytes at an offset
pub encoded-as : {X Y : Type 0} (S : List ℕ → X → Type 0) (T : List ℕ → Y → Type 0) (bytes : List ℕ)
    (at : ℕ) (x : X) (y : Y) (next : ℕ)
    → ((front : List ℕ) → S front x → T front y) → IsEncodedAt S bytes at x next
    → IsEncodedAt T bytes at y next
encoded-as S T bytes at x y next as_other s =
    record {
      front = s.front;
      rest = s.rest;
      encoded = as_other s.front s.encoded;
      parts = s.parts;
      next_is = s.next_is;
    }

-- the third of three alternatives
third : (a b c : Bool) → (a || b || c) ≡ true → a ≡ false → b ≡ false → c ≡ true
third true b c h not_a not_b = cc
third false true c h not_a not_b = cc
third false false c h not_a not_b = h

-- ---- numbers and strings

pub number-again : (n : ℕ) (bytes : List ℕ) (at value next : ℕ) → 0 < n
    → IsEncodedAt (IsFixed n) bytes at value next
    → fixed_at n bytes at ≡ Ok (value, next)
number-again n bytes at value next some s =
    fixed-again n bytes at value next (omega (
      arith,
      some,
      s.encoded.0,
      length-drop at bytes,
      ap length s.parts,
      length-append s.front s.rest,
    )) s

pub offset-encoded : (format : Format) (bytes : List ℕ) (at value next : ℕ)
    → offset_at format bytes at ≡ Ok (value, next)
    → IsEncodedAt (IsFixed (offset_len format)) bytes at value next
offset-encoded Dwarf32 bytes at value next h = fixed-encoded 4 bytes at value next h
offset-encoded Dwarf64 bytes at value next h = fixed-encoded 8 bytes at value next h

pub offset-again : (format : Format) (bytes : List ℕ) (at value next : ℕ)
    → IsEncodedAt (IsFixed (offset_len format)) bytes at value next
    → offset_at format bytes at ≡ Ok (value, next)
offset-again Dwarf32 bytes at value next s = number-again 4 bytes at value next (omega arith) s
offset-again Dwarf64 bytes at value next s = number-again 8 bytes at value next (omega arith) s

-- the string at an offset is the one that is read there
text_found : (texts : List ℕ) (offset : ℕ) (text : List ℕ) → text_at texts offset ≡ Ok text
    → (past : ℕ) × IsEncodedAt IsText texts offset text past
unfolding text_at cstr_at
text_found texts offset text h = (
  offset + length text + 1,
  text-encoded texts offset text
      (offset + length text + 1) (by (text_front (drop offset texts)) h),
)
  where
    by : (found : Option (List ℕ)) → option_map_or (λ t. Ok t) found (Err Unterminated) ≡ Ok text
        → option_map_or {U = Result (List ℕ × ℕ) ReadFault} (λ t. Ok (t, offset + length t + 1))
        found (Err Unterminated) ≡ Ok (text, offset + length text + 1)
    by None h = cc
    by (Some t) h = ap (λ (t : List ℕ). Ok (t, offset + length t + 1))
        (ok-is {E = ReadFault} t text h)

text-there : (texts : List ℕ) (offset : ℕ) (text : List ℕ) (past : ℕ)
    → IsEncodedAt IsText texts offset text past
    → text_at texts offset ≡ Ok text
unfolding text_at cstr_at
text-there texts offset text past s = by (text_front (drop offset texts))
    (text-again texts offset text past s)
  where
    by : (found : Option (List ℕ)) → option_map_or {U = Result (List ℕ × ℕ) ReadFault}
        (λ t. Ok (t, offset + length t + 1)) found (Err Unterminated) ≡ Ok (text, past)
        → option_map_or (λ t. Ok t) found (Err Unterminated) ≡ Ok text
    by None h = cc
    by (Some t) h = ap (λ (p : List ℕ × ℕ). Ok p.0)
        (ok-is {E = ReadFault} (t, offset + length t + 1) (text, past) h)

module _ (s : LineSections) (format : Format) (bytes : List ℕ) (at : ℕ) where
  -- ---- paths

  by_offset_encoded : (section : Section) (texts : List ℕ) (form : ℕ) (text : PathText) (next : ℕ)
      → ((front : List ℕ) (offset past : ℕ) (found : List ℕ)
      → IsFixed (offset_len format) front offset → IsEncodedAt IsText texts offset found past
      → EncodesPath s format at form front (text_from section offset found))
      → text_by_offset format section texts bytes at ≡ Ok (text, next)
      → IsEncodedAt (EncodesPath s format at form) bytes at text next
  by_offset_encoded section texts form text next make h =
      let P : Type 0 = IsEncodedAt (EncodesPath s format at form) bytes at text next in
      after-bind (reading (offset_at format bytes at)) _ (text, next) h P (λ offset offset_is h1.
      after-bind (reading (text_at texts offset.0)) _ (text, next) h1 P (λ found found_is h2.
      let a = offset-encoded format bytes at offset.0 offset.1
      (reading-ok (offset_at format bytes at) offset offset_is) in
      let there = text_found texts offset.0 found
      (reading-ok (text_at texts offset.0) found found_is) in
      subst (λ (p : PathText × ℕ). IsEncodedAt (EncodesPath s format at form) bytes at p.0 p.1)
      (ok-is {E = Cause} (text_from section offset.0 found, offset.1) (text, next) h2)
      (encoded-as (IsFixed (offset_len format)) (EncodesPath s format at form) bytes at offset.0
      (text_from section offset.0 found) offset.1
      (λ front is. make front offset.0 there.0 found is there.1) a)))

  pub path_encoded : (form : ℕ) (text : PathText) (next : ℕ) → is_text_form form ≡ true
      → path_at s format form bytes at ≡ Ok (text, next)
      → IsEncodedAt (EncodesPath s format at form) bytes at text next
  path_encoded form text next valid h =
      let P : Type 0 = IsEncodedAt (EncodesPath s format at form) bytes at text next in
      chosen (form == DW_FORM_STRING) _ _ (Ok (text, next)) h P
      (λ is h1. after-bind (reading (cstr_at bytes at)) _ (text, next) h1 P (λ found found_is h2.
      let a = text-encoded bytes at found.0 found.1 (reading-ok (cstr_at bytes at) found found_is)
      in
      let whole = encoded-as IsText (EncodesPath s format at DW_FORM_STRING) bytes at found.0
      (text_from sections.DebugLine at found.0) found.1 (λ front there. string found.0 there)
      a in
      rw (eqb-eq form DW_FORM_STRING is)
      (subst (λ (p : PathText × ℕ). IsEncodedAt (EncodesPath s format at DW_FORM_STRING)
      bytes at p.0
      p.1) (ok-is {E = Cause} (text_from sections.DebugLine at found.0, found.1) (text, next)
      h2) whole)))
      (λ not8 h1. chosen (form == DW_FORM_STRP) _ _ (Ok (text, next)) h1 P
      (λ is h2. rw (eqb-eq form DW_FORM_STRP is)
      (by_offset_encoded sections.DebugStr s.str DW_FORM_STRP text next
      (λ front offset past found is there. strp offset past found is there) h2))
      (λ not14 h2. rw (eqb-eq form DW_FORM_LINE_STRP
      (third (form == DW_FORM_STRING) (form == DW_FORM_STRP) (form == DW_FORM_LINE_STRP) valid
      not8 not14))
      (by_offset_encoded sections.DebugLineStr s.line_str DW_FORM_LINE_STRP text next
      (λ front offset past found is there. line_strp offset past found is there) h2)))

  pub path_again : (form : ℕ) (front : List ℕ) (text : PathText) (next : ℕ) → (rest : List ℕ)
      → drop at bytes ≡ front ++ rest
      → next ≡ at + length front → EncodesPath s format at form front text
      → path_at s format form bytes at ≡ Ok (text, next)
  path_again form front text next rest parts next_is (string found is) =
      rw (text-again bytes at found next
      (record { front = front; rest = rest; encoded = is; parts = parts; next_is = next_is }))
      refl
  path_again form front text next rest parts next_is (strp offset past found is there) =
      rw (
        offset-again format bytes at offset next
            (record { front = front; rest = rest; encoded = is; parts = parts; next_is = next_is }),
        text-there s.str offset found past there,
      ) refl
  path_again form front text next rest parts next_is (line_strp offset past found is there) =
      rw (
        offset-again format bytes at offset next
            (record { front = front; rest = rest; encoded = is; parts = parts; next_is = next_is }),
        text-there s.line_str offset found past there,
      ) refl

  -- ---- directory indexes

  pub index_encoded : (form index next : ℕ) → is_index_form form ≡ true
      → index_at form bytes at ≡ Ok (index, next)
      → IsEncodedAt (EncodesIndex form) bytes at index next
  index_encoded form index next valid h =
      let P : Type 0 = IsEncodedAt (EncodesIndex form) bytes at index next in
      chosen (form == DW_FORM_DATA1) _ _ (Ok (index, next)) h P
      (λ is h1. rw (eqb-eq form DW_FORM_DATA1 is)
      (encoded-as (IsFixed 1) (EncodesIndex DW_FORM_DATA1) bytes at index index next
      (λ front there. data1 there) (fixed-encoded 1 bytes at index next
      (reading-ok (u8_at bytes at) (index, next) h1))))
      (λ not11 h1. chosen (form == DW_FORM_DATA2) _ _ (Ok (index, next)) h1 P
      (λ is h2. rw (eqb-eq form DW_FORM_DATA2 is)
      (encoded-as (IsFixed 2) (EncodesIndex DW_FORM_DATA2) bytes at index index next
      (λ front there. data2 there) (fixed-encoded 2 bytes at index next
      (reading-ok (u16_at bytes at) (index, next) h2))))
      (λ not5 h2. rw (eqb-eq form DW_FORM_UDATA
      (third (form == DW_FORM_DATA1) (form == DW_FORM_DATA2) (form == DW_FORM_UDATA) valid not11
      not5))
      (encoded-as IsUleb (EncodesIndex DW_FORM_UDATA) bytes at index index next
      (λ front there. udata there) (uleb-encoded bytes at index next
      (reading-ok (uleb_at bytes at) (index, next) h2)))))

  pub index_again : (form : ℕ) (front : List ℕ) (index next : ℕ) → (rest : List ℕ)
      → drop at bytes ≡ front ++ rest → next ≡ at + length front
      → EncodesIndex form front index → index_at form bytes at ≡ Ok (index, next)
  index_again form front index next rest parts next_is (data1 is) =
      rw (number-again 1 bytes at index next (omega arith)
      (record { front = front; rest = rest; encoded = is; parts = parts; next_is = next_is }))
      refl
  index_again form front index next rest parts next_is (data2 is) =
      rw (number-again 2 bytes at index next (omega arith)
      (record { front = front; rest = rest; encoded = is; parts = parts; next_is = next_is }))
      refl
  index_again form front index next rest parts next_is (udata is) =
      rw (uleb-again bytes at index next
      (record { front = front; rest = rest; encoded = is; parts = parts; next_is = next_is }))
      refl
