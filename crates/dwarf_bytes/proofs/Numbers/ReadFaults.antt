-- Which fault an invalid fixed-width number, initial length or string gives.
use Rattle.std.proofs.Common.{◌≡◌, ℕ, ◌+◌, ◌<◌, ◌≤◌, Bool, true, false, cond, ltb, List, length}
use Rattle.std.proofs.Common.{drop, take, Result, Ok, Err, ap, sym, refl, subst, ◌∙◌, arith, inl}
use Rattle.std.proofs.Common.{inr, length-drop, ◌==◌, Some, None}
use Rattle.std.specs.Prelude.{◌⊎◌, Option, All, ◌≢◌}
use Rattle.std.specs.Option.{option_map_or}
use Rattle.std.proofs.lemmas.Bool.{ltb-false, ltb-true, lt-ltb, le-ltb, eqb-true, eqb-false, eq-eqb}
use Rattle.std.proofs.lemmas.Bool.{ne_eqb}
use Rattle.dwarf_bytes.specs.declared.fault.ReadFault.{ReadFault}
use Rattle.dwarf_bytes.specs.declared.fault.ReadFault.TheVariants.{Short, Unterminated, Length}
use Rattle.dwarf_bytes.specs.declared.format.Format.{Format}
use Rattle.dwarf_bytes.specs.declared.format.Format.TheVariants.{Dwarf32, Dwarf64}
use Rattle.dwarf_bytes.specs.Bind.{◌>>=◌}
use Rattle.dwarf_bytes.specs.Numbers.{block_at, fixed_at, little_endian, initial_length_at}
use Rattle.dwarf_bytes.specs.Numbers.{IsTruncatedLength, IsReservedLength, text_at, text_front}
use Rattle.dwarf_bytes.specs.Numbers.{cstr_at}
use Rattle.dwarf_bytes.proofs.Strings.StringLaws.{text-missing, text-missing-again}

-- ---- fixed width

abbrev fixed_by : Bool → ℕ → List ℕ → ℕ → Result (ℕ × ℕ) ReadFault
fixed_by cut n bytes at =
    cond {A = Result (List ℕ × ℕ) ReadFault} cut (Err Short) (Ok (take n (drop at bytes), at + n))
    >>= λ block. Ok (little_endian block.0, block.1)

fixed-fault_by : (cut : Bool) (n : ℕ) (bytes : List ℕ) (at : ℕ) (fault : ReadFault)
    → ltb (length bytes) (at + n) ≡ cut → fixed_by cut n bytes at ≡ Err fault
    → (fault ≡ Short) × (length bytes < at + n)
fixed-fault_by true n bytes at fault is e = (cc, ltb-true _ _ is)
fixed-fault_by false n bytes at fault is e = absurd cc

pub fixed-fault : (n : ℕ) (bytes : List ℕ) (at : ℕ) (fault : ReadFault)
    → fixed_at n bytes at ≡ Err fault → (fault ≡ Short) × (length bytes < at + n)
unfolding fixed_at block_at
fixed-fault n bytes at fault e =
    fixed-fault_by (ltb (length bytes) (at + n)) n bytes at fault refl e

pub fixed-truncated : (n : ℕ) (bytes : List ℕ) (at : ℕ) (fault : ReadFault)
    → (fault ≡ Short) × (length bytes < at + n) → fixed_at n bytes at ≡ Err fault
unfolding fixed_at block_at
fixed-truncated n bytes at fault h = rw (lt-ltb _ _ h.1) (ap (λ (f : ReadFault). Err f) (sym h.0))

-- ---- initial lengths

abbrev Read : Type 0
Read = (Format × ℕ) × ℕ

-- the first four bytes at an offset, decoded
abbrev first_four : List ℕ → ℕ → ℕ
first_four bytes at = little_endian (take 4 (drop at bytes))

abbrev long_by : Bool → List ℕ → ℕ → Result Read ReadFault
long_by cut bytes at = fixed_by cut 8 bytes at >>= λ long. Ok ((Dwarf64, long.0), long.1)

abbrev escape_by : Bool → Bool → List ℕ → ℕ → Result Read ReadFault
escape_by escape cut bytes at = cond escape (long_by cut bytes (at + 4)) (Err Length)

abbrev small_by : Bool → Bool → Bool → List ℕ → ℕ → Result Read ReadFault
small_by small escape cut bytes at =
    cond small (Ok ((Dwarf32, first_four bytes at), at + 4)) (escape_by escape cut bytes at)

abbrev length_by : Bool → List ℕ → ℕ → Result Read ReadFault
length_by cut bytes at =
    cond cut (Err Short) (small_by (ltb (first_four bytes at) 0xfffffff0)
    (first_four bytes at == 0xffffffff) (ltb (length bytes) (at + 4 + 8)) bytes at)

length-is-by : (cut : Bool) (bytes : List ℕ) (at : ℕ) → ltb (length bytes) (at + 4) ≡ cut
    → initial_length_at bytes at ≡ length_by cut bytes at
unfolding initial_length_at fixed_at block_at
length-is-by true bytes at is = rw is refl
length-is-by false bytes at is = rw is refl

-- the faults of an initial length, and their conditions
abbrev pub IsLengthFault : List ℕ → ReadFault → Type 0
IsLengthFault bytes fault =
    ((fault ≡ Short) × IsTruncatedLength bytes) ⊎ ((fault ≡ Length) × IsReservedLength bytes)

escape_is : (n : ℕ) → (n == 0xffffffff) ≡ true → n ≡ 0xffffffff
escape_is n h = eqb-true n 0xffffffff h

long-fault_by : (cut : Bool) (bytes : List ℕ) (at : ℕ) (fault : ReadFault)
    → ltb (length bytes) (at + 4 + 8) ≡ cut → long_by cut bytes (at + 4) ≡ Err fault
    → (fault ≡ Short) × (length bytes < at + 12)
long-fault_by true bytes at fault is e =
    let cut = ltb-true _ _ is in (cc, omega (arith, cut))
long-fault_by false bytes at fault is e = absurd cc

escape-fault_by : (escape : Bool) (bytes : List ℕ) (at : ℕ) (fault : ReadFault)
    → (first_four bytes at == 0xffffffff) ≡ escape → at + 4 ≤ length bytes
    → 0xfffffff0 ≤ first_four bytes at
    → escape_by escape (ltb (length bytes) (at + 4 + 8)) bytes at ≡ Err fault
    → IsLengthFault (drop at bytes) fault
escape-fault_by true bytes at fault is whole low e =
    let long = long-fault_by (ltb (length bytes) (at + 4 + 8)) bytes at fault refl e in
    let size = length-drop at bytes in
    inl (long.0, inr (escape_is (first_four bytes at) is, omega (arith, size, long.1, whole)))
escape-fault_by false bytes at fault is whole low e =
    let size = length-drop at bytes in
    inr (
      cc,
      record {
        whole = omega (arith, size, whole);
        reserved = low;
        no_escape = eqb-false (first_four bytes at) 0xffffffff is;
      },
    )

small-fault_by : (small : Bool) (bytes : List ℕ) (at : ℕ) (fault : ReadFault)
    → ltb (first_four bytes at) 0xfffffff0 ≡ small → at + 4 ≤ length bytes
    → small_by small (first_four bytes at == 0xffffffff) (ltb (length bytes) (at + 4 + 8)) bytes at
    ≡ Err fault → IsLengthFault (drop at bytes) fault
small-fault_by true bytes at fault is whole e = absurd cc
small-fault_by false bytes at fault is whole e =
    escape-fault_by (first_four bytes at == 0xffffffff) bytes at fault refl whole
    (ltb-false _ _ is) e

length-fault_by : (cut : Bool) (bytes : List ℕ) (at : ℕ) (fault : ReadFault)
    → ltb (length bytes) (at + 4) ≡ cut → length_by cut bytes at ≡ Err fault
    → IsLengthFault (drop at bytes) fault
length-fault_by true bytes at fault is e =
    let size = length-drop at bytes in
    let cut = ltb-true _ _ is in inl (cc, inl (omega (arith, size, cut)))
length-fault_by false bytes at fault is e =
    small-fault_by (ltb (first_four bytes at) 0xfffffff0) bytes at fault refl (ltb-false _ _ is) e

pub length-fault : (bytes : List ℕ) (at : ℕ) (fault : ReadFault)
    → initial_length_at bytes at ≡ Err fault → IsLengthFault (drop at bytes) fault
length-fault bytes at fault e =
    length-fault_by (ltb (length bytes) (at + 4)) bytes at fault refl
    (sym (length-is-by (ltb (length bytes) (at + 4)) bytes at refl) ∙ e)

truncated-by : (cut : Bool) (bytes : List ℕ) (at : ℕ) → ltb (length bytes) (at + 4) ≡ cut
    → IsTruncatedLength (drop at bytes) → length_by cut bytes at ≡ Err Short
truncated-by true bytes at is h = refl
truncated-by false bytes at is (inl few) =
    let size = length-drop at bytes in
    let whole = ltb-false _ _ is in absurd (omega (arith, size, few, whole))
truncated-by false bytes at is (inr long) =
    let size = length-drop at bytes in
    let cut : ltb (length bytes) (at + 4 + 8) ≡ true =
    lt-ltb _ _ (omega (arith, size, long.1)) in
    let large : ltb (first_four bytes at) 0xfffffff0 ≡ false =
    le-ltb _ _ (omega (arith, long.0)) in
    let escape : (first_four bytes at == 0xffffffff) ≡ true = eq-eqb _ _ long.0 in
    rw (large, escape, cut) refl

pub length-truncated : (bytes : List ℕ) (at : ℕ) → IsTruncatedLength (drop at bytes)
    → initial_length_at bytes at ≡ Err Short
length-truncated bytes at h =
    length-is-by (ltb (length bytes) (at + 4)) bytes at refl
    ∙ truncated-by (ltb (length bytes) (at + 4)) bytes at refl h

pub length-reserved : (bytes : List ℕ) (at : ℕ) → IsReservedLength (drop at bytes)
    → initial_length_at bytes at ≡ Err Length
length-reserved bytes at h =
    let size = length-drop at bytes in
    let whole : ltb (length bytes) (at + 4) ≡ false =
    le-ltb _ _ (omega (arith, size, h.whole)) in
    let large : ltb (first_four bytes at) 0xfffffff0 ≡ false = le-ltb _ _ h.reserved in
    let other : (first_four bytes at == 0xffffffff) ≡ false = ne_eqb _ _ h.no_escape in
    length-is-by (ltb (length bytes) (at + 4)) bytes at refl ∙ rw (whole, large, other) refl

pub only-short : {P Q : Type 0} → ((Short ≡ Short) × P) ⊎ ((Short ≡ Length) × Q) → P
only-short (inl p) = p.1
only-short (inr p) = absurd (let no_such = p.0 in cc)

pub only-length : {P Q : Type 0} → ((Length ≡ Short) × P) ⊎ ((Length ≡ Length) × Q) → Q
only-length (inl p) = absurd (let no_such = p.0 in cc)
only-length (inr p) = p.1

pub short-or-length : {P Q : Type 0} (fault : ReadFault)
    → ((fault ≡ Short) × P) ⊎ ((fault ≡ Length) × Q) → (fault ≡ Short) ⊎ (fault ≡ Length)
short-or-length fault (inl p) = inl p.0
short-or-length fault (inr p) = inr p.0

-- ---- the string at an offset of a section

abbrev text_read : Option (List ℕ) → Result (List ℕ) ReadFault
text_read found = option_map_or (λ text. Ok text) found (Err Unterminated)

abbrev text_passed : Option (List ℕ) → ℕ → Result (List ℕ × ℕ) ReadFault
text_passed found at =
    option_map_or (λ text. Ok (text, at + length text + 1)) found (Err Unterminated)

-- the string alone, or with the offset after it: both fail together
both-fail : (found : Option (List ℕ)) (at : ℕ) (fault : ReadFault)
    → text_read found ≡ Err fault → text_passed found at ≡ Err fault
both-fail None at fault e = cc
both-fail (Some text) at fault e = absurd cc

both-fail-again : (found : Option (List ℕ)) (at : ℕ) (fault : ReadFault)
    → text_passed found at ≡ Err fault → text_read found ≡ Err fault
both-fail-again None at fault e = cc
both-fail-again (Some text) at fault e = absurd cc

pub text_at-fault : (section : List ℕ) (offset : ℕ) (fault : ReadFault)
    → text_at section offset ≡ Err fault
    → (fault ≡ Unterminated) × All (λ byte. byte ≢ 0) (drop offset section)
unfolding text_at cstr_at
text_at-fault section offset fault e =
    text-missing section offset fault (both-fail (text_front (drop offset section)) offset fault e)

pub text_at-missing : (section : List ℕ) (offset : ℕ) (fault : ReadFault)
    → (fault ≡ Unterminated) × All (λ byte. byte ≢ 0) (drop offset section)
    → text_at section offset ≡ Err fault
unfolding text_at cstr_at
text_at-missing section offset fault h =
    both-fail-again (text_front (drop offset section)) offset fault
    (text-missing-again section offset fault h)
