-- An initial length is read if and only if an encoding of it in its format is at the offset.
use Rattle.std.proofs.Common.{◌≡◌, ℕ, ◌+◌, ◌<◌, ◌≤◌, List, ◌++◌, length, drop, true, ◌==◌}
use Rattle.std.proofs.Common.{if◌then◌else◌, Result, Ok, Err, ap, sym, refl, subst, ◌∙◌, arith}
use Rattle.std.proofs.Common.{length-append, length-drop, append_assoc}
use Rattle.std.specs.Prelude.{nat_lt}
use Rattle.std.proofs.lemmas.Bool.{lt-ltb, ltb-true}
use Rattle.std.proofs.lemmas.Bool.Decides.{nat_tests}
use Rattle.dwarf_bytes.specs.Bind.{◌>>=◌}
use Rattle.dwarf_bytes.specs.declared.fault.ReadFault.{ReadFault}
use Rattle.dwarf_bytes.specs.declared.fault.ReadFault.TheVariants.{Length}
use Rattle.dwarf_bytes.specs.declared.format.Format.{Format}
use Rattle.dwarf_bytes.specs.declared.format.Format.TheVariants.{Dwarf32, Dwarf64}
use Rattle.dwarf_bytes.specs.Numbers.{IsFixed, IsLongLength, IsInitialLength, IsEncodedAt, u32_at}
use Rattle.dwarf_bytes.specs.Numbers.{u64_at, initial_length_at}
use Rattle.dwarf_bytes.proofs.Numbers.Advance.{after-bind, chosen}
use Rattle.dwarf_bytes.proofs.Numbers.AtOffsets.{fixed-encoded, fixed-again}
use Rattle.dwarf_bytes.proofs.Contents.ContentLaws.{bytes-after}
use Rattle.dwarf_bytes.proofs.Contents.ContentEncodings.{front-within}

-- the result of a read: the format, the length, and the offset after it
abbrev Read : Type 0
Read = (Format × ℕ) × ℕ

-- a length of either format, by its first four bytes
abbrev by_first : List ℕ → ℕ × ℕ → Result Read ReadFault
by_first bytes read =
    if nat_lt read.0 0xfffffff0 then Ok ((Dwarf32, read.0), read.1) else if read.0 == 0xffffffff
    then
    (u64_at bytes read.1 >>= λ long. Ok ((Dwarf64, long.0), long.1)) else Err Length

same-read : (x y : Read) → (let f : Read → Result Read ReadFault = λ z. Ok z in f x ≡ f y) → x ≡ y
same-read x y h = cc

is-escape : (n : ℕ) → (n == 0xffffffff) ≡ true → n ≡ 0xffffffff
is-escape n h = grind (arith, nat_tests)

-- four bytes followed by eight
long-encoded : (bytes : List ℕ) (at first mid len next : ℕ) → IsEncodedAt (IsFixed 4) bytes at
    first mid
    → first ≡ 0xffffffff → IsEncodedAt (IsFixed 8) bytes mid len next
    → IsEncodedAt IsLongLength bytes at len next
long-encoded bytes at first mid len next a is b =
    let rest-is : a.rest ≡ b.front ++ b.rest =
    sym (bytes-after bytes at a.front a.rest a.parts) ∙ ap (λ (n : ℕ). drop n bytes) (sym a.next_is)
    ∙ b.parts in
    record {
      front = a.front ++ b.front;
      rest = b.rest;
      encoded = record {
        escape = a.front;
        long = b.front;
        whole = refl;
        escape_is = subst (IsFixed 4 a.front) is a.encoded;
        long_is = b.encoded;
      };
      parts = a.parts ∙ ap (λ (t : List ℕ). a.front ++ t) rest-is
          ∙ sym (append_assoc a.front b.front b.rest);
      next_is = omega (arith, a.next_is, b.next_is, length-append a.front b.front);
    }

pub initial-encoded : (bytes : List ℕ) (at : ℕ) (read : Read) → initial_length_at bytes at ≡ Ok read
    → IsEncodedAt (IsInitialLength read.0.0) bytes at read.0.1 read.1
unfolding initial_length_at
initial-encoded bytes at read h =
    let Q : Read → Type 0 = λ (r : Read). IsEncodedAt (IsInitialLength r.0.0) bytes at r.0.1 r.1 in
    after-bind (u32_at bytes at) (by_first bytes) read h (Q read) (λ first first_is h1.
    let a = fixed-encoded 4 bytes at first.0 first.1 first_is in
    chosen (nat_lt first.0 0xfffffff0) _ _ (Ok read) h1 (Q read)
    (λ small e.
    let it : Q ((Dwarf32, first.0), first.1) =
    record {
      front = a.front;
      rest = a.rest;
      encoded = (a.encoded, ltb-true first.0 0xfffffff0 small);
      parts = a.parts;
      next_is = a.next_is;
    } in
    subst Q (same-read ((Dwarf32, first.0), first.1) read e) it)
    (λ _ h2. chosen (first.0 == 0xffffffff) _ _ (Ok read) h2 (Q read)
    (λ escape h3. after-bind (u64_at bytes first.1) (λ long. Ok ((Dwarf64, long.0), long.1)) read h3
    (Q read)
    (λ long long_is h4.
    let it : Q ((Dwarf64, long.0), long.1) =
    long-encoded bytes at first.0 first.1 long.0 long.1 a (is-escape first.0 escape)
    (fixed-encoded 8 bytes first.1 long.0 long.1 long_is) in
    subst Q (same-read ((Dwarf64, long.0), long.1) read h4) it))
    (λ _ e. cc)))

pub initial-again : (format : Format) (bytes : List ℕ) (at len next : ℕ)
    → IsEncodedAt (IsInitialLength format) bytes at len next
    → initial_length_at bytes at ≡ Ok ((format, len), next)
unfolding initial_length_at
initial-again Dwarf32 bytes at len next s =
    let within = front-within bytes at s.front s.rest s.parts (omega (arith, s.encoded.0.0)) in
    let read = fixed-again 4 bytes at len next within
    (record {
      front = s.front;
      rest = s.rest;
      encoded = s.encoded.0;
      parts = s.parts;
      next_is =
          s.next_is;
    }) in
    rw (read, lt-ltb len 0xfffffff0 s.encoded.1) refl
initial-again Dwarf64 bytes at len next s =
    let t = s.encoded in
    let parts : drop at bytes ≡ t.escape ++ (t.long ++ s.rest) =
    s.parts ∙ ap (λ (b : List ℕ). b ++ s.rest) t.whole ∙ append_assoc t.escape t.long s.rest in
    let mid : ℕ = at + length t.escape in
    let there : drop mid bytes ≡ t.long ++ s.rest =
    bytes-after bytes at t.escape (t.long ++ s.rest) parts in
    let first = fixed-again 4 bytes at 0xffffffff mid
    (front-within bytes at t.escape (t.long ++ s.rest) parts (omega (arith, t.escape_is.0)))
    (record {
      front = t.escape;
      rest = t.long ++ s.rest;
      encoded = t.escape_is;
      parts = parts;
      next_is = refl;
    }) in
    let size : next ≡ mid + length t.long =
    omega (arith, s.next_is, ap length t.whole, length-append t.escape t.long) in
    let long = fixed-again 8 bytes mid len next (front-within bytes mid t.long s.rest there
    (omega (arith, t.long_is.0))) (record {
      front = t.long;
      rest = s.rest;
      encoded = t.long_is;
      parts = there;
      next_is = size;
    }) in
    rw (first, long) refl

encoded-length : (format : Format) (bytes : List ℕ) (len : ℕ) → IsInitialLength format bytes len
    → 0 < length bytes
encoded-length Dwarf32 bytes len s = omega (arith, s.0.0)
encoded-length Dwarf64 bytes len s = omega
    (arith, s.escape_is.0, ap length s.whole, length-append s.escape s.long)

-- the offset after an initial length: greater than the one before, and not past the end
pub initial_length_at-moves : (bytes : List ℕ) (at : ℕ) (read : Read)
    → initial_length_at bytes at ≡ Ok read
    → (at < read.1) × (read.1 ≤ length bytes)
initial_length_at-moves bytes at read h =
    let s = initial-encoded bytes at read h in
    let size = encoded-length read.0.0 s.front read.0.1 s.encoded in
    let all = ap length s.parts in (
      omega (arith, s.next_is, size),
      omega (
        arith,
        s.next_is,
        size,
        all,
        length-append s.front s.rest,
        length-drop at bytes,
      ),
    )
