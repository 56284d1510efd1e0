-- Blocks and fixed-width numbers are read at an offset if and only if they are there.
use Rattle.std.proofs.Common.{◌≡◌, ℕ, ◌+◌, ◌≤◌, Bool, true, false, cond, ltb, List, ◌++◌, length}
use Rattle.std.proofs.Common.{drop, take, Result, Ok, Err, ap, sym, refl, ◌∙◌, arith, length-append}
use Rattle.std.proofs.Common.{length-drop}
use Rattle.std.proofs.lemmas.Bool.{ltb-false, le-ltb}
use Rattle.std.proofs.lemmas.List.{take_at, take-append-drop, length-take-le}
use Rattle.dwarf_bytes.specs.declared.fault.ReadFault.{ReadFault}
use Rattle.dwarf_bytes.specs.declared.fault.ReadFault.TheVariants.{Short}
use Rattle.dwarf_bytes.specs.Numbers.{block_at, fixed_at, little_endian, IsFixed, IsEncodedAt}
use Rattle.dwarf_bytes.proofs.Numbers.LebEncodings.{bind_ok}

-- ---- blocks and numbers of fixed width

-- a block of n bytes
abbrev pub IsBlock : ℕ → List ℕ → List ℕ → Type 0
IsBlock n bytes block = (length bytes ≡ n) × (block ≡ bytes)

same-block : (x y : List ℕ × ℕ) → (let f : List ℕ × ℕ → Result (List ℕ × ℕ) ReadFault = λ z. Ok z in
    f x ≡ f y) → x ≡ y
same-block x y h = cc

block-by : (b : Bool) (n : ℕ) (bytes : List ℕ) (at : ℕ) (block : List ℕ) (next : ℕ)
    → ltb (length bytes) (at + n) ≡ b
    → cond {A = Result (List ℕ × ℕ) ReadFault} b (Err Short) (Ok (take n (drop at bytes), at + n))
    ≡ Ok (block, next)
    → IsEncodedAt (IsBlock n) bytes at block next
block-by true n bytes at block next test e = absurd cc
block-by false n bytes at block next test e =
    let within = ltb-false _ _ test in
    let left = length-drop at bytes in
    let pairs = same-block (take n (drop at bytes), at + n) (block, next) e in
    let size = length-take-le n (drop at bytes) (omega (arith, left, within)) in
    record {
      front = take n (drop at bytes);
      rest = drop n (drop at bytes);
      encoded = (size, ap (λ (p : List ℕ × ℕ). p.0) (sym pairs));
      parts = sym (take-append-drop n (drop at bytes));
      next_is = ap (λ (p : List ℕ × ℕ). p.1) (sym pairs) ∙ ap (λ (m : ℕ). at + m) (sym size);
    }

pub block-encoded : (n : ℕ) (bytes : List ℕ) (at : ℕ) (block : List ℕ) (next : ℕ)
    → block_at n bytes at ≡ Ok (block, next) → IsEncodedAt (IsBlock n) bytes at block next
unfolding block_at
block-encoded n bytes at block next e = block-by (ltb (length bytes) (at + n)) n bytes at block next
    refl e

-- bytes at an offset are read as a block
pub block-of : (bytes : List ℕ) (at : ℕ) (front rest : List ℕ) → at ≤ length bytes
    → drop at bytes ≡ front ++ rest
    → block_at (length front) bytes at ≡ Ok (front, at + length front)
unfolding block_at
block-of bytes at front rest within parts =
    let left = length-drop at bytes in
    let all = ap length parts ∙ length-append front rest in
    let there : ltb (length bytes) (at + length front) ≡ false =
    le-ltb _ _ (omega (arith, left, all)) in
    rw (there, parts, take_at front rest (length front) refl) refl

pub fixed-encoded : (n : ℕ) (bytes : List ℕ) (at value next : ℕ)
    → fixed_at n bytes at ≡ Ok (value, next)
    → IsEncodedAt (IsFixed n) bytes at value next
unfolding fixed_at
fixed-encoded n bytes at value next e =
    let b = bind_ok (block_at n bytes at) (λ block. Ok (little_endian block.0, block.1))
    (value, next) e in
    let s = block-encoded n bytes at b.0.0 b.0.1 b.1 in
    let pairs = same_number (little_endian b.0.0, b.0.1) (value, next) b.2 in
    record {
      front = s.front;
      rest = s.rest;
      encoded = (s.encoded.0, ap (λ (p : ℕ × ℕ). p.0) (sym pairs) ∙ ap little_endian s.encoded.1);
      parts = s.parts;
      next_is = ap (λ (p : ℕ × ℕ). p.1) (sym pairs) ∙ s.next_is;
    }
  where
    same_number : (x y : ℕ × ℕ) → (let f : ℕ × ℕ → Result (ℕ × ℕ) ReadFault = λ z. Ok z in
        f x ≡ f y) → x ≡ y
    same_number x y h = cc

-- a number encoded at an offset is read there
pub fixed-of : (bytes : List ℕ) (at : ℕ) (front rest : List ℕ) → at ≤ length bytes
    → drop at bytes ≡ front ++ rest
    → fixed_at (length front) bytes at ≡ Ok (little_endian front, at + length front)
unfolding fixed_at
fixed-of bytes at front rest within parts = rw (block-of bytes at front rest within parts) refl

pub fixed-again : (n : ℕ) (bytes : List ℕ) (at value next : ℕ) → at ≤ length bytes
    → IsEncodedAt (IsFixed n) bytes at value next → fixed_at n bytes at ≡ Ok (value, next)
fixed-again n bytes at value next within s =
    ap (λ (m : ℕ). fixed_at m bytes at) (sym s.encoded.0) ∙ fixed-of bytes at s.front s.rest within
    s.parts
    ∙ ap (λ (v : ℕ). Ok (v, at + length s.front)) (sym s.encoded.1) ∙ ap (λ (m : ℕ). Ok (value, m))
    (sym s.next_is)
