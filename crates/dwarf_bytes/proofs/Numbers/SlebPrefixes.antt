-- The signed number at the start of the bytes, and numbers of one byte.
use Rattle.std.proofs.Common.{◌≡◌, ℕ, zero, suc, ◌+◌, ◌*◌, ◌-◌, ◌%◌, ◌^◌, ◌<◌, ◌≤◌, Bool, true}
use Rattle.std.proofs.Common.{false, cond, ltb, List, [], ◌∷◌, length, take, get_or, ap, sym, refl}
use Rattle.std.proofs.Common.{◌∙◌, arith, length-take, Ok, Err}
use Rattle.std.specs.Prelude.{ℤ, pos, ◌-ℤ◌, nat_le, FitsSigned, ◌≢◌}
use Rattle.std.specs.Int.{w64}
use Rattle.std.proofs.lemmas.Int.{ints}
use Rattle.std.proofs.lemmas.Bool.{ltb-true, ltb-false}
use Rattle.std.proofs.lemmas.List.{get_or-take}
use Rattle.std.proofs.Math.Nat.{pow-suc}
use Rattle.dwarf_bytes.specs.declared.fault.ReadFault.{ReadFault}
use Rattle.dwarf_bytes.specs.declared.fault.ReadFault.TheVariants.{Short, Leb}
use Rattle.dwarf_bytes.specs.Numbers.{IsLeb, leb_sign, uleb_value, sleb_value, fits_i64}
use Rattle.dwarf_bytes.specs.Private.LebPrefixes.{IsWhole, IsContinued, uleb_front, sleb_front}
use Rattle.dwarf_bytes.proofs.Numbers.LebEncodings.{tests-of-fits}
use Rattle.dwarf_bytes.proofs.Numbers.LebPrefixes.{GoOn, next-power, leb_front-open, leb_front-take}
use Rattle.dwarf_bytes.proofs.Numbers.UlebPrefixes.{uleb-of, few-go_on, ten-leb, ten-value}
use Rattle.dwarf_bytes.proofs.Numbers.UlebPrefixes.{ten-open}

-- ---- signed

pub power-of-128 : (n : ℕ) → 128 ^ n ≡ 2 ^ (7 * n)
power-of-128 zero = refl
power-of-128 (suc n) = pow-suc 128 n ∙ omega (arith, power-of-128 n, next-power n)

-- the amount subtracted from a negative number
pub sign-part : (negative : Bool) (len n : ℕ) → n ≡ len
    → cond negative (128 ^ n) 0 ≡ cond negative (2 ^ (7 * len)) 0
sign-part negative len n is =
    ap (λ (k : ℕ). cond negative (128 ^ k) 0) is ∙ ap (λ (k : ℕ). cond negative k 0)
    (power-of-128 len)

-- the sign of the number in the first len bytes
pub sign-of : (bytes : List ℕ) (len : ℕ) → 0 < len → len ≤ length bytes
    → leb_sign (take len bytes) ≡ nat_le 64 (get_or bytes (len - 1) 0 % 128)
sign-of bytes len some within =
    let size : length (take len bytes) ≡ len = length-take len bytes ∙ omega arith in
    ap (λ (n : ℕ). nat_le 64 (get_or (take len bytes) (n - 1) 0 % 128)) size
    ∙ ap (λ (n : ℕ). nat_le 64 (n % 128)) (get_or-take len bytes (len - 1) 0 (omega arith))

pub sleb_value-take : (bytes : List ℕ) (len : ℕ) → 0 < len → len ≤ length bytes
    → sleb_value (take len bytes) ≡ pos (uleb_value (take len bytes)) -ℤ pos
    (cond (nat_le 64 (get_or bytes (len - 1) 0 % 128)) (2 ^ (7 * len)) 0)
sleb_value-take bytes len some within =
    let size : length (take len bytes) ≡ len = length-take len bytes ∙ omega arith in
    let value = uleb_value (take len bytes) in
    ap (λ (b : Bool). pos value -ℤ pos (cond b (128 ^ length (take len bytes)) 0))
    (sign-of bytes len some within)
    ∙ ap (λ (n : ℕ). pos value -ℤ pos n) (sign-part _ len _ size)

pub sleb-of : (bytes : List ℕ) (value : ℤ) (len : ℕ) → IsLeb (take len bytes) → len ≤ 10
    → len ≤ length bytes
    → value ≡ sleb_value (take len bytes) → FitsSigned w64 value
    → sleb_front bytes ≡ Ok (value, len)
unfolding sleb_front
sleb-of bytes value len leb few within is fits =
    let size : length (take len bytes) ≡ len = length-take len bytes ∙ omega arith in
    let good : fits_i64 (sleb_value (take len bytes)) ≡ true =
    ap fits_i64 (sym is) ∙ tests-of-fits value fits in
    rw (leb_front-take bytes len leb few, good, ← is, size) refl

pub sleb-over : (bytes : List ℕ) (len : ℕ) → IsLeb (take len bytes) → len ≤ 10
    → fits_i64 (sleb_value (take len bytes)) ≡ false → sleb_front bytes ≡ Err Leb
unfolding sleb_front
sleb-over bytes len leb few over = rw (leb_front-take bytes len leb few, over) refl

pub sleb-none : (bytes : List ℕ) → GoOn (take 10 bytes)
    → sleb_front bytes ≡ Err (cond (ltb (length bytes) 10) Short Leb)
unfolding sleb_front
sleb-none bytes go = rw (leb_front-open bytes go) refl

pub sleb-short : (bytes : List ℕ) → length bytes < 10 → GoOn bytes → sleb_front bytes ≡ Err Short
sleb-short bytes few go = let p = few-go_on bytes few go in
    rw (sleb-none bytes p.0) (ap (λ (f : ReadFault). Err f) p.1)

pub sleb-whole : (bytes : List ℕ) (u len : ℕ) (negative : Bool) (value : ℤ) → IsWhole bytes u len
    → negative ≡ nat_le 64 (get_or bytes (len - 1) 0 % 128)
    → value ≡ pos u -ℤ pos (cond negative (2 ^ (7 * len)) 0)
    → FitsSigned w64 value → sleb_front bytes ≡ Ok (value, len)
sleb-whole bytes u len negative value w sign is fits =
    let same = sleb_value-take bytes len w.some w.within in
    sleb-of bytes value len w.leb (omega (arith, w.few)) w.within
    (is ∙ ap (λ (b : Bool). pos u -ℤ pos (cond b (2 ^ (7 * len)) 0)) sign
    ∙ ap (λ (n : ℕ). pos n -ℤ pos (cond (nat_le 64 (get_or bytes (len - 1) 0 % 128)) (2 ^ (7 * len))
    0)) w.value_is
    ∙ sym same) fits

-- the value of ten bytes, by the last of them
pub sleb_value-ten : (bytes : List ℕ) (nine top : ℕ) → IsContinued bytes nine → 9 < length bytes
    → top ≡ get_or bytes 9 0 → sleb_value (take 10 bytes) ≡ pos (nine + top % 128 * 2 ^ 63) -ℤ pos
    (cond (nat_le 64 (top % 128)) (2 ^ 70) 0)
sleb_value-ten bytes nine top is more at =
    sleb_value-take bytes 10 (omega arith) (omega arith)
    ∙ ap (λ (n : ℕ). pos n -ℤ pos (cond (nat_le 64 (get_or bytes 9 0 % 128)) (2 ^ 70) 0))
    (ten-value bytes nine top is more at)
    ∙ ap (λ (n : ℕ). pos (nine + top % 128 * 2 ^ 63) -ℤ pos (cond (nat_le 64 (n % 128)) (2 ^ 70) 0))
    (sym at)

pub sleb-zero : (bytes : List ℕ) (nine top : ℕ) (value : ℤ) → IsContinued bytes nine
    → 9 < length bytes
    → top ≡ get_or bytes 9 0 → top ≡ 0 → value ≡ pos nine -ℤ pos 0 → FitsSigned w64 value
    → sleb_front bytes ≡ Ok (value, 10)
sleb-zero bytes nine top value is more at zero_top eq fits =
    let last : IsLeb (take 10 bytes) = ten-leb bytes nine top is more at (omega arith) in
    let encoded : sleb_value (take 10 bytes) ≡ pos (nine + 0 % 128 * 2 ^ 63) -ℤ pos 0 =
    sleb_value-ten bytes nine top is more at ∙ ap
    (λ (n : ℕ). pos (nine + n % 128 * 2 ^ 63) -ℤ pos (cond (nat_le 64 (n % 128)) (2 ^ 70) 0))
    zero_top in
    sleb-of bytes value 10 last (omega arith) (omega arith) (eq ∙ omega (arith, ints, encoded)) fits

pub sleb-minus : (bytes : List ℕ) (nine top : ℕ) (value : ℤ) → IsContinued bytes nine
    → 9 < length bytes
    → top ≡ get_or bytes 9 0 → top ≡ 127 → value ≡ pos nine -ℤ pos (2 ^ 63) → FitsSigned w64 value
    → sleb_front bytes ≡ Ok (value, 10)
sleb-minus bytes nine top value is more at all_ones eq fits =
    let last : IsLeb (take 10 bytes) = ten-leb bytes nine top is more at (omega arith) in
    let encoded : sleb_value (take 10 bytes) ≡ pos (nine + 127 % 128 * 2 ^ 63) -ℤ pos (2 ^ 70) =
    sleb_value-ten bytes nine top is more at ∙ ap
    (λ (n : ℕ). pos (nine + n % 128 * 2 ^ 63) -ℤ pos (cond (nat_le 64 (n % 128)) (2 ^ 70) 0))
    all_ones in
    sleb-of bytes value 10 last (omega arith) (omega arith) (eq ∙ omega (arith, ints, encoded)) fits

above_all : (n : ℕ) → 2 ^ 63 ≤ n → fits_i64 (pos n -ℤ pos 0) ≡ false
above_all n large = grind (arith, ints)

below_all : (n : ℕ) → n + 2 ^ 63 < 2 ^ 70 → fits_i64 (pos n -ℤ pos (2 ^ 70)) ≡ false
below_all n small = grind (arith, ints)

pub sleb-tenth : (bytes : List ℕ) (nine top : ℕ) → IsContinued bytes nine → 9 < length bytes
    → top ≡ get_or bytes 9 0
    → top ≢ 0 → top ≢ 127 → sleb_front bytes ≡ Err Leb
sleb-tenth bytes nine top is more at some other = by (ltb top 128) refl
  where
    by_sign : top < 128 → (b : Bool) → nat_le 64 (top % 128) ≡ b → sleb_front bytes ≡ Err Leb
    by_sign last true large =
        let encoded = sleb_value-ten bytes nine top is more at
        ∙ ap (λ (b : Bool). pos (nine + top % 128 * 2 ^ 63) -ℤ pos (cond b (2 ^ 70) 0)) large in
        let below = is.small in
        sleb-over bytes 10 (ten-leb bytes nine top is more at last) (omega arith)
        (ap fits_i64 encoded ∙ below_all (nine + top % 128 * 2 ^ 63) (omega (arith, below)))
    by_sign last false small =
        let encoded = sleb_value-ten bytes nine top is more at
        ∙ ap (λ (b : Bool). pos (nine + top % 128 * 2 ^ 63) -ℤ pos (cond b (2 ^ 70) 0)) small in
        sleb-over bytes 10 (ten-leb bytes nine top is more at last) (omega arith)
        (ap fits_i64 encoded ∙ above_all (nine + top % 128 * 2 ^ 63) (omega arith))

    by : (b : Bool) → ltb top 128 ≡ b → sleb_front bytes ≡ Err Leb
    by true small = by_sign (ltb-true _ _ small) (nat_le 64 (top % 128)) refl
    by false goes =
        let p = ten-open bytes nine top is more at (ltb-false _ _ goes) in
        rw (sleb-none bytes p.0) (ap (λ (f : ReadFault). Err f) p.1)

-- ---- one byte

pub uleb-byte : (bytes : List ℕ) → 1 ≤ length bytes → get_or bytes 0 0 < 128
    → uleb_front bytes ≡ Ok (get_or bytes 0 0, 1)
uleb-byte [] some last = absurd (omega arith)
uleb-byte (b ∷ bs) some last =
    let group : b % 128 ≡ b = omega arith in
    uleb-of (b ∷ bs) b 1 last (omega arith) (omega arith) (omega (arith, group)) (omega arith)

pub sleb-byte : (bytes : List ℕ) (value : ℤ) → 1 ≤ length bytes → get_or bytes 0 0 < 128
    → value ≡ pos (get_or bytes 0 0) -ℤ pos (cond (nat_le 64 (get_or bytes 0 0)) 128 0)
    → FitsSigned w64 value
    → sleb_front bytes ≡ Ok (value, 1)
sleb-byte [] value some last is fits = absurd (omega arith)
sleb-byte (b ∷ bs) value some last is fits =
    let group : b % 128 ≡ b = omega arith in
    let encoded : sleb_value (take 1 (b ∷ bs))
    ≡ pos (b + 128 * 0) -ℤ pos (cond (nat_le 64 b) 128 0) =
    ap (λ (n : ℕ). pos (n + 128 * 0) -ℤ pos (cond (nat_le 64 n) 128 0)) group in
    sleb-of (b ∷ bs) value 1 last (omega arith) (omega arith)
    (is ∙ ap (λ (n : ℕ). pos n -ℤ pos (cond (nat_le 64 b) 128 0)) (omega arith) ∙ sym encoded) fits
