-- The groups of a LEB128 number, byte by byte.
use Rattle.std.proofs.Common.{◌≡◌, ℕ, suc, ◌+◌, ◌*◌, ◌-◌, ◌%◌, ◌^◌, ◌<◌, ◌≤◌, false, cond, ltb}
use Rattle.std.proofs.Common.{List, [], ◌∷◌, ◌++◌, length, drop, take, get_or, ap, sym, refl, ◌∙◌}
use Rattle.std.proofs.Common.{subst, arith, length-take, Ok, Err}
use Rattle.std.specs.Prelude.{All, bit_and}
use Rattle.std.specs.List.{prefix_len}
use Rattle.std.proofs.lemmas.Bool.{le-ltb}
use Rattle.std.proofs.lemmas.List.{take-append-drop, take-take}
use Rattle.std.proofs.lemmas.List.Elements.{All-head, All-tail}
use Rattle.std.proofs.lemmas.Nat.{pow-add, and_mask, shl_whole, mul-le}
use Rattle.std.proofs.Math.Pow.{pow_mono}
use Rattle.std.proofs.Math.Numerals.{add-one}
use Rattle.std.proofs.Math.Seq.{take-suc}
use Rattle.dwarf_bytes.specs.declared.fault.ReadFault.TheVariants.{Short, Leb}
use Rattle.dwarf_bytes.specs.Numbers.{IsLeb, leb_front, uleb_value}
use Rattle.dwarf_bytes.specs.Private.LebPrefixes.{IsWhole, IsContinued}
use Rattle.dwarf_bytes.proofs.Numbers.LebEncodings.{goes_on, front-again}

abbrev pub GoOn : List ℕ → Type 0
GoOn bytes = All (λ byte. 128 ≤ byte) bytes

-- the weight of the next group is 2 ^ 7 times that of a group
pub next-power : (n : ℕ) → 2 ^ (7 * suc n) ≡ 128 * 2 ^ (7 * n)
next-power n = let e : 7 * suc n ≡ 7 + 7 * n = omega arith in rw e (pow-add 2 7 (7 * n))

pub uleb_value-push : (xs : List ℕ) (b : ℕ)
    → uleb_value (xs ++ b ∷ []) ≡ uleb_value xs + b % 128 * 2 ^ (7 * length xs)
uleb_value-push [] b = omega arith
uleb_value-push (x ∷ xs) b =
    let more = uleb_value-push xs b in
    let power : b % 128 * 2 ^ (7 * suc (length xs)) ≡ b % 128 * (128 * 2 ^ (7 * length xs)) =
    ap (λ (n : ℕ). b % 128 * n) (next-power (length xs)) in
    omega (arith, more, power)

-- an encoding is a sequence of bytes with bit 7 set, followed by one with bit 7 clear
pub IsLeb-push : (xs : List ℕ) (b : ℕ) → GoOn xs → b < 128 → IsLeb (xs ++ b ∷ [])
IsLeb-push [] b go last = last
IsLeb-push (x ∷ []) b go last = (All-head (λ (y : ℕ). 128 ≤ y) x [] go, last)
IsLeb-push (x ∷ y ∷ xs) b go last = (
  All-head (λ (z : ℕ). 128 ≤ z) x (y ∷ xs) go,
  IsLeb-push (y ∷ xs) b
      (All-tail (λ (z : ℕ). 128 ≤ z) x (y ∷ xs) go) last,
)

pub prefix-len-open : (xs : List ℕ) → GoOn xs → prefix_len goes_on xs ≡ length xs
prefix-len-open [] go = refl
prefix-len-open (x ∷ xs) go =
    let big = le-ltb x 128 (All-head (λ (z : ℕ). 128 ≤ z) x xs go) in
    let more = prefix-len-open xs (All-tail (λ (z : ℕ). 128 ≤ z) x xs go) in
    rw big (omega (arith, more))

-- if the first ten bytes have bit 7 set, there is no encoding
pub leb_front-open : (bytes : List ℕ) → GoOn (take 10 bytes)
    → leb_front bytes ≡ Err (cond (ltb (length bytes) 10) Short Leb)
unfolding leb_front
leb_front-open bytes go =
    let all = prefix-len-open (take 10 bytes) go in
    let none : ltb (prefix_len goes_on (take 10 bytes)) (length (take 10 bytes)) ≡ false =
    rw all (le-ltb _ _ (omega arith)) in
    rw none refl

-- an encoding at the start of the bytes is the one that is read
pub leb_front-take : (bytes : List ℕ) (len : ℕ) → IsLeb (take len bytes) → len ≤ 10
    → leb_front bytes ≡ Ok (take len bytes)
leb_front-take bytes len is few =
    let size = length-take len bytes in
    let again = front-again (take len bytes) (drop len bytes) is (omega (arith, size)) in
    ap leb_front (sym (take-append-drop len bytes)) ∙ again

-- ---- one more group

-- the first i + 1 bytes, decoded; the first i of them have bit 7 set
pub record Grown (front : List ℕ) (i sum : ℕ) : Type 0 where
  pub value_is : sum ≡ uleb_value (take (i + 1) front)
  pub small : sum < 2 ^ (7 * (i + 1))
  pub fits : sum < 2 ^ 64

pub grown : (front : List ℕ) (i value group : ℕ) → i < length front → i < 9
    → value ≡ uleb_value (take i front)
    → value < 2 ^ (7 * i) → group ≡ bit_and (get_or front i 0) 127
    → Grown front i (value + group * 2 ^ (7 * i) % 2 ^ 64)
grown front i value group within few is small masked =
    let b = get_or front i 0 in
    let low : group ≡ b % 128 = masked ∙ and_mask b 7 in
    let few_bits : group < 128 = omega arith in
    let whole : group * 2 ^ (7 * i) % 2 ^ 64 ≡ group * 2 ^ (7 * i) =
    shl_whole group 7 (7 * i) 64 few_bits (omega arith) in
    let size : length (take i front) ≡ i = length-take i front ∙ omega arith in
    let next : take (i + 1) front ≡ take i front ++ b ∷ [] =
    rw add-one (take-suc front i 0 within) in
    let pushed : uleb_value (take (i + 1) front) ≡ uleb_value (take i front) + b % 128 * 2 ^
    (7 * i) =
    ap uleb_value next ∙ uleb_value-push (take i front) b
    ∙ ap (λ (n : ℕ). uleb_value (take i front) + b % 128 * 2 ^ (7 * n)) size in
    let same : value + group * 2 ^ (7 * i) % 2 ^ 64 ≡ uleb_value (take (i + 1) front) =
    ap (λ (n : ℕ). value + n) whole ∙ ap (λ (n : ℕ). value + n * 2 ^ (7 * i)) low
    ∙ ap (λ (n : ℕ). n + b % 128 * 2 ^ (7 * i)) is ∙ sym pushed in
    let power : 2 ^ (7 * (i + 1)) ≡ 128 * 2 ^ (7 * i) = rw add-one (next-power i) in
    let top : group * 2 ^ (7 * i) ≤ 127 * 2 ^ (7 * i) =
    mul-le group (2 ^ (7 * i)) 127 (2 ^ (7 * i)) (omega arith) (omega arith) in
    let below : value + group * 2 ^ (7 * i) % 2 ^ 64 < 2 ^ (7 * (i + 1)) =
    omega (arith, whole, power, top) in
    let bound : 2 ^ (7 * (i + 1)) ≤ 2 ^ 63 = pow_mono {i = 7 * (i + 1)} {j = 63} (omega arith) in
    record { value_is = same; small = below; fits = omega (arith, below, bound) }

pub whole : (bytes : List ℕ) (n i sum : ℕ) → i < n → n ≤ 9 → n ≤ length bytes
    → Grown (take n bytes) i sum
    → GoOn (take i (take n bytes)) → get_or (take n bytes) i 0 < 128 → IsWhole bytes sum (i + 1)
whole bytes n i sum lt few within g go last =
    let size : length (take n bytes) ≡ n = length-take n bytes ∙ omega arith in
    let next : take (i + 1) (take n bytes) ≡ take i (take n bytes) ++ get_or (take n bytes) i 0
    ∷ [] =
    rw add-one (take-suc (take n bytes) i 0 (omega (arith, size))) in
    let same : take (i + 1) (take n bytes) ≡ take (i + 1) bytes =
    take-take (i + 1) n bytes (omega arith) in
    let leb : IsLeb (take (i + 1) (take n bytes)) =
    rw next (IsLeb-push (take i (take n bytes)) _ go last) in
    record {
      leb = subst IsLeb same leb;
      value_is = g.value_is ∙ ap uleb_value same;
      small = g.small;
      some = omega arith;
      few = omega arith;
      within = omega arith;
    }

pub low : (bytes : List ℕ) (n i value : ℕ) → n ≡ 9 → 9 ≤ length bytes → length (take n bytes) ≤ i
    → i ≤ length (take n bytes) → value ≡ uleb_value (take i (take n bytes)) → value < 2 ^ (7 * i)
    → GoOn (take i (take n bytes)) → IsContinued bytes value
low bytes n i value is within past most value_is small go =
    let size : length (take n bytes) ≡ n = length-take n bytes ∙ omega arith in
    let nine : i ≡ 9 = omega (arith, size) in
    let same : take i (take n bytes) ≡ take 9 bytes =
    ap (λ (k : ℕ). take k (take n bytes)) nine ∙ ap (λ (k : ℕ). take 9 (take k bytes)) is
    ∙ take-take 9 9 bytes (omega arith) in
    record {
      go_on = subst GoOn same go;
      value_is = value_is ∙ ap uleb_value same;
      small = subst (λ (k : ℕ). value < 2 ^ (7 * k)) nine small;
      within = within;
    }
