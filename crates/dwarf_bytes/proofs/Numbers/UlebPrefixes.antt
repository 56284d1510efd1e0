-- The unsigned number at the start of the bytes.
use Rattle.std.proofs.Common.{◌≡◌, ℕ, ◌+◌, ◌*◌, ◌-◌, ◌%◌, ◌^◌, ◌<◌, ◌≤◌, Bool, true, false, cond}
use Rattle.std.proofs.Common.{ltb, List, [], ◌∷◌, ◌++◌, length, take, get_or, ap, sym, refl, ◌∙◌}
use Rattle.std.proofs.Common.{subst, arith, length-take, Ok, Err}
use Rattle.std.proofs.lemmas.Bool.{lt-ltb, le-ltb, ltb-true, ltb-false}
use Rattle.std.proofs.lemmas.List.{take_all}
use Rattle.std.proofs.lemmas.List.Elements.{All-take, All-push}
use Rattle.std.proofs.Math.Pow.{pow_mono}
use Rattle.std.proofs.Math.Seq.{take-suc}
use Rattle.dwarf_bytes.specs.declared.fault.ReadFault.{ReadFault}
use Rattle.dwarf_bytes.specs.declared.fault.ReadFault.TheVariants.{Short, Leb}
use Rattle.dwarf_bytes.specs.Numbers.{IsLeb, uleb_value}
use Rattle.dwarf_bytes.specs.Private.LebPrefixes.{IsWhole, IsContinued, uleb_front}
use Rattle.dwarf_bytes.proofs.Numbers.LebPrefixes.{GoOn, uleb_value-push, IsLeb-push}
use Rattle.dwarf_bytes.proofs.Numbers.LebPrefixes.{leb_front-open, leb_front-take}

-- ---- the number at the start

-- an encoding whose number fits in 64 bits
pub uleb-of : (bytes : List ℕ) (value len : ℕ) → IsLeb (take len bytes) → len ≤ 10
    → len ≤ length bytes
    → value ≡ uleb_value (take len bytes) → value < 2 ^ 64 → uleb_front bytes ≡ Ok (value, len)
unfolding uleb_front
uleb-of bytes value len leb few within is small =
    let size : length (take len bytes) ≡ len = length-take len bytes ∙ omega arith in
    let fits : ltb (uleb_value (take len bytes)) (2 ^ 64) ≡ true = lt-ltb _ _ (rw (← is) small) in
    rw (leb_front-take bytes len leb few, fits, ← is, size) refl

pub uleb-whole : (bytes : List ℕ) (value len : ℕ) → IsWhole bytes value len
    → uleb_front bytes ≡ Ok (value, len)
uleb-whole bytes value len w =
    let few = w.few in
    let small = w.small in
    let bound : 2 ^ (7 * len) ≤ 2 ^ 63 = pow_mono {i = 7 * len} {j = 63} (omega (arith, few)) in
    uleb-of bytes value len w.leb (omega (arith, few)) w.within w.value_is
    (omega (arith, small, bound))

-- an encoding whose number does not fit
pub uleb-over : (bytes : List ℕ) (len : ℕ) → IsLeb (take len bytes) → len ≤ 10
    → 2 ^ 64 ≤ uleb_value (take len bytes)
    → uleb_front bytes ≡ Err Leb
unfolding uleb_front
uleb-over bytes len leb few large =
    let over : ltb (uleb_value (take len bytes)) (2 ^ 64) ≡ false = le-ltb _ _ large in
    rw (leb_front-take bytes len leb few, over) refl

-- no encoding
pub uleb-none : (bytes : List ℕ) → GoOn (take 10 bytes)
    → uleb_front bytes ≡ Err (cond (ltb (length bytes) 10) Short Leb)
unfolding uleb_front
uleb-none bytes go = rw (leb_front-open bytes go) refl

-- fewer than ten bytes, all with bit 7 set
pub few-go_on : (bytes : List ℕ) → length bytes < 10 → GoOn bytes → (GoOn (take 10 bytes))
    × (cond (ltb (length bytes) 10) Short Leb ≡ Short)
few-go_on bytes few go = (All-take (λ (byte : ℕ). 128 ≤ byte) 10 bytes go, rw (lt-ltb _ _ few) refl)

pub uleb-short : (bytes : List ℕ) → length bytes < 10 → GoOn bytes → uleb_front bytes ≡ Err Short
uleb-short bytes few go = let p = few-go_on bytes few go in
    rw (uleb-none bytes p.0) (ap (λ (f : ReadFault). Err f) p.1)

pub nine-go_on : (bytes : List ℕ) (value : ℕ) → IsContinued bytes value → length bytes ≤ 9
    → GoOn bytes
nine-go_on bytes value is few = subst GoOn (take_all 9 bytes few) is.go_on

-- ten bytes: the first nine, and the tenth
pub ten : (bytes : List ℕ) → 9 < length bytes → take 10 bytes ≡ take 9 bytes ++ get_or bytes 9 0
    ∷ []
ten bytes more = take-suc bytes 9 0 more

pub ten-leb : (bytes : List ℕ) (value top : ℕ) → IsContinued bytes value → 9 < length bytes
    → top ≡ get_or bytes 9 0
    → top < 128 → IsLeb (take 10 bytes)
ten-leb bytes value top is more at last =
    rw (ten bytes more) (IsLeb-push (take 9 bytes) _ is.go_on (subst (λ (n : ℕ). n < 128) at last))

pub ten-value : (bytes : List ℕ) (value top : ℕ) → IsContinued bytes value → 9 < length bytes
    → top ≡ get_or bytes 9 0
    → uleb_value (take 10 bytes) ≡ value + top % 128 * 2 ^ 63
ten-value bytes value top is more at =
    let size : length (take 9 bytes) ≡ 9 = length-take 9 bytes ∙ omega arith in
    let pushed = uleb_value-push (take 9 bytes) (get_or bytes 9 0) in
    ap uleb_value (ten bytes more) ∙ pushed
    ∙ ap (λ (n : ℕ). uleb_value (take 9 bytes) + get_or bytes 9 0 % 128 * 2 ^
    (7 * n)) size
    ∙ ap (λ (n : ℕ). n + get_or bytes 9 0 % 128 * 2 ^ 63) (sym is.value_is)
    ∙ ap (λ (n : ℕ). value + n % 128 * 2 ^ 63) (sym at)

-- ten bytes with bit 7 set
pub ten-open : (bytes : List ℕ) (value top : ℕ) → IsContinued bytes value → 9 < length bytes
    → top ≡ get_or bytes 9 0
    → 128 ≤ top → (GoOn (take 10 bytes)) × (cond (ltb (length bytes) 10) Short Leb ≡ Leb)
ten-open bytes value top is more at goes = (
  rw (ten bytes more) (All-push (λ (byte : ℕ). 128 ≤ byte) (take 9 bytes) _ is.go_on
      (subst (λ (n : ℕ). 128 ≤ n) at goes)),
  (let over : ltb (length bytes) 10 ≡ false = le-ltb _ _ (omega arith) in rw over refl),
)

pub uleb-ten : (bytes : List ℕ) (value top : ℕ) → IsContinued bytes value → 9 < length bytes
    → top ≡ get_or bytes 9 0
    → top < 2 → uleb_front bytes ≡ Ok (value + top * 2 ^ 63 % 2 ^ 64, 10)
uleb-ten bytes value top is more at small =
    let encoded = ten-value bytes value top is more at in
    let below = is.small in
    let shifted : top * 2 ^ 63 % 2 ^ 64 ≡ top % 128 * 2 ^ 63 = omega arith in
    uleb-of bytes _ 10 (ten-leb bytes value top is more at (omega arith)) (omega arith)
    (omega arith)
    (omega (arith, encoded, shifted)) (omega (arith, below))

pub uleb-tenth : (bytes : List ℕ) (value top : ℕ) → IsContinued bytes value → 9 < length bytes
    → top ≡ get_or bytes 9 0 → 2 ≤ top → uleb_front bytes ≡ Err Leb
uleb-tenth bytes value top is more at large = by (ltb top 128) refl
  where
    by : (b : Bool) → ltb top 128 ≡ b → uleb_front bytes ≡ Err Leb
    by true small =
        let last = ltb-true _ _ small in
        let encoded = ten-value bytes value top is more at in
        uleb-over bytes 10 (ten-leb bytes value top is more at last) (omega arith)
        (omega (arith, encoded))
    by false goes =
        let p = ten-open bytes value top is more at (ltb-false _ _ goes) in
        rw (uleb-none bytes p.0) (ap (λ (f : ReadFault). Err f) p.1)
