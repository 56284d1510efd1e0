-- Each read of a LEB128 number or a byte moves at least one byte on, and not past the end.
use Rattle.std.specs.Option.{option_map_or}
use Rattle.std.proofs.Common.{◌≡◌, ℕ, ◌+◌, ◌^◌, ◌<◌, ◌≤◌, ℤ, List, Bool, true, false, cond, length}
use Rattle.std.proofs.Common.{take, drop, refl, ap, subst, arith, length-take, length-drop}
use Rattle.std.specs.Prelude.{Option, Some, None, Result, Ok, Err, position, nat_lt}
use Rattle.std.proofs.lemmas.List.Quantifiers.{position-Some}
use Rattle.dwarf_bytes.specs.declared.fault.ReadFault.{ReadFault}
use Rattle.dwarf_bytes.specs.declared.fault.ReadFault.TheVariants.{Short, Leb}
use Rattle.dwarf_bytes.specs.declared.fault.Cause.{Cause}
use Rattle.dwarf_bytes.specs.Bind.{◌>>=◌}
use Rattle.dwarf_bytes.specs.Numbers.{leb_front, uleb_value, uleb_at, sleb_value, sleb_at, fits_i64}
use Rattle.dwarf_bytes.specs.Items.{reading, refuse_if}

-- if two steps in sequence return Ok, each of them does
pub bind_ok : {A B E : Type 0} (r : Result A E) (f : A → Result B E) (y : B) → (r >>= f) ≡ Ok y
    → (x : A) × (r ≡ Ok x)
    × (f x ≡ Ok y)
bind_ok (Ok x) f y h = (x, refl, h)
bind_ok (Err e) f y h = cc

-- the same with variables for the results of the steps, so that the terms of a long chain stay
-- small
pub after-bind : {A B E : Type 0} (r : Result A E) (f : A → Result B E) (y : B) → (r >>= f) ≡ Ok y
    → (P : Type 0)
    → ((x : A) → r ≡ Ok x → f x ≡ Ok y → P) → P
after-bind (Ok x) f y h P next = next x refl h
after-bind (Err e) f y h P next = cc

pub after-test : {B : Type 0} (b : Bool) (c : Cause) (f : Unit {0} → Result B Cause) (y : B)
    → (refuse_if b c >>= f) ≡ Ok y → (P : Type 0) → (b ≡ false → f tt ≡ Ok y → P) → P
after-test true c f y h P next = cc
after-test false c f y h P next = next refl h

pub reading-ok : {A : Type 0} (r : Result A ReadFault) (x : A) → reading r ≡ Ok x → r ≡ Ok x
reading-ok (Ok y) x h = cc
reading-ok (Err e) x h = cc

-- if a test and the step after it return Ok, the test is false
pub refuse_if-ok : {B : Type 0} (b : Bool) (c : Cause) (f : Unit {0} → Result B Cause) (y : B)
    → (refuse_if b c >>= f) ≡ Ok y → (b ≡ false) × (f tt ≡ Ok y)
refuse_if-ok true c f y h = cc
refuse_if-ok false c f y h = (refl, h)

-- case analysis on a conditional
pub chosen : {B : Type 0} (b : Bool) (x y z : B) → cond b x y ≡ z → (P : Type 0)
    → (b ≡ true → x ≡ z → P)
    → (b ≡ false → y ≡ z → P) → P
chosen true x y z h P when unless = when refl h
chosen false x y z h P when unless = unless refl h

pub leb_front-length : (bytes leb : List ℕ) → leb_front bytes ≡ Ok leb
    → (0 < length leb) × (length leb ≤ length bytes)
unfolding leb_front
leb_front-length bytes leb h = by_position (position (λ b. nat_lt b 128) (take 10 bytes)) refl h
  where
    by_position : (found : Option ℕ) → position (λ b. nat_lt b 128) (take 10 bytes) ≡ found
        → option_map_or (λ last. Ok (take (last + 1) bytes)) found
        (Err (cond (nat_lt (length bytes) 10) Short Leb)) ≡ Ok leb
        → (0 < length leb) × (length leb ≤ length bytes)
    by_position None is h = cc
    by_position (Some i) is h =
        let at = position-Some (λ b. nat_lt b 128) (take 10 bytes) i 0 is in
        let same : take (i + 1) bytes ≡ leb = cc in
        let shorter = length-take 10 bytes in
        let taken = length-take (i + 1) bytes in
        subst (λ (l : List ℕ). (0 < length l) × (length l ≤ length bytes)) same
        (omega (arith, at.0, shorter, taken), omega (arith, at.0, shorter, taken))

-- the offset after a read: greater than the one before, and not past the end
abbrev pub MovesOn : List ℕ → ℕ → ℕ → Type 0
MovesOn bytes at after = (at < after) × (after ≤ length bytes)

pub uleb_at-moves : (bytes : List ℕ) (at v after : ℕ) → uleb_at bytes at ≡ Ok (v, after)
    → MovesOn bytes at after
unfolding uleb_at
uleb_at-moves bytes at v after h =
    let front = bind_ok (leb_front (drop at bytes))
    (λ leb. cond (nat_lt (uleb_value leb) (2 ^ 64)) (Ok (uleb_value leb, at + length leb))
    (Err Leb))
    (v, after) h in
    let len = leb_front-length (drop at bytes) front.0 front.1 in
    chosen (nat_lt (uleb_value front.0) (2 ^ 64)) (Ok (uleb_value front.0, at + length front.0))
    (Err Leb)
    (Ok (v, after)) front.2 (MovesOn bytes at after)
    (λ _ is. let place : at + length front.0 ≡ after = ap (λ (p : ℕ × ℕ). p.1)
    (ok_same (uleb_value front.0, at + length front.0) (v, after) is) in
    let rest = length-drop at bytes in (
      omega (arith, len.0, place),
      omega (arith, len.0, len.1, rest, place),
    ))
    (λ _ is. cc)
  where
    ok_same : (x y : ℕ × ℕ) → (let f : ℕ × ℕ → Result (ℕ × ℕ) ReadFault = λ z. Ok z in f x ≡ f y)
        → x ≡ y
    ok_same x y h = cc

pub sleb_at-moves : (bytes : List ℕ) (at : ℕ) (v : ℤ) (after : ℕ) → sleb_at bytes at ≡ Ok (v, after)
    → MovesOn bytes at after
unfolding sleb_at
sleb_at-moves bytes at v after h =
    let front = bind_ok (leb_front (drop at bytes))
    (λ leb. cond (fits_i64 (sleb_value leb)) (Ok (sleb_value leb, at + length leb)) (Err Leb))
    (v, after) h in
    let len = leb_front-length (drop at bytes) front.0 front.1 in
    chosen (fits_i64 (sleb_value front.0)) (Ok (sleb_value front.0, at + length front.0)) (Err Leb)
    (Ok (v, after)) front.2 (MovesOn bytes at after)
    (λ _ is. let place : at + length front.0 ≡ after = ap (λ (p : ℤ × ℕ). p.1)
    (ok_same (sleb_value front.0, at + length front.0) (v, after) is) in
    let rest = length-drop at bytes in (
      omega (arith, len.0, place),
      omega (arith, len.0, len.1, rest, place),
    ))
    (λ _ is. cc)
  where
    ok_same : (x y : ℤ × ℕ) → (let f : ℤ × ℕ → Result (ℤ × ℕ) ReadFault = λ z. Ok z in f x ≡ f y)
        → x ≡ y
    ok_same x y h = cc
