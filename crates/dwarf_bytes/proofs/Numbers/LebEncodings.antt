-- Decoding and encoding of LEB128 numbers.
use Rattle.std.specs.Prelude.{ℤ, FitsSigned}
use Rattle.std.specs.Int.{w64}
use Rattle.std.proofs.Common.{◌≡◌, ℕ, suc, ◌+◌, ◌-◌, ◌^◌, ◌<◌, ◌≤◌, Bool, true, false, not, cond}
use Rattle.std.proofs.Common.{ltb, List, [], ◌∷◌, ◌++◌, length, drop, take, Some, None, Result, Ok}
use Rattle.std.proofs.Common.{Err, ap, sym, refl, subst, ◌∙◌, arith, length-append}
use Rattle.std.specs.List.{prefix_len}
use Rattle.std.specs.Option.{option_map_or}
use Rattle.std.proofs.lemmas.Bool.{ltb-false, ltb-true, lt-ltb, le-ltb}
use Rattle.std.proofs.lemmas.List.{take_at, take-append-drop, length-take, take-take}
use Rattle.std.proofs.Math.Seq.{take-append-add}
use Rattle.dwarf_bytes.specs.declared.fault.ReadFault.TheVariants.{Short, Leb}
use Rattle.dwarf_bytes.specs.Bind.{◌>>=◌}
use Rattle.dwarf_bytes.specs.Numbers.{IsLeb, IsUleb, IsSleb, IsEncodedAt, leb_front, uleb_value}
use Rattle.dwarf_bytes.specs.Numbers.{sleb_value, fits_i64, uleb_at, sleb_at}

-- the value of a step that did not fail
pub bind_ok : {A B E : Type 0} (r : Result A E) (f : A → Result B E) (y : B) → (r >>= f) ≡ Ok y
    → (x : A) × (r ≡ Ok x)
    × (f x ≡ Ok y)
bind_ok (Ok x) f y e = (x, refl, e)
bind_ok (Err d) f y e = absurd cc

-- a test that passes
pub guard-ok : {A E : Type 0} (b : Bool) (d : E) (x y : A) → cond b (Ok x) (Err d) ≡ Ok y
    → (b ≡ true) × (x ≡ y)
guard-ok true d x y e = (refl, cc)
guard-ok false d x y e = absurd cc

-- an index that is found
pub found-ok : {A E : Type 0} (b : Bool) (n : ℕ) (f : ℕ → A) (d : E) (y : A)
    → option_map_or (λ k. Ok (f k)) (cond b (Some n) None) (Err d) ≡ Ok y → (b ≡ true) × (f n ≡ y)
found-ok true n f d y e = (refl, cc)
found-ok false n f d y e = absurd cc

-- whether bit 7 of a byte is set
abbrev pub goes_on : ℕ → Bool
goes_on b = not (ltb b 128)

-- the last byte of an encoding is the first one below 128
pub last-of-leb : (leb rest : List ℕ) → IsLeb leb → prefix_len goes_on (leb ++ rest) + 1
    ≡ length leb
last-of-leb [] rest h = absurd h
last-of-leb (b ∷ []) rest h = rw (lt-ltb b 128 h) refl
last-of-leb (b ∷ c ∷ bs) rest h =
    let more = last-of-leb (c ∷ bs) rest h.1 in
    rw (le-ltb b 128 h.0) (omega (arith, more))

-- an encoding with one more byte before it
IsLeb-cons : (b : ℕ) (bytes : List ℕ) → 128 ≤ b → IsLeb bytes → IsLeb (b ∷ bytes)
IsLeb-cons b [] h leb = absurd leb
IsLeb-cons b (c ∷ bytes) h leb = (h, leb)

leb-of-last-at : (b : ℕ) (bytes : List ℕ) (last : Bool) → ltb b 128 ≡ last
    → (prefix_len goes_on bytes < length bytes → IsLeb (take (prefix_len goes_on bytes + 1) bytes))
    → cond (not last) (1 + prefix_len goes_on bytes) 0 < suc (length bytes)
    → IsLeb (take (cond (not last) (1 + prefix_len goes_on bytes) 0 + 1) (b ∷ bytes))
leb-of-last-at b bytes true is more h = ltb-true b 128 is
leb-of-last-at b bytes false is more h =
    let next : 1 + prefix_len goes_on bytes + 1 ≡ suc (prefix_len goes_on bytes + 1) =
    omega arith in
    rw next (IsLeb-cons b (take (prefix_len goes_on bytes + 1) bytes) (ltb-false b 128 is)
    (more (omega arith)))

-- the bytes up to the first one below 128 are an encoding
pub leb-of-last : (bytes : List ℕ) → prefix_len goes_on bytes < length bytes
    → IsLeb (take (prefix_len goes_on bytes + 1) bytes)
leb-of-last [] h = omega arith
leb-of-last (b ∷ bytes) h = leb-of-last-at b bytes (ltb b 128) refl (leb-of-last bytes) h

-- an encoding of at most ten bytes at the start of the bytes
pub record Front (bytes leb : List ℕ) : Type 0 where
  pub is_leb : IsLeb leb
  pub len : length leb ≤ 10
  pub parts : bytes ≡ leb ++ drop (length leb) bytes

pub front_ok : (bytes leb : List ℕ) → leb_front bytes ≡ Ok leb → Front bytes leb
unfolding leb_front
front_ok bytes leb e =
    let n = prefix_len goes_on (take 10 bytes) in
    let g = found-ok (ltb n (length (take 10 bytes))) n (λ (k : ℕ). take (k + 1) bytes)
    (cond (ltb (length bytes) 10) Short Leb) leb e in
    let lt : n < length (take 10 bytes) = ltb-true _ _ g.0 in
    let len = length-take 10 bytes in
    let same : take (n + 1) (take 10 bytes) ≡ leb = take-take (n + 1) 10 bytes (omega (arith, len))
    ∙ g.1 in
    let size : length leb ≡ n + 1 = ap length (sym g.1)
    ∙ (length-take (n + 1) bytes ∙ omega (arith, len)) in
    record {
      is_leb = subst IsLeb same (leb-of-last (take 10 bytes) lt);
      len = omega (arith, len, size);
      parts = rw size (sym (take-append-drop (n + 1) bytes)
          ∙ ap (λ (t : List ℕ). t ++ drop (n + 1) bytes) g.1);
    }

-- an encoding at the start of the bytes is the one that is read
pub front-again : (leb rest : List ℕ) → IsLeb leb → length leb ≤ 10
    → leb_front (leb ++ rest) ≡ Ok leb
unfolding leb_front
front-again leb rest is few =
    let more = 10 - length leb in
    let ten : 10 ≡ length leb + more = omega arith in
    let ten_front : take 10 (leb ++ rest) ≡ leb ++ take more rest =
    ap (λ (n : ℕ). take n (leb ++ rest)) ten ∙ take-append-add leb rest more in
    let last = last-of-leb leb (take more rest) is in
    let within : ltb (prefix_len goes_on (leb ++ take more rest)) (length (leb ++ take more rest))
    ≡ true =
    lt-ltb _ _ (omega (arith, last, length-append leb (take more rest))) in
    rw (ten_front, within, last, take_at leb rest (length leb) refl) refl

-- two encodings at the start of the same bytes are equal
pub one-leb : (a b x y : List ℕ) → IsLeb a → IsLeb b → a ++ x ≡ b ++ y → a ≡ b
one-leb a b x y is js e =
    let p = last-of-leb a x is in
    let q = last-of-leb b y js in
    let same : length a ≡ length b = sym p ∙ ap (λ (t : List ℕ). prefix_len goes_on t + 1) e ∙ q in
    sym (take_at a x (length a) refl) ∙ ap (λ (t : List ℕ). take (length a) t) e
    ∙ take_at b y (length a) (sym same)

-- ---- unsigned

pub uleb-encoded : (bytes : List ℕ) (at value next : ℕ) → uleb_at bytes at ≡ Ok (value, next)
    → IsEncodedAt IsUleb bytes at value next
unfolding uleb_at
uleb-encoded bytes at value next e =
    let b = bind_ok (leb_front (drop at bytes)) (λ leb. cond (ltb (uleb_value leb) (2 ^ 64))
    (Ok (uleb_value leb, at + length leb)) (Err Leb)) (value, next) e in
    let front = front_ok (drop at bytes) b.0 b.1 in
    let g = guard-ok (ltb (uleb_value b.0) (2 ^ 64)) Leb (uleb_value b.0, at + length b.0)
    (value, next) b.2 in
    let is : value ≡ uleb_value b.0 = ap (λ (p : ℕ × ℕ). p.0) (sym g.1) in
    record {
      front = b.0;
      rest = drop (length b.0) (drop at bytes);
      encoded = record {
        leb = front.is_leb;
        len = front.len;
        value_is = is;
        fits =
            rw is (ltb-true _ _ g.0);
      };
      parts = front.parts;
      next_is = ap (λ (p : ℕ × ℕ). p.1) (sym g.1);
    }

pub uleb-again : (bytes : List ℕ) (at value next : ℕ) → IsEncodedAt IsUleb bytes at value next
    → uleb_at bytes at ≡ Ok (value, next)
unfolding uleb_at
uleb-again bytes at value next s =
    let small : ltb (uleb_value s.front) (2 ^ 64) ≡ true =
    lt-ltb _ _ (rw (← s.encoded.value_is) s.encoded.fits) in
    rw (
      s.parts,
      front-again s.front s.rest s.encoded.leb s.encoded.len,
      small,
      ← s.encoded.value_is,
      ← s.next_is,
    ) refl

-- ---- signed

pub fits-of-tests : (z : ℤ) → fits_i64 z ≡ true → FitsSigned w64 z
fits-of-tests z e = grind arith

pub tests-of-fits : (z : ℤ) → FitsSigned w64 z → fits_i64 z ≡ true
tests-of-fits z e = grind arith

pub sleb-encoded : (bytes : List ℕ) (at : ℕ) (value : ℤ) (next : ℕ)
    → sleb_at bytes at ≡ Ok (value, next)
    → IsEncodedAt IsSleb bytes at value next
unfolding sleb_at
sleb-encoded bytes at value next e =
    let b = bind_ok (leb_front (drop at bytes)) (λ leb. cond (fits_i64 (sleb_value leb))
    (Ok (sleb_value leb, at + length leb)) (Err Leb)) (value, next) e in
    let front = front_ok (drop at bytes) b.0 b.1 in
    let g = guard-ok (fits_i64 (sleb_value b.0)) Leb (sleb_value b.0, at + length b.0) (value, next)
    b.2 in
    let is : value ≡ sleb_value b.0 = ap (λ (p : ℤ × ℕ). p.0) (sym g.1) in
    record {
      front = b.0;
      rest = drop (length b.0) (drop at bytes);
      encoded = record {
        leb = front.is_leb;
        len = front.len;
        value_is = is;
        fits = fits-of-tests value (ap fits_i64 is ∙ g.0);
      };
      parts = front.parts;
      next_is = ap (λ (p : ℤ × ℕ). p.1) (sym g.1);
    }

pub sleb-again : (bytes : List ℕ) (at : ℕ) (value : ℤ) (next : ℕ)
    → IsEncodedAt IsSleb bytes at value next
    → sleb_at bytes at ≡ Ok (value, next)
unfolding sleb_at
sleb-again bytes at value next s =
    let small : fits_i64 (sleb_value s.front) ≡ true =
    ap fits_i64 (sym s.encoded.value_is) ∙ tests-of-fits value s.encoded.fits in
    rw (
      s.parts,
      front-again s.front s.rest s.encoded.leb s.encoded.len,
      small,
      ← s.encoded.value_is,
      ← s.next_is,
    ) refl
