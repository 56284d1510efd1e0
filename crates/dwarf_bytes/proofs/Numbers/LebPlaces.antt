-- The number at an offset equals the number at the start of the remaining bytes.
use Rattle.std.proofs.Common.{◌≡◌, ℕ, ◌+◌, ◌-◌, ◌^◌, Bool, true, false, cond, ltb, List, length}
use Rattle.std.proofs.Common.{drop, take, refl, arith, length-drop, Result, Ok, Err}
use Rattle.std.specs.Prelude.{ℤ}
use Rattle.std.proofs.lemmas.List.{take_all}
use Rattle.dwarf_bytes.specs.declared.fault.ReadFault.{ReadFault}
use Rattle.dwarf_bytes.specs.declared.fault.ReadFault.TheVariants.{Leb}
use Rattle.dwarf_bytes.specs.Bind.{◌>>=◌}
use Rattle.dwarf_bytes.specs.Numbers.{uleb_at, sleb_at, leb_front, uleb_value, sleb_value, fits_i64}
use Rattle.dwarf_bytes.specs.Private.LebPrefixes.{uleb_front, sleb_front}

-- ---- the number at an offset

-- the bytes from an offset on, as a range that ends with the bytes
abbrev pub range_from : List ℕ → ℕ → List ℕ
range_from bytes at = take (length bytes - at) (drop at bytes)

range-from-is : (bytes : List ℕ) (at : ℕ) → range_from bytes at ≡ drop at bytes
range-from-is bytes at = let size =
    length-drop at bytes in take_all (length bytes - at) (drop at bytes) (omega (arith, size))

abbrev moved : {X : Type 0} → ℕ → X × ℕ → Result (X × ℕ) ReadFault
moved at read = Ok (read.0, at + read.1)

abbrev uleb_here : ℕ → List ℕ → Result (ℕ × ℕ) ReadFault
uleb_here at leb = cond (ltb (uleb_value leb) (2 ^ 64)) (Ok (uleb_value leb, at + length leb))
    (Err Leb)

abbrev uleb_len : List ℕ → Result (ℕ × ℕ) ReadFault
uleb_len leb = cond (ltb (uleb_value leb) (2 ^ 64)) (Ok (uleb_value leb, length leb)) (Err Leb)

uleb-test : (leb : List ℕ) (at : ℕ) (b : Bool)
    → cond {A = Result (ℕ × ℕ) ReadFault} b (Ok (uleb_value leb, at + length leb)) (Err Leb) ≡
    (cond {A = Result (ℕ × ℕ) ReadFault} b (Ok (uleb_value leb, length leb)) (Err Leb) >>= moved at)
uleb-test leb at true = refl
uleb-test leb at false = refl

uleb-step : (at : ℕ) (r : Result (List ℕ) ReadFault)
    → (r >>= uleb_here at) ≡ ((r >>= uleb_len) >>= moved at)
uleb-step at (Err e) = refl
uleb-step at (Ok leb) = uleb-test leb at (ltb (uleb_value leb) (2 ^ 64))

uleb_at-front : (bytes : List ℕ) (at : ℕ)
    → uleb_at bytes at ≡ (uleb_front (drop at bytes) >>= moved at)
unfolding uleb_at uleb_front
uleb_at-front bytes at = uleb-step at (leb_front (drop at bytes))

pub uleb_at-ok : (bytes : List ℕ) (at : ℕ) (value : ℕ) (len : ℕ) → uleb_front (range_from bytes at)
    ≡ Ok (value, len)
    → uleb_at bytes at ≡ Ok (value, at + len)
uleb_at-ok bytes at value len is = rw (uleb_at-front bytes at, ← range-from-is bytes at, is) refl

pub uleb_at-err : (bytes : List ℕ) (at : ℕ) (fault : ReadFault) → uleb_front (range_from bytes at)
    ≡ Err fault
    → uleb_at bytes at ≡ Err fault
uleb_at-err bytes at fault is = rw (uleb_at-front bytes at, ← range-from-is bytes at, is) refl

abbrev sleb_here : ℕ → List ℕ → Result (ℤ × ℕ) ReadFault
sleb_here at leb = cond (fits_i64 (sleb_value leb)) (Ok (sleb_value leb, at + length leb)) (Err Leb)

abbrev sleb_len : List ℕ → Result (ℤ × ℕ) ReadFault
sleb_len leb = cond (fits_i64 (sleb_value leb)) (Ok (sleb_value leb, length leb)) (Err Leb)

sleb-test : (leb : List ℕ) (at : ℕ) (b : Bool)
    → cond {A = Result (ℤ × ℕ) ReadFault} b (Ok (sleb_value leb, at + length leb)) (Err Leb) ≡
    (cond {A = Result (ℤ × ℕ) ReadFault} b (Ok (sleb_value leb, length leb)) (Err Leb) >>= moved at)
sleb-test leb at true = refl
sleb-test leb at false = refl

sleb-step : (at : ℕ) (r : Result (List ℕ) ReadFault)
    → (r >>= sleb_here at) ≡ ((r >>= sleb_len) >>= moved at)
sleb-step at (Err e) = refl
sleb-step at (Ok leb) = sleb-test leb at (fits_i64 (sleb_value leb))

sleb_at-front : (bytes : List ℕ) (at : ℕ)
    → sleb_at bytes at ≡ (sleb_front (drop at bytes) >>= moved at)
unfolding sleb_at sleb_front
sleb_at-front bytes at = sleb-step at (leb_front (drop at bytes))

pub sleb_at-ok : (bytes : List ℕ) (at : ℕ) (value : ℤ) (len : ℕ) → sleb_front (range_from bytes at)
    ≡ Ok (value, len)
    → sleb_at bytes at ≡ Ok (value, at + len)
sleb_at-ok bytes at value len is = rw (sleb_at-front bytes at, ← range-from-is bytes at, is) refl

pub sleb_at-err : (bytes : List ℕ) (at : ℕ) (fault : ReadFault) → sleb_front (range_from bytes at)
    ≡ Err fault
    → sleb_at bytes at ≡ Err fault
sleb_at-err bytes at fault is = rw (sleb_at-front bytes at, ← range-from-is bytes at, is) refl
