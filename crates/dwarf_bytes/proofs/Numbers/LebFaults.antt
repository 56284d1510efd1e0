-- Which fault an invalid LEB128 number gives.
use Rattle.std.proofs.Common.{◌≡◌, ℕ, ◌+◌, ◌^◌, ◌≤◌, Bool, true, false, not, cond, ltb, List}
use Rattle.std.proofs.Common.{length, drop, take, Some, None, Result, Ok, Err, ap, sym, refl, subst}
use Rattle.std.proofs.Common.{◌∙◌, arith, inl, inr}
use Rattle.std.specs.Prelude.{◌⊎◌}
use Rattle.std.specs.List.{prefix_len}
use Rattle.std.specs.Option.{option_map_or}
use Rattle.std.proofs.lemmas.Bool.{ltb-false, ltb-true, lt-ltb, le-ltb}
use Rattle.std.proofs.lemmas.List.{take_all}
use Rattle.std.proofs.lemmas.List.Sums.{prefix_len_passes}
use Rattle.dwarf_bytes.specs.declared.fault.ReadFault.{ReadFault}
use Rattle.dwarf_bytes.specs.declared.fault.ReadFault.TheVariants.{Short, Leb}
use Rattle.dwarf_bytes.specs.Bind.{◌>>=◌}
use Rattle.dwarf_bytes.specs.Numbers.{IsTruncatedLeb, IsEndlessLeb, IsOverLeb, IsOverUleb}
use Rattle.dwarf_bytes.specs.Numbers.{IsOverSleb, leb_front, uleb_value, sleb_value, fits_i64}
use Rattle.dwarf_bytes.specs.Numbers.{uleb_at, sleb_at}
use Rattle.dwarf_bytes.proofs.Numbers.LebEncodings.{goes_on, front_ok, front-again, fits-of-tests}
use Rattle.dwarf_bytes.proofs.Numbers.LebEncodings.{tests-of-fits}
use Rattle.dwarf_bytes.proofs.Numbers.LebPrefixes.{GoOn, leb_front-open}

-- the faults of an encoding at the start of the bytes, and their conditions
abbrev pub IsFrontFault : List ℕ → ReadFault → Type 0
IsFrontFault bytes fault = ((fault ≡ Short) × IsTruncatedLeb bytes) ⊎ ((fault ≡ Leb)
    × IsEndlessLeb bytes)

goes-large : (b : ℕ) → goes_on b ≡ true → 128 ≤ b
goes-large b h = ltb-false b 128 (by (ltb b 128) h)
  where
    by : (t : Bool) → not t ≡ true → t ≡ false
    by true h = absurd cc
    by false h = refl

-- all bytes have bit 7 set
all-go_on : (bytes : List ℕ) → length bytes ≤ prefix_len goes_on bytes → GoOn bytes
all-go_on bytes h = λ k d lt. goes-large _ (prefix_len_passes goes_on bytes k d (omega arith))

fault_by : (few : Bool) (bytes : List ℕ) → ltb (length bytes) 10 ≡ few → GoOn (take 10 bytes)
    → IsFrontFault bytes (cond few Short Leb)
fault_by true bytes is go = let lt =
    ltb-true _ _ is in inl (refl, (lt, subst GoOn (take_all 10 bytes (omega arith)) go))
fault_by false bytes is go = inr (refl, (ltb-false _ _ is, go))

front-by : (found : Bool) (bytes : List ℕ) (fault : ReadFault)
    → ltb (prefix_len goes_on (take 10 bytes)) (length (take 10 bytes)) ≡ found
    → option_map_or (λ last. Ok (take (last + 1) bytes))
    (cond found (Some (prefix_len goes_on (take 10 bytes))) None)
    (Err (cond (ltb (length bytes) 10) Short Leb)) ≡ Err fault → IsFrontFault bytes fault
front-by true bytes fault is e = absurd cc
front-by false bytes fault is e =
    let same : cond (ltb (length bytes) 10) Short Leb ≡ fault = cc in
    subst (IsFrontFault bytes) same (fault_by (ltb (length bytes) 10) bytes refl
    (all-go_on (take 10 bytes) (ltb-false _ _ is)))

pub front-fault : (bytes : List ℕ) (fault : ReadFault) → leb_front bytes ≡ Err fault
    → IsFrontFault bytes fault
unfolding leb_front
front-fault bytes fault e =
    front-by (ltb (prefix_len goes_on (take 10 bytes)) (length (take 10 bytes))) bytes fault refl e

pub truncated-front : (bytes : List ℕ) → IsTruncatedLeb bytes → leb_front bytes ≡ Err Short
truncated-front bytes h =
    let all : take 10 bytes ≡ bytes = take_all 10 bytes (omega (arith, h.0)) in
    leb_front-open bytes (subst GoOn (sym all) h.1) ∙ ap (λ (t : Bool). Err (cond t Short Leb))
    (lt-ltb _ _ h.0)

pub endless-front : (bytes : List ℕ) → IsEndlessLeb bytes → leb_front bytes ≡ Err Leb
endless-front bytes h = leb_front-open bytes h.1 ∙ ap (λ (t : Bool). Err (cond t Short Leb))
    (le-ltb _ _ h.0)

-- ---- a number, by its encoding and a test of its value

-- the value of an encoding, if it fits
abbrev numbered : {X : Type 0} → (List ℕ → X) → (List ℕ → Bool) → ℕ → List ℕ
    → Result (X × ℕ) ReadFault
numbered value fits at leb = cond (fits leb) (Ok (value leb, at + length leb)) (Err Leb)

-- the faults of a number, and their conditions
abbrev IsFault : (List ℕ → Type 0) → List ℕ → ReadFault → Type 0
IsFault IsOver bytes fault =
    ((fault ≡ Short) × IsTruncatedLeb bytes) ⊎
    ((fault ≡ Leb) × (IsEndlessLeb bytes ⊎ IsOverLeb IsOver bytes))

number_by : {X : Type 0} (value : List ℕ → X) (fits : List ℕ → Bool) (IsOver : List ℕ → Type 0)
    (at : ℕ)
    (bytes leb : List ℕ) (t : Bool) → fits leb ≡ t → leb_front bytes ≡ Ok leb
    → (fits leb ≡ false → IsOver leb)
    → (fault : ReadFault) → cond {A = Result (X × ℕ) ReadFault} t (Ok (value leb, at + length leb))
    (Err Leb) ≡ Err fault → IsFault IsOver bytes fault
number_by value fits IsOver at bytes leb true test front over fault e = absurd cc
number_by value fits IsOver at bytes leb false test front over fault e =
    let same : fault ≡ Leb = cc in
    let f = front_ok bytes leb front in
    inr (
      same,
      inr (record {
        front = leb;
        rest = drop (length leb) bytes;
        parts = f.parts;
        leb = f.is_leb;
        len = f.len;
        over = over test;
      }),
    )

number-fault : {X : Type 0} (value : List ℕ → X) (fits : List ℕ → Bool) (IsOver : List ℕ → Type 0)
    (at : ℕ)
    (bytes : List ℕ) → ((leb : List ℕ) → fits leb ≡ false → IsOver leb)
    → (found : Result (List ℕ) ReadFault)
    → leb_front bytes ≡ found → (fault : ReadFault) → (found >>= numbered value fits at) ≡ Err fault
    → IsFault IsOver bytes fault
number-fault value fits IsOver at bytes over (Err e) is fault h =
    front_part (front-fault bytes e is) (let same : e ≡ fault = cc in same)
  where
    front_part : {d : ReadFault} → IsFrontFault bytes d → d ≡ fault → IsFault IsOver bytes fault
    front_part (inl p) same = inl (sym same ∙ p.0, p.1)
    front_part (inr p) same = inr (sym same ∙ p.0, inl p.1)
number-fault value fits IsOver at bytes over (Ok leb) is fault h =
    number_by value fits IsOver at bytes leb (fits leb) refl is (over leb) fault h

number-again : {X : Type 0} (value : List ℕ → X) (fits : List ℕ → Bool) (IsOver : List ℕ → Type 0)
    (at : ℕ)
    (bytes : List ℕ) → ((leb : List ℕ) → IsOver leb → fits leb ≡ false) → IsOverLeb IsOver bytes
    → (leb_front bytes >>= numbered value fits at) ≡ Err Leb
number-again value fits IsOver at bytes test o =
    rw (o.parts, front-again o.front o.rest o.leb o.len, test o.front o.over) refl

-- ---- unsigned

uleb-over : (leb : List ℕ) → ltb (uleb_value leb) (2 ^ 64) ≡ false → IsOverUleb leb
uleb-over leb h = ltb-false _ _ h

uleb-unfit : (leb : List ℕ) → IsOverUleb leb → ltb (uleb_value leb) (2 ^ 64) ≡ false
uleb-unfit leb h = le-ltb _ _ h

pub uleb-fault : (bytes : List ℕ) (at : ℕ) (fault : ReadFault) → uleb_at bytes at ≡ Err fault
    → ((fault ≡ Short) × IsTruncatedLeb (drop at bytes)) ⊎ ((fault ≡ Leb)
    × (IsEndlessLeb (drop at bytes) ⊎ IsOverLeb IsOverUleb (drop at bytes)))
unfolding uleb_at
uleb-fault bytes at fault e =
    number-fault uleb_value (λ leb. ltb (uleb_value leb) (2 ^ 64)) IsOverUleb at (drop at bytes)
    uleb-over
    (leb_front (drop at bytes)) refl fault e

pub uleb-truncated : (bytes : List ℕ) (at : ℕ) → IsTruncatedLeb (drop at bytes) → uleb_at bytes at
    ≡ Err Short
unfolding uleb_at
uleb-truncated bytes at h = rw (truncated-front (drop at bytes) h) refl

pub uleb-leb : (bytes : List ℕ) (at : ℕ) → IsEndlessLeb (drop at bytes)
    ⊎ IsOverLeb IsOverUleb (drop at bytes)
    → uleb_at bytes at ≡ Err Leb
unfolding uleb_at
uleb-leb bytes at (inl h) = rw (endless-front (drop at bytes) h) refl
uleb-leb bytes at (inr o) =
    number-again uleb_value (λ leb. ltb (uleb_value leb) (2 ^ 64)) IsOverUleb at (drop at bytes)
    uleb-unfit o

-- ---- signed

sleb-over : (leb : List ℕ) → fits_i64 (sleb_value leb) ≡ false → IsOverSleb leb
sleb-over leb h fits = let yes_it_does = tests-of-fits (sleb_value leb) fits in cc

sleb-unfit : (leb : List ℕ) → IsOverSleb leb → fits_i64 (sleb_value leb) ≡ false
sleb-unfit leb h = by (fits_i64 (sleb_value leb)) refl
  where
    by : (t : Bool) → fits_i64 (sleb_value leb) ≡ t → t ≡ false
    by true is = absurd (h (fits-of-tests (sleb_value leb) is))
    by false is = refl

pub sleb-fault : (bytes : List ℕ) (at : ℕ) (fault : ReadFault) → sleb_at bytes at ≡ Err fault
    → ((fault ≡ Short) × IsTruncatedLeb (drop at bytes)) ⊎ ((fault ≡ Leb)
    × (IsEndlessLeb (drop at bytes) ⊎ IsOverLeb IsOverSleb (drop at bytes)))
unfolding sleb_at
sleb-fault bytes at fault e =
    number-fault sleb_value (λ leb. fits_i64 (sleb_value leb)) IsOverSleb at (drop at bytes)
    sleb-over
    (leb_front (drop at bytes)) refl fault e

pub sleb-truncated : (bytes : List ℕ) (at : ℕ) → IsTruncatedLeb (drop at bytes) → sleb_at bytes at
    ≡ Err Short
unfolding sleb_at
sleb-truncated bytes at h = rw (truncated-front (drop at bytes) h) refl

pub sleb-leb : (bytes : List ℕ) (at : ℕ) → IsEndlessLeb (drop at bytes)
    ⊎ IsOverLeb IsOverSleb (drop at bytes)
    → sleb_at bytes at ≡ Err Leb
unfolding sleb_at
sleb-leb bytes at (inl h) = rw (endless-front (drop at bytes) h) refl
sleb-leb bytes at (inr o) =
    number-again sleb_value (λ leb. fits_i64 (sleb_value leb)) IsOverSleb at (drop at bytes)
    sleb-unfit o

-- ---- which of the two faults it is

pub only-short : {P Q : Type 0} → ((Short ≡ Short) × P) ⊎ ((Short ≡ Leb) × Q) → P
only-short (inl p) = p.1
only-short (inr p) = absurd (let no_such = p.0 in cc)

pub only-leb : {P Q : Type 0} → ((Leb ≡ Short) × P) ⊎ ((Leb ≡ Leb) × Q) → Q
only-leb (inl p) = absurd (let no_such = p.0 in cc)
only-leb (inr p) = p.1

pub either : {P Q : Type 0} (fault : ReadFault) → ((fault ≡ Short) × P) ⊎ ((fault ≡ Leb) × Q)
    → (fault ≡ Short) ⊎ (fault ≡ Leb)
either fault (inl p) = inl p.0
either fault (inr p) = inr p.0
