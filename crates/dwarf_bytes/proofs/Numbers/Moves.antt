-- The number of bytes that each read consumes, and the form of its result.
use Rattle.std.proofs.Common.{◌≡◌, ℕ, ◌+◌, ◌≤◌, ℤ, List, length, take, drop, ap, sym, ◌∙◌, arith}
use Rattle.std.specs.Prelude.{Result, Ok, Err, nat_lt}
use Rattle.std.proofs.lemmas.Bool.{ltb-false}
use Rattle.dwarf_bytes.specs.declared.fault.ReadFault.TheVariants.{Short}
use Rattle.dwarf_bytes.specs.declared.fault.Cause.{Cause}
use Rattle.dwarf_bytes.specs.Numbers.{block_at, fixed_at, little_endian, u8_at, uleb_at, sleb_at}
use Rattle.dwarf_bytes.specs.Items.{Next, Item, End, reading}
use Rattle.dwarf_bytes.proofs.Numbers.Advance.{bind_ok, reading-ok, chosen, MovesOn, uleb_at-moves}
use Rattle.dwarf_bytes.proofs.Numbers.Advance.{sleb_at-moves}

pub same-ok : {A E : Type 0} (x y : A) → (let f : A → Result A E = λ z. Ok z in f x ≡ f y) → x ≡ y
same-ok x y h = cc

pub same-item : {X : Type 0} (x y : X) (i j : ℕ)
    → (let f : Next X → Result (Next X) Cause = λ z. Ok z in f (Item x i) ≡ f (Item y j))
    → (x ≡ y) × (i ≡ j)
same-item x y i j h = (cc, cc)

pub same-end : {X : Type 0} (i j : ℕ) → (let f : Next X → Result (Next X) Cause = λ z. Ok z in
    f (End i) ≡ f (End j))
    → i ≡ j
same-end i j h = cc

pub uleb-moves : (section : List ℕ) (at : ℕ) (read : ℕ × ℕ) → reading (uleb_at section at) ≡ Ok read
    → MovesOn section at read.1
uleb-moves section at read h = uleb_at-moves section at read.0 read.1
    (reading-ok (uleb_at section at) read h)

pub sleb-moves : (section : List ℕ) (at : ℕ) (read : ℤ × ℕ) → reading (sleb_at section at) ≡ Ok read
    → MovesOn section at read.1
sleb-moves section at read h = sleb_at-moves section at read.0 read.1
    (reading-ok (sleb_at section at) read h)

-- a read of a field of n bytes consumes them
pub block_at-moves : (n : ℕ) (bytes : List ℕ) (at : ℕ) (read : List ℕ × ℕ)
    → block_at n bytes at ≡ Ok read
    → (at + n ≤ length bytes) × (read ≡ (take n (drop at bytes), at + n))
unfolding block_at
block_at-moves n bytes at read h =
    chosen (nat_lt (length bytes) (at + n)) (Err Short) (Ok (take n (drop at bytes), at + n))
    (Ok read) h
    ((at + n ≤ length bytes) × (read ≡ (take n (drop at bytes), at + n)))
    (λ _ is. cc) (λ fits is. (
      ltb-false (length bytes) (at + n) fits,
      sym
          (same-ok (take n (drop at bytes), at + n) read is),
    ))

pub fixed_at-moves : (n : ℕ) (bytes : List ℕ) (at : ℕ) (read : ℕ × ℕ)
    → fixed_at n bytes at ≡ Ok read
    → (at + n ≤ length bytes) × (read ≡ (little_endian (take n (drop at bytes)), at + n))
unfolding fixed_at
fixed_at-moves n bytes at read h =
    let found = bind_ok (block_at n bytes at) (λ block. Ok (little_endian block.0, block.1)) read
    h in
    let moved = block_at-moves n bytes at found.0 found.1 in (
      moved.0,
      sym (same-ok (little_endian found.0.0, found.0.1) read found.2)
          ∙ ap (λ (b : List ℕ × ℕ). (little_endian b.0, b.1)) moved.1,
    )

pub u8-moves : (section : List ℕ) (at : ℕ) (read : ℕ × ℕ) → reading (u8_at section at) ≡ Ok read
    → MovesOn section at read.1
u8-moves section at read h =
    let moved = fixed_at-moves 1 section at read (reading-ok (u8_at section at) read h) in
    let place : read.1 ≡ at + 1 = ap (λ (r : ℕ × ℕ). r.1) moved.1 in
    (omega (arith, place), omega (arith, moved.0, place))
