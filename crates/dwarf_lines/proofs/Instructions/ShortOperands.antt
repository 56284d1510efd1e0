-- LEB128 numbers of one or two bytes.
use Rattle.std.proofs.Common.{◌≡◌, ℕ, ◌+◌, ◌*◌, ◌-◌, ◌<◌, ◌≤◌, List, [], ◌∷◌, Ok, refl, sym, ap}
use Rattle.std.proofs.Common.{◌∙◌, arith, drop, length, get_or, if◌then◌else◌}
use Rattle.std.specs.Prelude.{pos, ◌-ℤ◌, nat_le}
use Rattle.std.proofs.lemmas.Int.{ints}
use Rattle.std.proofs.lemmas.List.{drop_more}
use Rattle.dwarf_bytes.specs.Numbers.{uleb_at, sleb_at}
use Rattle.dwarf_bytes.proofs.Numbers.LebEncodings.{uleb-again, sleb-again}

-- a byte at an offset
pub record IsByteAt (bytes : List ℕ) (at byte : ℕ) : Type 0 where
  pub within : at < length bytes
  pub is : byte ≡ get_or bytes at byte

byte-there : (bytes : List ℕ) (at byte : ℕ) → IsByteAt bytes at byte
    → drop at bytes ≡ byte ∷ drop (at + 1) bytes
byte-there bytes at byte there = drop_more bytes at byte there.within
    ∙ ap (λ (b : ℕ). b ∷ drop (at + 1) bytes) (sym there.is)

pub one-unsigned : (bytes : List ℕ) (at byte : ℕ) → IsByteAt bytes at byte → byte < 128
    → uleb_at bytes at ≡ Ok (byte, at + 1)
one-unsigned bytes at byte there small = uleb-again bytes at byte (at + 1) (record {
  front = byte ∷ [];
  rest = drop (at + 1) bytes;
  encoded = record {
    leb = omega (arith, small);
    len = omega arith;
    value_is = omega (arith, small);
    fits = omega (arith, small);
  };
  parts = byte-there bytes at byte there;
  next_is = refl;
})

two-there : (bytes : List ℕ) (at low high : ℕ) → IsByteAt bytes at low
    → IsByteAt bytes (at + 1) high
    → drop at bytes ≡ low ∷ high ∷ drop (at + 1 + 1) bytes
two-there bytes at low high first second = byte-there bytes at low first
    ∙ ap (λ (rest : List ℕ). low ∷ rest) (byte-there bytes (at + 1) high second)

pub two-unsigned : (bytes : List ℕ) (at low high : ℕ) → IsByteAt bytes at low
    → IsByteAt bytes (at + 1) high → 128 ≤ low → low < 256 → high < 128
    → uleb_at bytes at ≡ Ok (low - 128 + 128 * high, at + 2)
two-unsigned bytes at low high first second more byte small =
    uleb-again bytes at (low - 128 + 128 * high) (at + 2) (record {
      front = low ∷ high ∷ [];
      rest = drop (at + 1 + 1) bytes;
      encoded = record {
        leb = (more, small);
        len = omega arith;
        value_is = omega (arith, small, more, byte);
        fits = omega (arith, small, more, byte);
      };
      parts = two-there bytes at low high first second;
      next_is = refl;
    })

pub one-signed : (bytes : List ℕ) (at byte : ℕ) → IsByteAt bytes at byte → byte < 128
    → sleb_at bytes at ≡ Ok (pos byte -ℤ pos (if nat_le 64 byte then 128 else 0), at + 1)
one-signed bytes at byte there small =
    sleb-again bytes at (pos byte -ℤ pos (if nat_le 64 byte then 128 else 0)) (at + 1) (record {
      front = byte ∷ [];
      rest = drop (at + 1) bytes;
      encoded = record {
        leb = small;
        len = omega arith;
        value_is = grind (arith, ints, small);
        fits = grind (arith, ints, small);
      };
      parts = byte-there bytes at byte there;
      next_is = refl;
    })

pub two-signed : (bytes : List ℕ) (at low high : ℕ) → IsByteAt bytes at low
    → IsByteAt bytes (at + 1) high → 128 ≤ low → low < 256 → high < 128
    → sleb_at bytes at
    ≡ Ok (pos (low - 128 + 128 * high) -ℤ pos (if nat_le 64 high then 16384 else 0), at + 2)
two-signed bytes at low high first second more byte small =
    sleb-again bytes at
    (pos (low - 128 + 128 * high) -ℤ pos (if nat_le 64 high then 16384 else 0)) (at + 2) (record {
      front = low ∷ high ∷ [];
      rest = drop (at + 1 + 1) bytes;
      encoded = record {
        leb = (more, small);
        len = omega arith;
        value_is = grind (arith, ints, small, more, byte);
        fits = grind (arith, ints, small, more, byte);
      };
      parts = two-there bytes at low high first second;
      next_is = refl;
    })
