-- The encodings of numbers and strings in DWARF 5. A read takes bytes and an offset into them. It
-- returns the value and the offset after it, or a fault.
use Rattle.std.specs.Prelude.{All, ◌≢◌, FitsSigned, int_le, int_lt, ◌&&◌, ◌==◌, position, ◌⊎◌}
use Rattle.std.specs.Prelude.{option_map, Option, ◌≡◌, ℕ, ◌+◌, ◌*◌, ◌-◌, ◌%◌, ◌^◌, ◌<◌, ◌≤◌, ℤ, pos}
use Rattle.std.specs.Prelude.{◌-ℤ◌, List, [], ◌∷◌, ◌++◌, length, take, drop, slice_index, get_or}
use Rattle.std.specs.Prelude.{Bool}
use Rattle.std.specs.Prelude.{Result, Ok, Err, nat_lt, nat_le, if◌then◌else◌}
use Rattle.std.specs.Option.{option_map_or}
use Rattle.std.specs.Int.{w64}
use Rattle.dwarf_bytes.specs.declared.fault.ReadFault.{ReadFault}
use Rattle.dwarf_bytes.specs.declared.fault.ReadFault.TheVariants.{Short, Leb, Unterminated, Length}
use Rattle.dwarf_bytes.specs.declared.format.Format.{Format}
use Rattle.dwarf_bytes.specs.declared.format.Format.TheVariants.{Dwarf32, Dwarf64}
use Rattle.dwarf_bytes.specs.Bind.{◌>>=◌}

-- the n bytes at the offset
unfoldable pub block_at : ℕ → List ℕ → ℕ → Result (List ℕ × ℕ) ReadFault
block_at n bytes at =
    if nat_lt (length bytes) (at + n) then Err Short else Ok (take n (drop at bytes), at + n)

-- Fixed width (DWARF 5, 7.1 and 7.4; little-endian): the sum of b_i * 256 ^ i.
abbrev pub little_endian : List ℕ → ℕ
little_endian [] = 0
little_endian (b ∷ bs) = b + 256 * little_endian bs

-- n bytes encode a number
abbrev pub IsFixed : ℕ → List ℕ → ℕ → Type 0
IsFixed n bytes value = (length bytes ≡ n) × (value ≡ little_endian bytes)

-- the number encoded in the n bytes at the offset, if they are present
abbrev pub field : ℕ → List ℕ → ℕ → ℕ
field n bytes at = little_endian (take n (drop at bytes))

-- the read of such a number
unfoldable pub fixed_at : ℕ → List ℕ → ℕ → Result (ℕ × ℕ) ReadFault
fixed_at n bytes at = do
  block ← block_at n bytes at
  Ok (little_endian block.0, block.1)

abbrev pub u8_at : List ℕ → ℕ → Result (ℕ × ℕ) ReadFault
u8_at = fixed_at 1

abbrev pub u16_at : List ℕ → ℕ → Result (ℕ × ℕ) ReadFault
u16_at = fixed_at 2

abbrev pub u24_at : List ℕ → ℕ → Result (ℕ × ℕ) ReadFault
u24_at = fixed_at 3

abbrev pub u32_at : List ℕ → ℕ → Result (ℕ × ℕ) ReadFault
u32_at = fixed_at 4

abbrev pub u64_at : List ℕ → ℕ → Result (ℕ × ℕ) ReadFault
u64_at = fixed_at 8

-- LEB128 (DWARF 5, 7.6): bit 7 is set on all bytes but the last.
abbrev pub IsLeb : List ℕ → Type 0
IsLeb [] = ⊥
IsLeb (b ∷ []) = b < 128
IsLeb (b ∷ c ∷ bs) = (128 ≤ b) × IsLeb (c ∷ bs)

-- groups of seven bits, the lowest first: the sum of (b_i mod 128) * 128 ^ i
abbrev pub uleb_value : List ℕ → ℕ
uleb_value [] = 0
uleb_value (b ∷ bs) = b % 128 + 128 * uleb_value bs

-- whether bit 6 of the last byte is set
abbrev pub leb_sign : List ℕ → Bool
leb_sign bytes = nat_le 64 (slice_index bytes (length bytes - 1) % 128)

-- the unsigned value, minus 128 ^ n if bit 6 of the last of the n bytes is set
abbrev pub sleb_value : List ℕ → ℤ
sleb_value bytes = pos (uleb_value bytes) -ℤ pos (if leb_sign bytes then 128 ^ length bytes else 0)

-- an encoding of a 64-bit number in at most 10 bytes
pub record IsUleb (bytes : List ℕ) (value : ℕ) : Type 0 where
  pub leb : IsLeb bytes
  pub len : length bytes ≤ 10
  pub value_is : value ≡ uleb_value bytes
  pub fits : value < 2 ^ 64

pub record IsSleb (bytes : List ℕ) (value : ℤ) : Type 0 where
  pub leb : IsLeb bytes
  pub len : length bytes ≤ 10
  pub value_is : value ≡ sleb_value bytes
  pub fits : FitsSigned w64 value

-- The bytes contain no LEB128 number if they are truncated: fewer than ten, all with bit 7 set; ..
abbrev pub IsTruncatedLeb : List ℕ → Type 0
IsTruncatedLeb bytes = (length bytes < 10) × All (λ byte. 128 ≤ byte) bytes

-- .. or if the first ten bytes have bit 7 set; ..
abbrev pub IsEndlessLeb : List ℕ → Type 0
IsEndlessLeb bytes = (10 ≤ length bytes) × All (λ byte. 128 ≤ byte) (take 10 bytes)

-- .. or if the encoded number does not fit in 64 bits.
pub record IsOverLeb (IsOver : List ℕ → Type 0) (bytes : List ℕ) : Type 0 where
  pub front : List ℕ
  pub rest : List ℕ
  pub parts : bytes ≡ front ++ rest
  pub leb : IsLeb front
  pub len : length front ≤ 10
  pub over : IsOver front

abbrev pub IsOverUleb : List ℕ → Type 0
IsOverUleb front = 2 ^ 64 ≤ uleb_value front

abbrev pub IsOverSleb : List ℕ → Type 0
IsOverSleb front = ¬ (FitsSigned w64 (sleb_value front))

-- the bytes at the offset start with an encoding of the value, and next is the offset after it
pub record IsEncodedAt {X : Type 0} (Encodes : List ℕ → X → Type 0) (bytes : List ℕ) (at : ℕ)
    (value : X)
    (next : ℕ) : Type 0 where
  pub front : List ℕ
  pub rest : List ℕ
  pub encoded : Encodes front value
  pub parts : drop at bytes ≡ front ++ rest
  pub next_is : next ≡ at + length front

-- The encoding at the start of the bytes. It ends with the first byte below 128, which is one of
-- the first ten.
unfoldable pub leb_front : List ℕ → Result (List ℕ) ReadFault
leb_front bytes =
    option_map_or (λ last. Ok (take (last + 1) bytes))
    (position (λ b. nat_lt b 128) (take 10 bytes))
    (Err (if nat_lt (length bytes) 10 then Short else Leb))

unfoldable pub uleb_at : List ℕ → ℕ → Result (ℕ × ℕ) ReadFault
uleb_at bytes at = do
  leb ← leb_front (drop at bytes)
  if nat_lt (uleb_value leb) (2 ^ 64) then Ok (uleb_value leb, at + length leb) else Err Leb

-- whether a number fits in 64 bits in two's complement
abbrev pub fits_i64 : ℤ → Bool
fits_i64 z = int_le (pos 0 -ℤ pos (2 ^ 63)) z && int_lt z (pos (2 ^ 63))

unfoldable pub sleb_at : List ℕ → ℕ → Result (ℤ × ℕ) ReadFault
sleb_at bytes at = do
  leb ← leb_front (drop at bytes)
  if fits_i64 (sleb_value leb) then Ok (sleb_value leb, at + length leb) else Err Leb

-- A string ends before its NUL (DWARF 5, 7.5.5), which is not part of it.
abbrev pub IsText : List ℕ → List ℕ → Type 0
IsText bytes text = (bytes ≡ text ++ 0 ∷ []) × All (λ byte. byte ≢ 0) text

-- the string at the start of the bytes
unfoldable pub text_front : List ℕ → Option (List ℕ)
text_front bytes = option_map (λ n. take n bytes) (position (λ b. b == 0) bytes)

unfoldable pub cstr_at : List ℕ → ℕ → Result (List ℕ × ℕ) ReadFault
cstr_at bytes at =
    option_map_or (λ text. Ok (text, at + length text + 1)) (text_front (drop at bytes))
    (Err Unterminated)

-- the string at an offset of a section
unfoldable pub text_at : List ℕ → ℕ → Result (List ℕ) ReadFault
text_at section offset =
    option_map_or (λ text. Ok text) (text_front (drop offset section)) (Err Unterminated)

-- the offset after the last NUL, or 0 if there is none
pub record EndsStrings (bytes : List ℕ) (end : ℕ) : Type 0 where
  pub within : end ≤ length bytes
  pub last : 0 < end → (nul : ℕ) × (end ≡ nul + 1) × (get_or bytes nul 0 ≡ 0)
  pub none_after : (k : ℕ) → end ≤ k → k < length bytes → get_or bytes k 0 ≢ 0

-- the number of bytes of an initial length, and of an offset into a section (DWARF 5, 7.4)
abbrev pub length_len : Format → ℕ
length_len Dwarf32 = 4
length_len Dwarf64 = 12

abbrev pub offset_len : Format → ℕ
offset_len Dwarf32 = 4
offset_len Dwarf64 = 8

abbrev pub offset_at : Format → List ℕ → ℕ → Result (ℕ × ℕ) ReadFault
offset_at Dwarf32 = u32_at
offset_at Dwarf64 = u64_at

-- An initial length of the 64-bit format is 0xffffffff, followed by the length in eight bytes.
pub record IsLongLength (bytes : List ℕ) (len : ℕ) : Type 0 where
  pub escape : List ℕ
  pub long : List ℕ
  pub whole : bytes ≡ escape ++ long
  pub escape_is : IsFixed 4 escape 0xffffffff
  pub long_is : IsFixed 8 long len

-- The bytes encode an initial length (7.4). One of the 32-bit format is below 0xfffffff0.
abbrev pub IsInitialLength : Format → List ℕ → ℕ → Type 0
IsInitialLength Dwarf32 bytes len = IsFixed 4 bytes len × (len < 0xfffffff0)
IsInitialLength Dwarf64 bytes len = IsLongLength bytes len

-- the read of an initial length: the values from 0xfffffff0 to 0xfffffffe are reserved
unfoldable pub initial_length_at : List ℕ → ℕ → Result ((Format × ℕ) × ℕ) ReadFault
initial_length_at bytes at = do
  read ← u32_at bytes at
  if nat_lt read.0 0xfffffff0 then Ok ((Dwarf32, read.0), read.1)
      else if read.0 == 0xffffffff then (do
        long ← u64_at bytes read.1
        Ok ((Dwarf64, long.0), long.1))
      else Err Length

-- The bytes contain no initial length if they are truncated: fewer than four, or fewer than twelve
-- that start with 0xffffffff; ..
abbrev pub IsTruncatedLength : List ℕ → Type 0
IsTruncatedLength bytes =
    (length bytes < 4) ⊎ ((field 4 bytes 0 ≡ 0xffffffff) × (length bytes < 12))

-- .. or if the first four bytes are reserved: at least 0xfffffff0, but not 0xffffffff.
pub record IsReservedLength (bytes : List ℕ) : Type 0 where
  pub whole : 4 ≤ length bytes
  pub reserved : 0xfffffff0 ≤ field 4 bytes 0
  pub no_escape : field 4 bytes 0 ≢ 0xffffffff
