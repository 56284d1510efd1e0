-- The first bytes of a LEB128 number (DWARF 5, 7.6), for the contracts of the decoding steps.
use Rattle.std.specs.Prelude.{◌≡◌, ℕ, ◌*◌, ◌<◌, ◌≤◌, ◌^◌, ℤ, List, length, take, All, Result, Ok}
use Rattle.std.specs.Prelude.{Err, nat_lt, if◌then◌else◌}
use Rattle.dwarf_bytes.specs.declared.fault.ReadFault.{ReadFault}
use Rattle.dwarf_bytes.specs.declared.fault.ReadFault.TheVariants.{Short, Leb}
use Rattle.dwarf_bytes.specs.declared.leb.LebPrefix.{LebPrefix}
use Rattle.dwarf_bytes.specs.declared.leb.LebPrefix.TheVariants.{Whole, Continued}
use Rattle.dwarf_bytes.specs.Bind.{◌>>=◌}
use Rattle.dwarf_bytes.specs.Numbers.{IsLeb, leb_front, uleb_value, sleb_value, fits_i64}

-- a number of at most nine bytes at the start of the bytes
pub record IsWhole (bytes : List ℕ) (value len : ℕ) : Type 0 where
  pub leb : IsLeb (take len bytes)
  pub value_is : value ≡ uleb_value (take len bytes)
  pub small : value < 2 ^ (7 * len)
  pub some : 0 < len
  pub few : len ≤ 9
  pub within : len ≤ length bytes

-- nine bytes with bit 7 set: the number continues
pub record IsContinued (bytes : List ℕ) (value : ℕ) : Type 0 where
  pub go_on : All (λ byte. 128 ≤ byte) (take 9 bytes)
  pub value_is : value ≡ uleb_value (take 9 bytes)
  pub small : value < 2 ^ 63
  pub within : 9 ≤ length bytes

-- The result of decoding up to nine bytes. It is Short if there are fewer than nine, all with bit 7
-- set.
abbrev pub IsLebPrefix : List ℕ → Result LebPrefix ReadFault → Type 0
IsLebPrefix bytes (Ok (Whole value len)) = IsWhole bytes value len
IsLebPrefix bytes (Ok (Continued value)) = IsContinued bytes value
IsLebPrefix bytes (Err fault) =
    (fault ≡ Short) × (length bytes < 9) × All (λ byte. 128 ≤ byte) bytes

-- the number at the start of the bytes, and the length of its encoding
unfoldable pub uleb_front : List ℕ → Result (ℕ × ℕ) ReadFault
uleb_front bytes = do
  leb ← leb_front bytes
  if nat_lt (uleb_value leb) (2 ^ 64) then Ok (uleb_value leb, length leb) else Err Leb

unfoldable pub sleb_front : List ℕ → Result (ℤ × ℕ) ReadFault
sleb_front bytes = do
  leb ← leb_front bytes
  if fits_i64 (sleb_value leb) then Ok (sleb_value leb, length leb) else Err Leb
