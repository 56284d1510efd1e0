-- Numbers in commands and in arguments of the command line.
use Rattle.std.specs.Prelude.{ℕ, ◌+◌, ◌*◌, Bool, ◌&&◌, List, length, drop, fold, nat_lt, nat_le}
use Rattle.std.specs.Prelude.{nat_eq, Option, None, Some, if◌then◌else◌, codes}
use Rattle.std.specs.List.{list_all, starts_with}
use Rattle.std.specs.Char.{digit_value, is_ascii_hexdigit}

-- the value of hexadecimal digits
abbrev pub hex_value : List ℕ → ℕ
hex_value digits = fold (λ value digit. 16 * value + digit_value digit) 0 digits

-- the digits of a number, without a leading 0x
abbrev pub digits_of : List ℕ → List ℕ
digits_of text = if starts_with nat_eq text (codes "0x") then drop 2 text else text

-- 1 to 16 hexadecimal digits of either case
abbrev pub are_digits : List ℕ → Bool
are_digits digits =
    nat_lt 0 (length digits) && nat_le (length digits) 16 && list_all is_ascii_hexdigit digits

-- a number, with or without 0x
unfoldable pub number : List ℕ → Option ℕ
number text = if are_digits (digits_of text) then Some (hex_value (digits_of text)) else None
