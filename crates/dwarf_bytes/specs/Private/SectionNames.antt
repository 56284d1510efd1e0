-- Section names, for the contracts of the lookup that scans no name to its end.
use Rattle.std.specs.Prelude.{◌≡◌, ℕ, ◌&&◌, ◌==◌, Bool, List, length, nat_eq}
use Rattle.std.specs.Prelude.{nat_lt, get_or, Option, Ok, position}
use Rattle.std.specs.List.{starts_with}
use Rattle.std.specs.Str.{bytes_eq}
use Rattle.dwarf_bytes.specs.Numbers.{text_at}
use Rattle.dwarf_bytes.specs.Words.{section_name}
use Rattle.dwarf_bytes.specs.Elf.{wanted}

-- whether the bytes start with the string and its NUL
abbrev pub begins_with : List ℕ → List ℕ → Bool
begins_with bytes text =
    nat_lt (length text) (length bytes)
    && (starts_with nat_eq bytes text && (get_or bytes (length text) 0 == 0))

-- a string is at the offset, and number is its index in the wanted names
abbrev pub IsNumberAt : List ℕ → ℕ → Option ℕ → Type 0
IsNumberAt names offset number =
    (name : List ℕ) × (text_at names offset ≡ Ok name)
    × (number ≡ position (λ s. bytes_eq name (section_name s)) wanted)
