-- The requests that lines encode.
use Rattle.std.specs.Prelude.{ℕ, Bool, not, ◌&&◌, ◌||◌, List, [], ◌∷◌, length, map, nat_lt, nat_le}
use Rattle.std.specs.Prelude.{◌==◌, Option, None, Some, Result, Ok, Err, if◌then◌else◌, codes}
use Rattle.std.specs.List.{slice_split, list_all, join_with_byte}
use Rattle.std.specs.Char.{is_ascii_alphanumeric}
use Rattle.command_line.specs.Numbers.{number}
use Rattle.std.specs.Str.{is_utf8, bytes_eq}
use Rattle.command_loop.specs.declared.commands.BadLine.{BadLine}
use Rattle.command_loop.specs.declared.commands.BadLine.TheVariants.{LongLine, Command, Fields}
use Rattle.command_loop.specs.declared.commands.BadLine.TheVariants.{Name, Number, Path}

-- a well-formed line
pub data Request : Type 0 where
  Load : (name : List ℕ) (base : ℕ) (path : List ℕ) → Request
  Unload : (name : List ℕ) → Request
  Move : (name : List ℕ) (base : ℕ) → Request
  ListAll : Request
  Ask : (address : ℕ) → Request

-- an ASCII letter, a digit, _, - or .
abbrev pub is_name_byte : ℕ → Bool
is_name_byte byte = is_ascii_alphanumeric byte || byte == 95 || byte == 45 || byte == 46

-- a name of 1 to 64 such bytes
unfoldable pub is_name : List ℕ → Bool
is_name text = nat_lt 0 (length text) && nat_le (length text) 64 && list_all is_name_byte text

-- a path: UTF-8 of at least one byte, none of them NUL
unfoldable pub is_path : List ℕ → Bool
is_path text = nat_lt 0 (length text) && is_utf8 text && list_all (λ byte. not (byte == 0)) text

-- the fields of a line, which single spaces separate
abbrev pub fields : List ℕ → List (List ℕ)
fields line = slice_split (λ byte. byte == 32) line

-- operands are checked in order: a name, a number, a path
abbrev pub checked_load : List ℕ → Option ℕ → List ℕ → Result Request BadLine
checked_load name None path = if is_name name then Err Number else Err Name
checked_load name (Some base) path =
    if is_name name then (if is_path path then Ok (Load name base path) else Err Path)
    else Err Name

abbrev pub checked_move : List ℕ → Option ℕ → Result Request BadLine
checked_move name None = if is_name name then Err Number else Err Name
checked_move name (Some base) = if is_name name then Ok (Move name base) else Err Name

-- a load: a name, a base, and a path, which is everything after the third space
abbrev pub load_of : List (List ℕ) → Result Request BadLine
load_of [] = Err Fields
load_of (name ∷ []) = Err Fields
load_of (name ∷ base ∷ []) = Err Fields
load_of (name ∷ base ∷ path ∷ more) =
    checked_load name (number base) (join_with_byte 32 (path ∷ more))

-- an unload of one name, and a move of a name to a base
abbrev pub unload_of : List (List ℕ) → Result Request BadLine
unload_of [] = Err Fields
unload_of (name ∷ []) = if is_name name then Ok (Unload name) else Err Name
unload_of (name ∷ more ∷ rest) = Err Fields

abbrev pub move_of : List (List ℕ) → Result Request BadLine
move_of [] = Err Fields
move_of (name ∷ []) = Err Fields
move_of (name ∷ base ∷ []) = checked_move name (number base)
move_of (name ∷ base ∷ more ∷ rest) = Err Fields

-- a list has no operands
abbrev pub list_of : List (List ℕ) → Result Request BadLine
list_of [] = Ok ListAll
list_of (more ∷ rest) = Err Fields

-- a line of one field that is a number
abbrev pub address_of : Option ℕ → List (List ℕ) → Result Request BadLine
address_of None operands = Err Command
address_of (Some address) [] = Ok (Ask address)
address_of (Some address) (operand ∷ operands) = Err Command

-- the first field names the command
abbrev pub request_of_fields : List (List ℕ) → Result Request BadLine
request_of_fields [] = Err Command
request_of_fields (word ∷ operands) =
    if bytes_eq word (codes "load") then load_of operands
    else (if bytes_eq word (codes "unload") then unload_of operands
    else (if bytes_eq word (codes "move") then move_of operands
    else (if bytes_eq word (codes "list") then list_of operands
    else address_of (number word) operands)))

-- the request of a line, or the first rule that it breaks
unfoldable pub parse : List ℕ → Result Request BadLine
parse line = if nat_lt 4096 (length line) then Err LongLine else request_of_fields (fields line)

abbrev pub requests : List (List ℕ) → List (Result Request BadLine)
requests lines = map parse lines

-- the same for a line that is buffered only up to the limit
abbrev pub parse_buffered : Option (List ℕ) → Result Request BadLine
parse_buffered None = Err LongLine
parse_buffered (Some line) = parse line
