-- The settings that the arguments of a command line specify, by the rows of the parser's matches.
use Rattle.std.specs.Prelude.{◌≡◌, ℕ, ◌<◌, ◌^◌, Bool, List, [], ◌∷◌, Option, None, Some, Result, Ok}
use Rattle.std.specs.Prelude.{Err, option_map, codes, string_bytes}
use Rattle.std.specs.Option.{option_map_or}
use Rattle.std.specs.Str.Parse.{IsNumeral, without_leading_plus, digits_value}
use Rattle.std.specs.Str.{bytes_eq}
use Rattle.clap.specs.Walk.{Row, first_of, all_of}
use Rattle.command_line.specs.Numbers.{number}
use Rattle.io_streams.specs.declared.options.Options.{Options}

pub record Settings : Type 0 where
  pub addresses : Bool
  pub functions : Bool
  pub inlines : Bool
  pub pretty : Bool
  pub basenames : Bool
  pub linkage : Bool
  pub exe : Option (List ℕ)
  pub words : List ℕ

-- a flag has the value true exactly if it is present
abbrev pub is_flag : List ℕ → List Row → Bool
is_flag id rows = option_map_or (λ text. bytes_eq text (codes "true")) (first_of id rows) Bool.false

-- The capacity of the cache: the given number, or 1,024 if none is given. The parser accepts only
-- decimal numbers from 0 to 65,536, and its text of an option has no minus sign (`-0` is `0`).
abbrev pub IsCacheSize : Option (List ℕ) → ℕ → Type 0
IsCacheSize None size = size ≡ 1024
IsCacheSize (Some text) size = IsNumeral 10 (without_leading_plus text)
    → digits_value 10 (without_leading_plus text) < 2 ^ 32
    → size ≡ digits_value 10 (without_leading_plus text)

-- the positional arguments
abbrev pub words_of : List Row → List (List ℕ)
words_of rows = option_map_or (λ texts. texts) (all_of (codes "words") rows) []

abbrev pub number_then : List ℕ → Option ℕ → Result (List ℕ) (List ℕ) → Result (List ℕ) (List ℕ)
number_then word None rest = Err word
number_then word (Some n) (Ok ns) = Ok (n ∷ ns)
number_then word (Some n) (Err fault) = Err fault

-- the numbers of all arguments, or the first argument that is not a number
abbrev pub numbers_of : List (List ℕ) → Result (List ℕ) (List ℕ)
numbers_of [] = Ok []
numbers_of (word ∷ words) = number_then word (number word) (numbers_of words)

abbrev pub settings_with : List Row → Result (List ℕ) (List ℕ) → Result Settings (List ℕ)
settings_with rows (Err word) = Err word
settings_with rows (Ok words) = Ok (record {
  addresses = is_flag (codes "addresses") rows;
  functions = is_flag (codes "functions") rows;
  inlines = is_flag (codes "inlines") rows;
  pretty = is_flag (codes "pretty-print") rows;
  basenames = is_flag (codes "basenames") rows;
  linkage = is_flag (codes "linkage") rows;
  exe = first_of (codes "exe") rows;
  words = words;
})

-- the settings without the capacity of the cache, or the first argument that is not an address
unfoldable pub settings_of : List Row → Result Settings (List ℕ)
settings_of rows = settings_with rows (numbers_of (words_of rows))

-- the settings that options describe
abbrev pub settings_in : Options → Settings
settings_in o = record {
  addresses = o.addresses;
  functions = o.functions;
  inlines = o.inlines;
  pretty = o.pretty;
  basenames = o.basenames;
  linkage = o.linkage;
  exe = option_map string_bytes o.exe;
  words = o.words.items;
}
