-- A line that is a number has one field, which is no command.
use Rattle.std.proofs.Common.{◌≡◌, ℕ, Bool, true, false, List, [], ◌∷◌, refl, sym, ◌∙◌, ap, arith}
use Rattle.std.proofs.Common.{drop, length, nat_eq, nat_lt, cond, get_or}
use Rattle.std.specs.Prelude.{if◌then◌else◌, nat_le}
use Rattle.std.specs.Prelude.{Option, None, Some, Ok, Err, codes, ◌&&◌, ◌||◌, ◌==◌}
use Rattle.std.specs.List.{list_all, starts_with, join_with_byte}
use Rattle.std.specs.Char.{is_ascii_hexdigit}
use Rattle.std.specs.Str.{bytes_eq}
use Rattle.std.proofs.lemmas.Bool.Decides.{nat_tests}
use Rattle.std.proofs.lemmas.List.Splits.{slice_split_none, join_with_byte-slice_split}
use Rattle.std.proofs.lemmas.List.Elements.{All-from_get_or, All-get_or}
use Rattle.std.proofs.lemmas.List.Sums.{AllPass-from_list_all}
use Rattle.std.proofs.lemmas.Slice.Eq.{bytes_eq-Decides}
use Rattle.command_line.specs.Numbers.{number, are_digits, digits_of}
use Rattle.command_loop.proofs.FieldLemmas.{is_space}
use Rattle.command_loop.specs.Requests.{fields, request_of_fields, address_of}
use Rattle.command_loop.specs.declared.commands.BadLine.TheVariants.{Command}
use Rattle.command_loop.specs.Requests.Request.{Ask}

-- a byte of a number: a digit, or the x of 0x
abbrev is_number_byte : ℕ → Bool
is_number_byte b = is_ascii_hexdigit b || b == 120

number_byte-is_no_space : (b : ℕ) → is_number_byte b ≡ true → is_space b ≡ false
number_byte-is_no_space b h = grind (arith, nat_tests)

digit-is_number_byte : (b : ℕ) → is_ascii_hexdigit b ≡ true → is_number_byte b ≡ true
digit-is_number_byte b h = grind (arith, nat_tests)

zero-is_number_byte : (b : ℕ) → nat_eq 48 b ≡ true → is_number_byte b ≡ true
zero-is_number_byte b h = grind (arith, nat_tests)

x-is_number_byte : (b : ℕ) → nat_eq 120 b ≡ true → is_number_byte b ≡ true
x-is_number_byte b h = grind (arith, nat_tests)

-- both parts of a conjunction, and a conjunction of both
both : (a b : Bool) → (a && b) ≡ true → (a ≡ true) × (b ≡ true)
both true b h = (refl, h)
both false b h = absurd (cc)

joined : (a b : Bool) → a ≡ true → b ≡ true → (a && b) ≡ true
joined true b g h = h
joined false b g h = absurd (cc)

digits-are_number_bytes : (digits : List ℕ) → list_all is_ascii_hexdigit digits ≡ true
    → list_all is_number_byte digits ≡ true
digits-are_number_bytes [] h = refl
digits-are_number_bytes (x ∷ xs) h =
    let parts = both (is_ascii_hexdigit x) (list_all is_ascii_hexdigit xs) h in
    joined (is_number_byte x) (list_all is_number_byte xs) (digit-is_number_byte x parts.0)
    (digits-are_number_bytes xs parts.1)

-- the same after 0x
prefixed : (text : List ℕ) → starts_with nat_eq text (codes "0x") ≡ true
    → list_all is_ascii_hexdigit (drop 2 text) ≡ true → list_all is_number_byte text ≡ true
prefixed [] is h = refl
prefixed (a ∷ []) is h = grind (arith, nat_tests)
prefixed (a ∷ b ∷ digits) is h =
    let first = both (nat_eq 48 a) (nat_eq 120 b && true) is in
    let next = both (nat_eq 120 b) true first.1 in
    joined (is_number_byte a) (is_number_byte b && list_all is_number_byte digits)
    (zero-is_number_byte a first.0)
    (joined (is_number_byte b) (list_all is_number_byte digits) (x-is_number_byte b next.0)
    (digits-are_number_bytes digits h))

-- a line without spaces is one field
whole : (text : List ℕ) → list_all is_number_byte text ≡ true → fields text ≡ text ∷ []
whole text h = slice_split_none is_space text (All-from_get_or (λ x. is_space x ≡ false) text 0
    (λ i lt. number_byte-is_no_space (get_or text i 0)
    (All-get_or (λ b. is_number_byte b ≡ true) text i 0 lt
    (AllPass-from_list_all is_number_byte text h))))

is_some-digits : (c : Bool) (v a : ℕ) → cond c (Some v) None ≡ Some a → c ≡ true
is_some-digits true v a h = refl
is_some-digits false v a h = absurd (cc)

are-digits : (digits : List ℕ) → are_digits digits ≡ true
    → list_all is_ascii_hexdigit digits ≡ true
are-digits digits h =
    (both (nat_lt 0 (length digits) && nat_le (length digits) 16)
    (list_all is_ascii_hexdigit digits) h).1

number-bytes : (text : List ℕ) (a : ℕ) → number text ≡ Some a
    → list_all is_number_byte text ≡ true
unfolding number
number-bytes text a h = by (starts_with nat_eq text (codes "0x")) refl
    (is_some-digits (are_digits (digits_of text)) _ a h)
  where
    by : (v : Bool) → starts_with nat_eq text (codes "0x") ≡ v
        → are_digits (if v then drop 2 text else text) ≡ true → list_all is_number_byte text ≡ true
    by true is digits = prefixed text is (are-digits (drop 2 text) digits)
    by false is digits = digits-are_number_bytes text (are-digits text digits)

-- no command is a number
no-command : (text word : List ℕ) (a : ℕ) → number text ≡ Some a → number word ≡ None
    → bytes_eq text word ≡ false
no-command text word a is none = by (bytes_eq text word) refl
  where
    by : (v : Bool) → bytes_eq text word ≡ v → bytes_eq text word ≡ false
    by true same =
        let e : number text ≡ number word = ap number ((bytes_eq-Decides text word).0 same) in
        absurd (cc)
    by false same = same

pub number_is_ask : (line : List ℕ) (a : ℕ) → number line ≡ Some a
    → request_of_fields (fields line) ≡ Ok (Ask a)
unfolding number
number_is_ask line a h = rw (
  whole line (number-bytes line a h),
  no-command line (codes "load") a h refl,
  no-command line (codes "unload") a h refl,
  no-command line (codes "move") a h refl,
  no-command line (codes "list") a h refl,
  h,
) refl

-- Any other line is a bad one unless a command is its first field.
pub other_is_bad : (line word : List ℕ) (operands : List (List ℕ)) → number line ≡ None
    → fields line ≡ word ∷ operands → address_of (number word) operands ≡ Err Command
other_is_bad line word [] none are =
    let same : word ≡ line =
    sym (ap (join_with_byte 32) are) ∙ join_with_byte-slice_split 32 line in
    rw (same, none) refl
other_is_bad line word (operand ∷ operands) none are = by (number word)
  where
    by : (found : Option ℕ) → address_of found (operand ∷ operands) ≡ Err Command
    by None = refl
    by (Some a) = refl

-- a line is a number, or it is not
pub ruleset asks = (number_is_ask, other_is_bad)
