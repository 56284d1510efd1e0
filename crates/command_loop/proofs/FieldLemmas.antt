-- A line split at its first space.
use Rattle.std.proofs.Common.{◌≡◌, ℕ, ◌+◌, ◌-◌, ◌<◌, ◌≤◌, Bool, true, false, nat_lt, List, []}
use Rattle.std.proofs.Common.{◌∷◌, length, take, drop, get_or}
use Rattle.std.proofs.Common.{refl, sym, ◌∙◌, ap, subst, arith}
use Rattle.std.specs.Prelude.{Option, None, Some, is_some, option_copied, ◌==◌, IsUtf8}
use Rattle.std.specs.Prelude.{Err, not}
use Rattle.std.specs.List.{position_or_len, join_with_byte, list_all}
use Rattle.std.proofs.lemmas.Bool.{ltb-true, lt-ltb, false≢true}
use Rattle.std.proofs.lemmas.List.{take_rest, get_or_past}
use Rattle.std.proofs.lemmas.List.Elements.{All-from_get_or, All-get_or}
use Rattle.std.proofs.lemmas.List.Sums.{position_or_len_is, AllPass-from_list_all}
use Rattle.std.proofs.lemmas.List.Sums.{list_all-from_AllPass}
use Rattle.std.proofs.lemmas.List.Folds.{list_all_at}
use Rattle.std.proofs.lemmas.Str.{IsUtf8-from_ascii, IsUtf8-from_is_utf8}
use Rattle.std.specs.Str.{is_utf8}
use Rattle.bstr.specs.Find.{IsFirstByte, is_byte}
use Rattle.std.specs.Borrow.{Bor}
use Rattle.std.proofs.lemmas.Bool.Decides.{nat_tests}
use Rattle.std.proofs.lemmas.List.Splits.{slice_split_first, slice_split_none}
use Rattle.std.proofs.lemmas.List.Splits.{join_with_byte-slice_split}
use Rattle.command_loop.proofs.LineLemmas.{has_first}
use Rattle.command_loop.specs.declared.commands.BadLine.TheVariants.{Fields}
use Rattle.command_loop.specs.Private.Commands.{cut_parts}
use Rattle.command_loop.specs.Requests.{fields, load_of, unload_of, move_of, list_of}
use Rattle.command_loop.specs.Requests.{checked_load, is_name_byte}
use Rattle.command_line.specs.Numbers.{number}

abbrev pub is_space : ℕ → Bool
is_space byte = byte == 32

no-pass : (v : Bool) → (v ≡ true → ⊥) → v ≡ false
no-pass true never = absurd (never refl)
no-pass false never = refl

not-less : (a b : ℕ) → nat_lt a b ≡ false → b ≤ a
not-less a b e = omega (arith, λ (lt : a < b). false≢true (sym e ∙ lt-ltb a b lt))

pub no-space : (text : List ℕ) → IsFirstByte (is_byte 32) text None → fields text ≡ text ∷ []
no-space text nowhere =
    slice_split_none is_space text (All-from_get_or (λ x. is_space x ≡ false) text 0
    (λ i lt. no-pass (is_space (get_or text i 0)) (nowhere i (omega arith) lt)))

pub one-space : (text : List ℕ) (at : ℕ) → IsFirstByte (is_byte 32) text (Some at)
    → fields text ≡ take at text ∷ fields (take (length text - (at + 1)) (drop (at + 1) text))
one-space text at found =
    let n : ℕ = position_or_len is_space text in
    let there : n ≡ at =
    position_or_len_is is_space text at 0 (omega (arith, found.0.high))
    (λ k lt. no-pass (is_space (get_or text k 0)) (found.0.before k (omega arith) lt))
    (λ lt. found.1) in
    let cut : fields text ≡ take n text ∷ fields (drop (n + 1) text) =
    slice_split_first is_space text 0 (omega (arith, there, found.0.high)) in
    let P : ℕ → Type 0 = λ z. fields text ≡ take z text ∷ fields (drop (z + 1) text) in
    subst P there cut ∙ ap (λ (z : List ℕ). take at text ∷ fields z)
    (sym (take_rest text (at + 1)))

-- a path has no NUL if a search finds none
abbrev is_no_nul : ℕ → Bool
is_no_nul byte = not (byte == 0)

no-nul-at : (v : Bool) → (v ≡ true → ⊥) → not v ≡ true
no-nul-at true never = absurd (never refl)
no-nul-at false never = refl

nul-at : (v : Bool) → v ≡ true → not v ≡ false
nul-at v e = rw e refl

pub negate : (a b : Bool) → a ≡ not b → b ≡ not a
negate a true h = rw h refl
negate a false h = rw h refl

pub finds-no-nul : (text : List ℕ) (found : Option ℕ) → IsFirstByte (is_byte 0) text found
    → not (is_some found) ≡ list_all is_no_nul text
finds-no-nul text None nowhere =
    sym (list_all-from_AllPass is_no_nul text (All-from_get_or (λ x. is_no_nul x ≡ true) text 0
    (λ i lt. no-nul-at (get_or text i 0 == 0) (nowhere i (omega arith) lt))))
finds-no-nul text (Some at) found =
    sym (list_all_at is_no_nul text at 0 found.0.high (nul-at (get_or text at 0 == 0) found.1))

-- the fields of a load
pub load-cut : (operands rest path name base : List ℕ) → fields operands ≡ name ∷ fields rest
    → fields rest ≡ base ∷ fields path
    → load_of (fields operands) ≡ checked_load name (number base) path
load-cut operands rest path name base e f =
    let first = has_first is_space path in
    let joined : join_with_byte 32 (first.first ∷ first.others) ≡ path =
    ap (join_with_byte 32) (sym first.is) ∙ join_with_byte-slice_split 32 path in
    ap load_of (e ∙ ap (λ (z : List (List ℕ)). name ∷ z)
    (f ∙ ap (λ (z : List (List ℕ)). base ∷ z) first.is))
    ∙ ap (checked_load name (number base)) joined

-- a name is UTF-8
name-byte-small : (b : ℕ) → is_name_byte b ≡ true → b < 128
name-byte-small b h = grind (arith, nat_tests)

pub name_is_text : (text : List ℕ) → list_all is_name_byte text ≡ true → IsUtf8 text
name_is_text text h = IsUtf8-from_ascii text (λ i. at i (nat_lt i (length text)) refl)
  where
    at : (i : ℕ) (v : Bool) → nat_lt i (length text) ≡ v → get_or text i 0 < 128
    at i true e = name-byte-small (get_or text i 0)
        (All-get_or (λ b. is_name_byte b ≡ true) text i 0 (ltb-true i (length text) e)
        (AllPass-from_list_all is_name_byte text h))
    at i false e = let past : get_or text i 0 ≡ 0 =
        get_or_past text i 0 (not-less i (length text) e) in omega (arith, past)

-- bytes that are not UTF-8
pub not-utf8 : (bytes : List ℕ) → (IsUtf8 bytes → ⊥) → is_utf8 bytes ≡ false
not-utf8 bytes h = at (is_utf8 bytes) refl
  where
    at : (v : Bool) → is_utf8 bytes ≡ v → v ≡ false
    at true e = absurd (h (IsUtf8-from_is_utf8 bytes e))
    at false e = refl

-- operands after the last one
pub list-more : (rest : List ℕ) → list_of (fields rest) ≡ Err Fields
list-more rest = let first = has_first is_space rest in ap list_of first.is

pub unload-more : (parts : List (List ℕ)) (name : List ℕ) (rest : Option (Bor (List ℕ)))
    → parts ≡ name ∷ cut_parts (option_copied rest)
    → is_some rest ≡ true → unload_of parts ≡ Err Fields
unload-more parts name None e h = absurd (false≢true h)
unload-more parts name (Some rest) e h = let first =
    has_first is_space rest.now in ap unload_of (e ∙ ap (λ (z : List (List ℕ)). name ∷ z) first.is)

pub move-more : (parts after : List (List ℕ)) (name base : List ℕ) (rest : Option (Bor (List ℕ)))
    → parts ≡ name ∷ after
    → after ≡ base ∷ cut_parts (option_copied rest) → is_some rest ≡ true
    → move_of parts ≡ Err Fields
move-more parts after name base None e f h = absurd (false≢true h)
move-more parts after name base (Some rest) e f h = let first = has_first is_space rest.now in
    ap move_of (e ∙ ap (λ (z : List (List ℕ)). name ∷ z)
    (f ∙ ap (λ (z : List (List ℕ)). base ∷ z) first.is))
