-- Paths, part by part.
use Rattle.std.proofs.Common.{◌≡◌, ◌≢◌, ℕ, ◌+◌, ◌-◌, Bool, List, [], ◌∷◌, ◌++◌, length, drop, cond}
use Rattle.std.proofs.Common.{true, false, take, get_or, subst, ◌<◌}
use Rattle.std.proofs.Common.{refl, sym, ap, ap₂, ◌∙◌, append_assoc}
use Rattle.std.proofs.Common.{append-nil, arith, map, length-append}
use Rattle.std.specs.Prelude.{not, ◌==◌, flat_map, reverse, Some, None}
use Rattle.std.specs.List.{suffix_len, prefix_len, join_with_byte}
use Rattle.std.proofs.lemmas.List.{reverse-append, map-append}
use Rattle.std.proofs.lemmas.List.Sums.{suffix_len-le-length, suffix_len_is}
use Rattle.std.proofs.lemmas.List.{take_rest}
use Rattle.std.proofs.Math.Seq.{drop-append-add}
use Rattle.bstr.specs.Find.{IsLastByte, is_byte}
use Rattle.answer_text.specs.Printable.{printable, text_or_unknown}
use Rattle.answer_text.specs.Text.{base_name}
use Rattle.answer_text.specs.Private.Paths.{last_or, after_slash}

-- ---- the part after the last slash

abbrev is_other : ℕ → Bool
is_other byte = not (byte == 47)

prefix-before : (front back : List ℕ) → prefix_len is_other (front ++ 47 ∷ back)
    ≡ prefix_len is_other front
prefix-before [] back = refl
prefix-before (byte ∷ front) back = ap (λ (n : ℕ). cond (is_other byte) (1 + n) 0)
    (prefix-before front back)

reverse-join : (part rest : List ℕ) → reverse (part ++ 47 ∷ rest) ≡ reverse rest ++ 47
    ∷ reverse part
reverse-join part rest =
    reverse-append part (47 ∷ rest) ∙ ap (λ (z : List ℕ). z ++ reverse part)
    (reverse-append (47 ∷ []) rest)
    ∙ append_assoc (reverse rest) (47 ∷ []) (reverse part)

base_after : (part rest : List ℕ) → base_name (part ++ 47 ∷ rest) ≡ base_name rest
base_after part rest =
    let same : suffix_len is_other (part ++ 47 ∷ rest) ≡ suffix_len is_other rest =
    ap (prefix_len is_other) (reverse-join part rest) ∙ prefix-before (reverse rest)
    (reverse part) in
    let glued : part ++ 47 ∷ rest ≡ (part ++ 47 ∷ []) ++ rest =
    sym (append_assoc part (47 ∷ []) rest) in
    let far : length (part ++ 47 ∷ rest) - suffix_len is_other (part ++ 47 ∷ rest)
    ≡ length (part ++ 47 ∷ []) + (length rest - suffix_len is_other rest) =
    omega (
      arith,
      same,
      suffix_len-le-length is_other rest,
      length-append part (47 ∷ rest),
      length-append part (47 ∷ []),
    ) in
    ap₂ drop far glued ∙ drop-append-add (part ++ 47 ∷ []) rest
    (length rest - suffix_len is_other rest)

-- the test of the byte at an index, as its negation
other-byte : (b : Bool) → (b ≡ true → ⊥) → not b ≡ true
other-byte true never = absurd (never refl)
other-byte false never = refl

slash-byte : (b : Bool) → b ≡ true → not b ≡ false
slash-byte b e = rw e refl

-- the base name of a path without a slash is the whole path
pub no-slash : (path : List ℕ) → IsLastByte (is_byte 47) path None → path ≡ base_name path
no-slash path nowhere =
    let all : suffix_len is_other path ≡ length path - 0 =
    suffix_len_is is_other path 0 0 (omega arith)
    (λ k low lt. other-byte (get_or path k 0 == 47) (nowhere k low lt))
    (λ (lt : 0 < 0). absurd (omega (arith, lt))) in
    let start : 0 ≡ length path - suffix_len is_other path = omega (arith, all) in
    ap (λ (n : ℕ). drop n path) start

-- the part after the last slash
pub last-slash : (path : List ℕ) (at : ℕ) → IsLastByte (is_byte 47) path (Some at)
    → take (length path - (at + 1)) (drop (at + 1) path) ≡ base_name path
last-slash path at found =
    let here : at ≡ at + 1 - 1 = omega arith in
    let rest : suffix_len is_other path ≡ length path - (at + 1) =
    suffix_len_is is_other path (at + 1) 0 (omega (arith, found.0.high))
    (λ k low lt. other-byte (get_or path k 0 == 47) (found.0.after k low lt))
    (λ lt. subst (λ (k : ℕ). is_other (get_or path k 0) ≡ false) here
    (slash-byte (get_or path at 0 == 47) found.1)) in
    take_rest path (at + 1) ∙ ap (λ (n : ℕ). drop n path) (omega (arith, rest, found.0.high))

-- it is in the last part
base-of-parts : (parts : List (List ℕ)) (part : List ℕ)
    → base_name (last_or part parts) ≡ base_name (join_with_byte 47 (part ∷ parts))
base-of-parts [] part = refl
base-of-parts (next ∷ parts) part = base-of-parts parts next
    ∙ sym (base_after part (join_with_byte 47 (next ∷ parts)))

pub base-of-last : (parts : List (List ℕ)) → base_name (last_or [] parts)
    ≡ base_name (join_with_byte 47 parts)
base-of-last [] = refl
base-of-last (part ∷ parts) = base-of-parts parts part

-- ---- parts joined by slashes

pub printed-join : (part : List ℕ) (parts : List (List ℕ))
    → map printable part ++ flat_map after_slash parts
    ≡ map printable (join_with_byte 47 (part ∷ parts))
printed-join part [] = append-nil (map printable part)
printed-join part (next ∷ parts) =
    ap (λ (z : List ℕ). map printable part ++ 47 ∷ z) (printed-join next parts)
    ∙ sym (map-append printable part (47 ∷ join_with_byte 47 (next ∷ parts)))

-- a path whose first part is nonempty
pub path-nonempty : (part : List ℕ) (parts : List (List ℕ)) → part ≢ []
    → map printable part ++ flat_map after_slash parts
    ≡ text_or_unknown (Some (join_with_byte 47 (part ∷ parts)))
path-nonempty [] parts ne = absurd (ne refl)
path-nonempty (byte ∷ bytes) [] ne = printed-join (byte ∷ bytes) []
path-nonempty (byte ∷ bytes) (next ∷ parts) ne = printed-join (byte ∷ bytes) (next ∷ parts)

-- a path whose first part is empty
pub path-after-empty : (part : List ℕ) (parts : List (List ℕ))
    → after_slash part ++ flat_map after_slash parts
    ≡ text_or_unknown (Some (join_with_byte 47 ([] ∷ part ∷ parts)))
path-after-empty part parts = ap (λ (z : List ℕ). 47 ∷ z) (printed-join part parts)

-- ---- the remaining parts of a path

abbrev pub path_text : List (List ℕ) → List ℕ
path_text parts = text_or_unknown (Some (join_with_byte 47 parts))

pub first-nonempty : (all rest : List (List ℕ)) (part : List ℕ) → all ≡ part ∷ rest → part ≢ []
    → map printable part ++ flat_map after_slash rest ≡ path_text all
first-nonempty all rest part e ne = path-nonempty part rest ne ∙ ap path_text (sym e)

pub second-after-empty : (all rest : List (List ℕ)) (part : List ℕ) → all ≡ part ∷ rest
    → after_slash part ++ flat_map after_slash rest ≡ path_text ([] ∷ all)
second-after-empty all rest part e = path-after-empty part rest
    ∙ ap (λ (z : List (List ℕ)). path_text ([] ∷ z)) (sym e)
