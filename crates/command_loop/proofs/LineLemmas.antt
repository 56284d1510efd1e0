-- Lines of input, part by part.
use Rattle.std.proofs.Common.{◌≡◌, ◌≢◌, ℕ, suc, ◌<◌, Bool, true, false, cond, List, [], ◌∷◌, ◌++◌}
use Rattle.std.proofs.Common.{length, get_or, refl, sym, ◌∙◌, ap, subst}
use Rattle.std.proofs.Common.{append_assoc, append-nil, arith}
use Rattle.std.specs.Prelude.{filter}
use Rattle.std.specs.List.{slice_split, onto_first, join_with_byte}
use Rattle.std.proofs.lemmas.List.Splits.{join_with_byte-slice_split}
use Rattle.std.proofs.lemmas.Bool.{ne_eqb}
use Rattle.command_loop.specs.Lines.{stretches, all_but_last, the_last, has_bytes, lines}
use Rattle.command_loop.specs.Lines.{ended_lines, open_line, is_line_feed}

-- splitting a list gives at least one part
pub record HasFirst (parts : List (List ℕ)) : Type 0 where
  pub first : List ℕ
  pub others : List (List ℕ)
  pub is : parts ≡ first ∷ others

has-first-at : (v : Bool) (x : ℕ) (part : List ℕ) (parts : List (List ℕ))
    → HasFirst (cond v ([] ∷ part ∷ parts) (onto_first x (part ∷ parts)))
has-first-at true x part parts = record { first = []; others = part ∷ parts; is = refl }
has-first-at false x part parts = record { first = x ∷ part; others = parts; is = refl }

pub has_first : (p : ℕ → Bool) (xs : List ℕ) → HasFirst (slice_split p xs)
has_first p [] = record { first = []; others = []; is = refl }
has_first p (x ∷ xs) =
    let h = has_first p xs in
    let P : List (List ℕ) → Type 0 = λ z. HasFirst (cond (p x) ([] ∷ z) (onto_first x z)) in
    subst P (sym h.is) (has-first-at (p x) x h.first h.others)

close-at : (v : Bool) (x : ℕ) (part : List ℕ) (parts : List (List ℕ))
    → cond v ([] ∷ (part ∷ parts ++ [] ∷ [])) (onto_first x (part ∷ parts ++ [] ∷ []))
    ≡ cond v ([] ∷ part ∷ parts) (onto_first x (part ∷ parts)) ++ [] ∷ []
close-at true x part parts = refl
close-at false x part parts = refl

close-step : (v : Bool) (x : ℕ) (parts : List (List ℕ)) → HasFirst parts
    → cond v ([] ∷ (parts ++ [] ∷ [])) (onto_first x (parts ++ [] ∷ []))
    ≡ cond v ([] ∷ parts) (onto_first x parts) ++ [] ∷ []
close-step v x parts h =
    let P : List (List ℕ) → Type 0 =
    λ z. cond v ([] ∷ (z ++ [] ∷ [])) (onto_first x (z ++ [] ∷ []))
    ≡ cond v ([] ∷ z) (onto_first x z) ++ [] ∷ [] in
    subst P (sym h.is) (close-at v x h.first h.others)

-- a separator starts a new, empty part
pub split-closes : (p : ℕ → Bool) (xs : List ℕ) (b : ℕ) → p b ≡ true → slice_split p (xs ++ b ∷ [])
    ≡ slice_split p xs ++ [] ∷ []
split-closes p [] b yes_cut = rw yes_cut refl
split-closes p (x ∷ xs) b yes_cut =
    ap (λ (z : List (List ℕ)). cond (p x) ([] ∷ z) (onto_first x z)) (split-closes p xs b yes_cut)
    ∙ close-step (p x) x (slice_split p xs) (has_first p xs)

-- the last part with one more byte
abbrev pub with_byte : List (List ℕ) → ℕ → List (List ℕ)
with_byte parts b = all_but_last parts ++ (the_last parts ++ b ∷ []) ∷ []

grow-at : (v : Bool) (x : ℕ) (part : List ℕ) (parts : List (List ℕ)) (b : ℕ)
    → cond v ([] ∷ with_byte (part ∷ parts) b) (onto_first x (with_byte (part ∷ parts) b))
    ≡ with_byte (cond v ([] ∷ part ∷ parts) (onto_first x (part ∷ parts))) b
grow-at true x part parts b = refl
grow-at false x part [] b = refl
grow-at false x part (next ∷ parts) b = refl

grow-step : (v : Bool) (x : ℕ) (parts : List (List ℕ)) (b : ℕ) → HasFirst parts
    → cond v ([] ∷ with_byte parts b) (onto_first x (with_byte parts b))
    ≡ with_byte (cond v ([] ∷ parts) (onto_first x parts)) b
grow-step v x parts b h =
    let P : List (List ℕ) → Type 0 =
    λ z. cond v ([] ∷ with_byte z b) (onto_first x (with_byte z b))
    ≡ with_byte (cond v ([] ∷ z) (onto_first x z)) b in
    subst P (sym h.is) (grow-at v x h.first h.others b)

-- any other byte is appended to the last part
pub split-grows : (p : ℕ → Bool) (xs : List ℕ) (b : ℕ) → p b ≡ false → slice_split p (xs ++ b ∷ [])
    ≡ with_byte (slice_split p xs) b
split-grows p [] b no_segment = rw no_segment refl
split-grows p (x ∷ xs) b no_segment =
    ap (λ (z : List (List ℕ)). cond (p x) ([] ∷ z) (onto_first x z)) (split-grows p xs b no_segment)
    ∙ grow-step (p x) x (slice_split p xs) b (has_first p xs)

pub front_of-push : (parts : List (List ℕ)) (part : List ℕ) → all_but_last (parts ++ part ∷ [])
    ≡ parts
front_of-push [] part = refl
front_of-push (a ∷ []) part = refl
front_of-push (a ∷ b ∷ parts) part = ap (λ (z : List (List ℕ)). a ∷ z)
    (front_of-push (b ∷ parts) part)

pub last-of-push : (parts : List (List ℕ)) (part : List ℕ) → the_last (parts ++ part ∷ []) ≡ part
last-of-push [] part = refl
last-of-push (a ∷ []) part = refl
last-of-push (a ∷ b ∷ parts) part = last-of-push (b ∷ parts) part

front-and-last-at : (part : List ℕ) (parts : List (List ℕ)) → all_but_last (part ∷ parts)
    ++ the_last (part ∷ parts) ∷ [] ≡ part ∷ parts
front-and-last-at part [] = refl
front-and-last-at part (next ∷ parts) = ap (λ (z : List (List ℕ)). part ∷ z)
    (front-and-last-at next parts)

pub front-and-last : (parts : List (List ℕ)) → HasFirst parts → all_but_last parts ++ the_last parts
    ∷ [] ≡ parts
front-and-last parts h =
    let P : List (List ℕ) → Type 0 = λ z. all_but_last z ++ the_last z ∷ [] ≡ z in
    subst P (sym h.is) (front-and-last-at h.first h.others)

pub filter_append : (p : List ℕ → Bool) (xs ys : List (List ℕ)) → filter p (xs ++ ys) ≡ filter p xs
    ++ filter p ys
filter_append p [] ys = refl
filter_append p (x ∷ xs) ys = filter_append_at (p x) x (filter p xs) (filter p ys)
    (filter p (xs ++ ys)) (filter_append p xs ys)
  where
    filter_append_at : (v : Bool) (x : List ℕ) (a b c : List (List ℕ)) → c ≡ a ++ b
        → cond v (x ∷ c) c ≡ cond v (x ∷ a) a ++ b
    filter_append_at true x a b c e = ap (λ (z : List (List ℕ)). x ∷ z) e
    filter_append_at false x a b c e = e

-- all lines: the ended ones, and the open one if it is nonempty
pub lines-are : (xs : List ℕ) → lines xs ≡ ended_lines xs ++ filter has_bytes (open_line xs ∷ [])
unfolding lines ended_lines open_line
lines-are xs =
    ap (filter has_bytes) (sym (front-and-last (stretches xs) (has_first is_line_feed xs)))
    ∙ filter_append has_bytes (all_but_last (stretches xs)) (the_last (stretches xs) ∷ [])

-- a line feed ends the open line
pub ended_at-feed : (xs : List ℕ) → ended_lines (xs ++ 10 ∷ []) ≡ ended_lines xs
    ++ filter has_bytes (open_line xs ∷ [])
unfolding ended_lines open_line
ended_at-feed xs =
    ap (λ (z : List (List ℕ)). filter has_bytes (all_but_last z))
    (split-closes is_line_feed xs 10 refl)
    ∙ ap (filter has_bytes) (front_of-push (stretches xs) [])
    ∙ ap (filter has_bytes) (sym (front-and-last (stretches xs) (has_first is_line_feed xs)))
    ∙ filter_append has_bytes (all_but_last (stretches xs)) (the_last (stretches xs) ∷ [])

pub open-at-feed : (xs : List ℕ) → open_line (xs ++ 10 ∷ []) ≡ []
unfolding open_line
open-at-feed xs = ap the_last (split-closes is_line_feed xs 10 refl)
    ∙ last-of-push (stretches xs) []

-- any other byte is appended to the open line
pub ended_at-byte : (xs : List ℕ) (b : ℕ) → b ≢ 10 → ended_lines (xs ++ b ∷ []) ≡ ended_lines xs
unfolding ended_lines
ended_at-byte xs b ne =
    ap (λ (z : List (List ℕ)). filter has_bytes (all_but_last z))
    (split-grows is_line_feed xs b (ne_eqb b 10 ne))
    ∙ ap (filter has_bytes) (front_of-push (all_but_last (stretches xs))
    (the_last (stretches xs) ++ b ∷ []))

pub open-at-byte : (xs : List ℕ) (b : ℕ) → b ≢ 10 → open_line (xs ++ b ∷ []) ≡ open_line xs ++ b
    ∷ []
unfolding open_line
open-at-byte xs b ne =
    ap the_last (split-grows is_line_feed xs b (ne_eqb b 10 ne))
    ∙ last-of-push (all_but_last (stretches xs))
    (the_last (stretches xs) ++ b ∷ [])

-- bytes without a line feed
abbrev pub HasNoFeed : List ℕ → Type 0
HasNoFeed bytes = (k : ℕ) → k < length bytes → get_or bytes k 0 ≢ 10

pub ended_at-bytes : (xs bytes : List ℕ) → HasNoFeed bytes
    → ended_lines (xs ++ bytes) ≡ ended_lines xs
ended_at-bytes xs [] none = ap ended_lines (append-nil xs)
ended_at-bytes xs (b ∷ bytes) none =
    ap ended_lines (sym (append_assoc xs (b ∷ []) bytes))
    ∙ ended_at-bytes (xs ++ b ∷ []) bytes (λ k lt. none (suc k) (omega (arith, lt)))
    ∙ ended_at-byte xs b (none 0 (omega arith))

pub open-at-bytes : (xs bytes : List ℕ) → HasNoFeed bytes → open_line (xs ++ bytes) ≡ open_line xs
    ++ bytes
open-at-bytes xs [] none = ap open_line (append-nil xs) ∙ sym (append-nil (open_line xs))
open-at-bytes xs (b ∷ bytes) none =
    ap open_line (sym (append_assoc xs (b ∷ []) bytes))
    ∙ open-at-bytes (xs ++ b ∷ []) bytes (λ k lt. none (suc k) (omega (arith, lt)))
    ∙ ap (λ (z : List ℕ). z ++ bytes) (open-at-byte xs b (none 0 (omega arith)))
    ∙ append_assoc (open_line xs) (b ∷ []) bytes

-- the input so far ends with the open line
pub ends-open : (xs : List ℕ) → (front : List ℕ) × (xs ≡ front ++ open_line xs)
unfolding open_line
ends-open xs =
    let j = join_ends (stretches xs) in
    (j.0, sym (join_with_byte-slice_split 10 xs) ∙ j.1)
  where
    join_ends : (parts : List (List ℕ)) → (front : List ℕ)
        × (join_with_byte 10 parts ≡ front ++ the_last parts)
    join_ends [] = ([], refl)
    join_ends (part ∷ []) = ([], refl)
    join_ends (part ∷ next ∷ parts) =
        let j = join_ends (next ∷ parts) in (
          part ++ 10 ∷ j.0,
          ap (λ (z : List ℕ). part ++ 10 ∷ z) j.1
              ∙ sym (append_assoc part (10 ∷ j.0) (the_last (next ∷ parts))),
        )
