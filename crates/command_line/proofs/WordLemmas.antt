-- The arguments that were parsed as numbers so far.
use Rattle.std.proofs.Common.{◌≡◌, ℕ, zero, suc, ◌+◌, ◌<◌, ◌≤◌, List, [], ◌∷◌, ◌++◌, length, map}
use Rattle.std.proofs.Common.{get_or, drop, refl, sym, ap, ◌∙◌, arith, append_assoc, append-nil}
use Rattle.std.specs.Prelude.{Option, None, Some, Result, Ok, Err}
use Rattle.std.specs.Borrow.{Bor}
use Rattle.command_line.specs.Settings.{numbers_of, number_then}
use Rattle.command_line.specs.Numbers.{number}

abbrev all_of : List ℕ → Result (List ℕ) (List ℕ)
all_of l = Ok l

-- numbers, followed by the result for the remaining arguments
abbrev pub with_front : List ℕ → Result (List ℕ) (List ℕ) → Result (List ℕ) (List ℕ)
with_front front (Ok ns) = Ok (front ++ ns)
with_front front (Err bad) = Err bad

one_more : (front : List ℕ) (n : ℕ) (word : List ℕ) (o : Result (List ℕ) (List ℕ))
    → with_front (front ++ n ∷ []) o ≡ with_front front (number_then word (Some n) o)
one_more front n word (Ok ns) = ap (λ (l : List ℕ). all_of l) (append_assoc front (n ∷ []) ns)
one_more front n word (Err bad) = refl

abbrev pub texts : List (Bor (List ℕ)) → List (List ℕ)
texts words = map (λ w. w.now) words

text_at : (words : List (Bor (List ℕ))) (i : ℕ) (d : Bor (List ℕ)) → i < length words
    → drop i (texts words) ≡ (get_or words i d).now ∷ drop (i + 1) (texts words)
text_at [] i d lt = absurd (omega arith)
text_at (w ∷ ws) zero d lt = refl
text_at (w ∷ ws) (suc i) d lt = text_at ws i d (omega arith)
    ∙ ap (λ n. (get_or ws i d).now ∷ drop n (texts (w ∷ ws))) (shift i)
  where
    shift : (i : ℕ) → suc (i + 1) ≡ suc i + 1
    shift i = omega arith

module _ (words : List (Bor (List ℕ))) (i : ℕ) (d : Bor (List ℕ)) (front : List ℕ)
    (all : Result (List ℕ) (List ℕ)) (so_far : with_front front (numbers_of (drop i (texts words)))
    ≡ all) where
  pub number_more : (n : ℕ) (front' : List ℕ) → i < length words → number (get_or words i d).now
      ≡ Some n → front' ≡ front ++ n ∷ []
      → with_front front' (numbers_of (drop (i + 1) (texts words))) ≡ all
  number_more n front' lt is pushed = ap
      (λ (l : List ℕ). with_front l (numbers_of (drop (i + 1) (texts words)))) pushed
      ∙ one_more front n (get_or words i d).now (numbers_of (drop (i + 1) (texts words)))
      ∙ ap (λ (o : Option ℕ). with_front front
      (number_then (get_or words i d).now o (numbers_of (drop (i + 1) (texts words))))) (sym is)
      ∙ ap (λ (l : List (List ℕ)). with_front front (numbers_of l)) (sym (text_at words i d lt))
      ∙ so_far

  pub number_bad : i < length words → number (get_or words i d).now ≡ None
      → all ≡ Err (get_or words i d).now
  number_bad lt is = sym so_far ∙ ap (λ (l : List (List ℕ)). with_front front (numbers_of l))
      (text_at words i d lt)
      ∙ ap (λ (o : Option ℕ). with_front front
      (number_then (get_or words i d).now o (numbers_of (drop (i + 1) (texts words))))) is
