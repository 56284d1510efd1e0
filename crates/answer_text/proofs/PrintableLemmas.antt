-- Strings without control characters.
use Rattle.std.proofs.Common.{◌≡◌, Bool, true, false, ℕ, ◌+◌, ◌-◌, ◌≤◌, List, take, drop, length}
use Rattle.std.proofs.Common.{refl, sym, ◌∙◌, ap, arith}
use Rattle.std.specs.Prelude.{◌&&◌}
use Rattle.std.specs.List.{list_all}
use Rattle.std.proofs.lemmas.List.{take-append-drop, take-take, drop-take, drop-drop}
use Rattle.std.proofs.lemmas.List.{take_all, length-drop}
use Rattle.std.proofs.lemmas.List.Folds.{list_all-append}

both-twice : (x m d : Bool) → ((x && m) && (m && d)) ≡ ((x && m) && d)
both-twice true true d = refl
both-twice true false d = refl
both-twice false m d = refl

-- a list in two parts
parts : (p : ℕ → Bool) (n : ℕ) (text : List ℕ)
    → list_all p text ≡ (list_all p (take n text) && list_all p (drop n text))
parts p n text =
    ap (list_all p) (sym (take-append-drop n text)) ∙ list_all-append p (take n text) (drop n text)

-- the same from a place on
parts-after : (p : ℕ → Bool) (a b : ℕ) (text : List ℕ) → b ≤ a
    → list_all p (drop b text)
    ≡ (list_all p (take (a - b) (drop b text)) && list_all p (drop a text))
parts-after p a b text l =
    let e : b + (a - b) ≡ a = omega (arith, l) in
    parts p (a - b) (drop b text)
    ∙ ap (λ (xs : List ℕ). list_all p (take (a - b) (drop b text)) && list_all p xs)
    (drop-drop (a - b) b text ∙ ap (λ (n : ℕ). drop n text) e)

-- the same up to a place
parts-before : (p : ℕ → Bool) (a b : ℕ) (text : List ℕ) → b ≤ a
    → list_all p (take a text)
    ≡ (list_all p (take b text) && list_all p (take (a - b) (drop b text)))
parts-before p a b text l =
    let e : a ≡ b + (a - b) = omega (arith, l) in
    parts p b (take a text)
    ∙ ap (λ (xs : List ℕ). list_all p xs && list_all p (drop b (take a text)))
    (take-take b a text l)
    ∙ ap (λ (xs : List ℕ). list_all p (take b text) && list_all p xs)
    (ap (λ (n : ℕ). drop b (take n text)) e ∙ drop-take b (a - b) text)

-- two parts that overlap or meet
pub all-overlapping : (p : ℕ → Bool) (a b : ℕ) (text : List ℕ) → b ≤ a
    → (list_all p (take a text) && list_all p (drop b text)) ≡ list_all p text
all-overlapping p a b text l =
    let m = list_all p (take (a - b) (drop b text)) in
    ap (λ (x : Bool). x && list_all p (drop b text)) (parts-before p a b text l)
    ∙ ap (λ (x : Bool). (list_all p (take b text) && m) && x) (parts-after p a b text l)
    ∙ both-twice (list_all p (take b text)) m (list_all p (drop a text))
    ∙ ap (λ (x : Bool). x && list_all p (drop a text)) (sym (parts-before p a b text l))
    ∙ sym (parts p a text)

-- the start of a string up to a place, and its end from a place on
pub all-with-end : (p : ℕ → Bool) (a b : ℕ) (text : List ℕ) (start end : Bool) → b ≤ a
    → start ≡ list_all p (take a text)
    → end ≡ list_all p (take (length text - b) (drop b text))
    → (start && end) ≡ list_all p text
all-with-end p a b text start end l s e =
    let w : length (drop b text) ≤ length text - b = omega (arith, length-drop b text) in
    ap (λ (x : Bool). x && end) s
    ∙ ap (λ (x : Bool). list_all p (take a text) && x)
    (e ∙ ap (list_all p) (take_all (length text - b) (drop b text) w))
    ∙ all-overlapping p a b text l

-- one more block
pub all-with-block : (p : ℕ → Bool) (at len : ℕ) (text : List ℕ)
    → list_all p (take at text) ≡ true
    → list_all p (take (at + len - at) (drop at text)) ≡ true
    → list_all p (take (at + len) text) ≡ true
all-with-block p at len text s b = parts-before p (at + len) at text (omega arith)
    ∙ ap (λ (x : Bool). x && list_all p (take (at + len - at) (drop at text))) s ∙ b

and-false : (x : Bool) → (x && false) ≡ false
and-false true = refl
and-false false = refl

-- a block that fails
pub not-all-with-block : (p : ℕ → Bool) (at len : ℕ) (text : List ℕ)
    → list_all p (take len (drop at text)) ≡ false → list_all p text ≡ false
not-all-with-block p at len text b = parts p at text
    ∙ ap (λ (x : Bool). list_all p (take at text) && x)
    (parts p len (drop at text)
    ∙ ap (λ (x : Bool). x && list_all p (drop len (drop at text))) b)
    ∙ and-false (list_all p (take at text))
