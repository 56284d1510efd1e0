-- Parsing a list of items fails at the first invalid item, and mapping a list fails at the first
-- element that is refused.
use Rattle.std.proofs.Common.{◌≡◌, ℕ, zero, suc, ◌+◌, ◌<◌, ◌≤◌, List, [], ◌∷◌, ◌++◌, refl, ap, sym}
use Rattle.std.proofs.Common.{◌∙◌, subst, arith, append_assoc, append-nil}
use Rattle.std.specs.Prelude.{Result, Ok, Err}
use Rattle.dwarf_bytes.specs.declared.fault.Cause.{Cause}
use Rattle.dwarf_bytes.specs.Bind.{◌>>=◌}
use Rattle.dwarf_bytes.specs.Items.{At, Next, Item, End, items_from, Advances, Reach}
use Rattle.dwarf_bytes.specs.Items.{IsFirstInvalid, each_from, IsFirstRefused}
use Rattle.dwarf_bytes.proofs.Items.ItemLaws.{put_front, first_step, items_from-step}

same-fault : {Y : Type 0} (x y : At) → (let f : At → Result Y At = λ e. Err e in f x ≡ f y) → x ≡ y
same-fault x y h = cc

-- a fault of the whole list is a fault of the rest
rest-fails : {X : Type 0} (x : X) (rest : Result (List X × ℕ) At) (e : At)
    → put_front x rest ≡ Err e → rest ≡ Err e
rest-fails x (Ok others) e h = absurd cc
rest-fails x (Err d) e h = cc

fails-here : {X : Type 0} (step : List X → ℕ → Result (Next X) Cause) (before : List X)
    (at : ℕ) (cause : Cause) → step before at ≡ Err cause → IsFirstInvalid step before at cause at
fails-here step before at cause is = record {
  items = [];
  valid = refl;
  refused = rw append-nil is;
}

fails-later : {X : Type 0} (step : List X → ℕ → Result (Next X) Cause) (before : List X)
    (at : ℕ) (x : X) (after : ℕ) (cause : Cause) (offset : ℕ) → step before at ≡ Ok (Item x after)
    → IsFirstInvalid step (before ++ x ∷ []) after cause offset
    → IsFirstInvalid step before at cause offset
fails-later {X = X} step before at x after cause offset is later = record {
  items = x ∷ later.items;
  valid = (after, is, later.valid);
  refused = subst (λ (ys : List X). step ys offset ≡ Err cause)
      (append_assoc before (x ∷ []) later.items) later.refused;
}

by-step : {X : Type 0} (end : ℕ) (step : List X → ℕ → Result (Next X) Cause) (before : List X)
    (at : ℕ) (cause : Cause) (offset : ℕ)
    → ((x : X) (after : ℕ) → step before at ≡ Ok (Item x after)
    → items_from end step (before ++ x ∷ []) after ≡ Err (cause, offset)
    → IsFirstInvalid step (before ++ x ∷ []) after cause offset)
    → (found : Result (Next X) Cause) → step before at ≡ found
    → first_step (items_from end step) before at found ≡ Err (cause, offset)
    → IsFirstInvalid step before at cause offset
by-step end step before at cause offset further (Err other) is h =
    let same = same-fault (other, at) (cause, offset) h in
    subst (λ (c : Cause). IsFirstInvalid step before at c offset) (ap (λ (p : At). p.0) same)
    (subst (λ (n : ℕ). IsFirstInvalid step before at other n) (ap (λ (p : At). p.1) same)
    (fails-here step before at other is))
by-step end step before at cause offset further (Ok (End after)) is h = absurd cc
by-step end step before at cause offset further (Ok (Item x after)) is h =
    fails-later step before at x after cause offset is (further x after is
    (rest-fails x (items_from end step (before ++ x ∷ []) after) (cause, offset) h))

first-invalid-within : {X : Type 0} (n end : ℕ) (step : List X → ℕ → Result (Next X) Cause)
    → Advances end step → (before : List X) (at : ℕ) (cause : Cause) (offset : ℕ) → end < at + n
    → items_from end step before at ≡ Err (cause, offset)
    → IsFirstInvalid step before at cause offset
first-invalid-within zero end step adv before at cause offset enough h =
    by-step end step before at cause offset
    (λ x after is e. let k = adv before at x after is in absurd (omega (arith, k.0, k.1, enough)))
    (step before at) refl (sym (items_from-step end step adv before at) ∙ h)
first-invalid-within (suc n) end step adv before at cause offset enough h =
    by-step end step before at cause offset
    (λ x after is e. let k = adv before at x after is in
    first-invalid-within n end step adv (before ++ x ∷ []) after cause offset
    (omega (arith, k.0, enough)) e)
    (step before at) refl (sym (items_from-step end step adv before at) ∙ h)

pub first-invalid : {X : Type 0} (end : ℕ) (step : List X → ℕ → Result (Next X) Cause)
    → Advances end step → (before : List X) (at : ℕ) (cause : Cause) (offset : ℕ)
    → items_from end step before at ≡ Err (cause, offset)
    → IsFirstInvalid step before at cause offset
first-invalid end step adv before at cause offset h =
    first-invalid-within (suc end) end step adv before at cause offset (omega arith) h

fails-after : {X : Type 0} (end : ℕ) (step : List X → ℕ → Result (Next X) Cause)
    → Advances end step → (items : List X) (before : List X) (at : ℕ) (cause : Cause) (offset : ℕ)
    → Reach step before at items offset → step (before ++ items) offset ≡ Err cause
    → items_from end step before at ≡ Err (cause, offset)
fails-after {X = X} end step adv [] before at cause offset reach refused =
    let there : step before offset ≡ Err cause =
    subst (λ (ys : List X). step ys offset ≡ Err cause) (append-nil before) refused in
    let here : step before at ≡ Err cause =
    subst (λ (n : ℕ). step before n ≡ Err cause) (sym reach) there in
    rw (items_from-step end step adv before at, here) (ap (λ (n : ℕ). Err (cause, n)) reach)
fails-after {X = X} end step adv (x ∷ items) before at cause offset reach refused =
    let rest = fails-after end step adv items (before ++ x ∷ []) reach.0 cause offset reach.2
    (subst (λ (ys : List X). step ys offset ≡ Err cause) (sym (append_assoc before (x ∷ []) items))
    refused) in
    rw (items_from-step end step adv before at, reach.1, rest) refl

pub first-invalid-again : {X : Type 0} (end : ℕ) (step : List X → ℕ → Result (Next X) Cause)
    → Advances end step → (before : List X) (at : ℕ) (cause : Cause) (offset : ℕ)
    → IsFirstInvalid step before at cause offset
    → items_from end step before at ≡ Err (cause, offset)
first-invalid-again end step adv before at cause offset f =
    fails-after end step adv f.items before at cause offset f.valid f.refused

-- ---- mapping a list

refused-here : {X Y : Type 0} (make : List Y → X → Result Y At) (before : List Y) (x : X)
    (xs : List X) (fault : At) → make before x ≡ Err fault
    → IsFirstRefused make before (x ∷ xs) fault
unfolding each_from
refused-here make before x xs fault is = record {
  front = [];
  element = x;
  rest = xs;
  made = [];
  parts = refl;
  made_is = refl;
  refused = rw append-nil is;
}

refused-later : {X Y : Type 0} (make : List Y → X → Result Y At) (before : List Y) (x : X)
    (xs : List X) (y : Y) (fault : At) → make before x ≡ Ok y
    → IsFirstRefused make (before ++ y ∷ []) xs fault → IsFirstRefused make before (x ∷ xs) fault
unfolding each_from
refused-later {X = X} {Y = Y} make before x xs y fault is later = record {
  front = x ∷ later.front;
  element = later.element;
  rest = later.rest;
  made = y ∷ later.made;
  parts = ap (λ (zs : List X). x ∷ zs) later.parts;
  made_is = rw (is, later.made_is) refl;
  refused = subst (λ (ys : List Y). make ys later.element ≡ Err fault)
      (append_assoc before (y ∷ []) later.made) later.refused;
}

rest-refused : {Y : Type 0} (y : Y) (rest : Result (List Y) At) (fault : At)
    → (rest >>= λ ys. Ok (y ∷ ys)) ≡ Err fault → rest ≡ Err fault
rest-refused y (Ok ys) fault h = absurd cc
rest-refused y (Err e) fault h = cc

refused-by : {X Y : Type 0} (make : List Y → X → Result Y At) (before : List Y) (x : X)
    (xs : List X) (fault : At)
    → ((y : Y) → each_from make (before ++ y ∷ []) xs ≡ Err fault
    → IsFirstRefused make (before ++ y ∷ []) xs fault)
    → (made : Result Y At) → make before x ≡ made
    → (made >>= λ y. each_from make (before ++ y ∷ []) xs >>= λ ys. Ok (y ∷ ys)) ≡ Err fault
    → IsFirstRefused make before (x ∷ xs) fault
refused-by make before x xs fault further (Err e) is h =
    let same : e ≡ fault = cc in
    refused-here make before x xs fault (is ∙ ap (λ (d : At). Err d) same)
refused-by make before x xs fault further (Ok y) is h =
    refused-later make before x xs y fault is (further y
    (rest-refused y (each_from make (before ++ y ∷ []) xs) fault h))

pub first-refused : {X Y : Type 0} (make : List Y → X → Result Y At) (before : List Y)
    (xs : List X) (fault : At) → each_from make before xs ≡ Err fault
    → IsFirstRefused make before xs fault
unfolding each_from
first-refused make before [] fault h = absurd cc
first-refused make before (x ∷ xs) fault h =
    refused-by make before x xs fault
    (λ y e. first-refused make (before ++ y ∷ []) xs fault e) (make before x) refl h

refuses-after : {X Y : Type 0} (make : List Y → X → Result Y At) (front : List X)
    (element : X) (rest : List X) (before made : List Y) (fault : At)
    → each_from make before front ≡ Ok made → make (before ++ made) element ≡ Err fault
    → each_from make before (front ++ element ∷ rest) ≡ Err fault
unfolding each_from
refuses-after {Y = Y} make [] element rest before made fault made_is refused =
    let none : [] ≡ made = cc in
    let here : make before element ≡ Err fault =
    subst (λ (ys : List Y). make ys element ≡ Err fault) (append-nil before)
    (subst (λ (ys : List Y). make (before ++ ys) element ≡ Err fault) (sym none) refused) in
    rw here refl
refuses-after {X = X} {Y = Y} make (x ∷ front) element rest before made fault made_is refused =
    by_made (λ y ys ok no. refuses-after make front element rest (before ++ y ∷ []) ys fault ok no)
    (make before x) refl made_is
  where
    by_rest : (y : Y) (others : Result (List Y) At)
        → each_from make (before ++ y ∷ []) front ≡ others → make before x ≡ Ok y
        → (others >>= λ ys. Ok (y ∷ ys)) ≡ Ok made
        → ((ys : List Y) → each_from make (before ++ y ∷ []) front ≡ Ok ys
        → make ((before ++ y ∷ []) ++ ys) element ≡ Err fault
        → each_from make (before ++ y ∷ []) (front ++ element ∷ rest) ≡ Err fault)
        → (make before x >>= λ y. each_from make (before ++ y ∷ []) (front ++ element ∷ rest)
        >>= λ ys. Ok (y ∷ ys)) ≡ Err fault
    by_rest y (Err e) is here h further = absurd cc
    by_rest y (Ok ys) is here h further =
        let whole : y ∷ ys ≡ made = cc in
        let there = further ys is (subst (λ (zs : List Y). make zs element ≡ Err fault)
        (ap (λ (zs : List Y). before ++ zs) (sym whole) ∙ sym (append_assoc before (y ∷ []) ys))
        refused) in
        rw (here, there) refl

    by_made : ((y : Y) (ys : List Y) → each_from make (before ++ y ∷ []) front ≡ Ok ys
        → make ((before ++ y ∷ []) ++ ys) element ≡ Err fault
        → each_from make (before ++ y ∷ []) (front ++ element ∷ rest) ≡ Err fault)
        → (first : Result Y At) → make before x ≡ first
        → (first >>= λ y. each_from make (before ++ y ∷ []) front >>= λ ys. Ok (y ∷ ys)) ≡ Ok made
        → (make before x >>= λ y. each_from make (before ++ y ∷ []) (front ++ element ∷ rest)
        >>= λ ys. Ok (y ∷ ys)) ≡ Err fault
    by_made further (Err e) is h = absurd cc
    by_made further (Ok y) is h =
        by_rest y (each_from make (before ++ y ∷ []) front) refl is h
        (further y)

pub first-refused-again : {X Y : Type 0} (make : List Y → X → Result Y At) (before : List Y)
    (xs : List X) (fault : At) → IsFirstRefused make before xs fault
    → each_from make before xs ≡ Err fault
first-refused-again {X = X} make before xs fault f =
    subst (λ (zs : List X). each_from make before zs ≡ Err fault) (sym f.parts)
    (refuses-after make f.front f.element f.rest before f.made fault f.made_is f.refused)
