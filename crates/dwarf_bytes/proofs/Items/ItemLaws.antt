-- One step of a list of items, for any sufficient number of steps, and the whole-list form.
use Rattle.std.proofs.Common.{◌≡◌, ℕ, zero, suc, ◌+◌, ◌-◌, ◌<◌, ◌≤◌, List, [], ◌∷◌, ◌++◌, refl, ap}
use Rattle.std.proofs.Common.{sym, ◌∙◌, subst, arith, append_assoc, append-nil, take, get_or}
use Rattle.std.proofs.Common.{length}
use Rattle.std.specs.Prelude.{Result, Ok, Err}
use Rattle.dwarf_bytes.specs.declared.fault.Cause.{Cause}
use Rattle.dwarf_bytes.specs.Bind.{◌>>=◌}
use Rattle.dwarf_bytes.specs.Items.{At, Next, Item, End, with_offset, items_within, items_from}
use Rattle.dwarf_bytes.specs.Items.{Advances, Lists}

-- an item followed by the rest
abbrev pub put_front : {X : Type 0} → X → Result (List X × ℕ) At → Result (List X × ℕ) At
put_front x (Ok others) = Ok (x ∷ others.0, others.1)
put_front x (Err e) = Err e

pub put-front-is : {X : Type 0} (x : X) (rest : Result (List X × ℕ) At)
    → (rest >>= λ others. Ok (x ∷ others.0, others.1)) ≡ put_front x rest
put-front-is x (Ok others) = refl
put-front-is x (Err e) = refl

-- continues after the next item with a given way to read the rest
abbrev pub go_on : {X : Type 0} → (List X → ℕ → Result (List X × ℕ) At) → List X → Next X
    → Result (List X × ℕ) At
go_on rest before (End after) = Ok ([], after)
go_on rest before (Item x after) = put_front x (rest (before ++ x ∷ []) after)

abbrev pub first_step : {X : Type 0} → (List X → ℕ → Result (List X × ℕ) At) → List X → ℕ
    → Result (Next X) Cause
    → Result (List X × ℕ) At
first_step rest before at (Ok next) = go_on rest before next
first_step rest before at (Err cause) = Err (cause, at)

pub items_within-suc : {X : Type 0} (n : ℕ) (step : List X → ℕ → Result (Next X) Cause)
    (before : List X) (at : ℕ)
    → items_within (suc n) step before at ≡ first_step (items_within n step) before at
    (step before at)
unfolding items_within
items_within-suc {X = X} n step before at = by_result (step before at)
  where
    by_result : (found : Result (Next X) Cause) → (with_offset at found >>= λ next. elim next as
        (λ _. Result (List X × ℕ) At) [
          | End after ↦ Ok ([], after)
          | Item x after ↦ items_within n step
              (before ++ x ∷ []) after >>= λ rest. Ok (x ∷ rest.0, rest.1)
        ]) ≡ first_step
        (items_within n step) before at found
    by_result (Err cause) = refl
    by_result (Ok (End after)) = refl
    by_result (Ok (Item x after)) = put-front-is x (items_within n step (before ++ x ∷ []) after)

-- two ways to read the rest are equal if they agree after the next item
pub first-step-same : {X : Type 0} (r s : List X → ℕ → Result (List X × ℕ) At) (before : List X)
    (at : ℕ)
    (found : Result (Next X) Cause)
    → ((x : X) (after : ℕ) → found ≡ Ok (Item x after)
    → r (before ++ x ∷ []) after ≡ s (before ++ x ∷ []) after)
    → first_step r before at found ≡ first_step s before at found
first-step-same r s before at (Err cause) h = refl
first-step-same r s before at (Ok (End after)) h = refl
first-step-same r s before at (Ok (Item x after)) h = rw (h x after refl) refl

-- all sufficient numbers of steps give the same result
pub items_within-enough : {X : Type 0} (end : ℕ) (step : List X → ℕ → Result (Next X) Cause)
    → Advances end step
    → (n m : ℕ) (before : List X) (at : ℕ)
    → end ≤ at + n → end ≤ at + m → items_within (suc n) step before at
    ≡ items_within (suc m) step before at
items_within-enough end step adv zero zero before at hn hm = refl
items_within-enough end step adv zero (suc m) before at hn hm =
    items_within-suc zero step before at
    ∙ first-step-same (items_within zero step) (items_within (suc m) step) before at
    (step before at)
    (λ x after h. let k = adv before at x after h in absurd (omega arith))
    ∙ sym (items_within-suc (suc m) step before at)
items_within-enough end step adv (suc n) zero before at hn hm =
    items_within-suc (suc n) step before at
    ∙ first-step-same (items_within (suc n) step) (items_within zero step) before at
    (step before at)
    (λ x after h. let k = adv before at x after h in absurd (omega arith))
    ∙ sym (items_within-suc zero step before at)
items_within-enough end step adv (suc n) (suc m) before at hn hm =
    items_within-suc (suc n) step before at
    ∙ first-step-same (items_within (suc n) step) (items_within (suc m) step) before at
    (step before at)
    (λ x after h. let k = adv before at x after h in
    items_within-enough end step adv n m (before ++ x ∷ []) after
    (omega arith) (omega arith))
    ∙ sym (items_within-suc (suc m) step before at)

-- One step: the fault, the end, or an item and the items after it.
pub items_from-step : {X : Type 0} (end : ℕ) (step : List X → ℕ → Result (Next X) Cause)
    → Advances end step
    → (before : List X) (at : ℕ)
    → items_from end step before at ≡ first_step (items_from end step) before at (step before at)
items_from-step {X = X} end step adv before at =
    items_within-suc (end - at) step before at
    ∙ first-step-same (items_within (end - at) step) (items_from end step) before at
    (step before at)
    (λ x after h. let k = adv before at x after h in enough x after k (end - at) refl)
  where
    enough : (x : X) (after : ℕ) → (at < after) × (after ≤ end) → (n : ℕ) → end - at ≡ n
        → items_within n step (before ++ x ∷ []) after ≡ items_from end step (before ++ x ∷ [])
        after
    enough x after k zero is = absurd (omega arith)
    enough x after k (suc n) is =
        items_within-enough end step adv n (end - after) (before ++ x ∷ []) after (omega arith)
        (omega arith)

-- the items of a prefix, followed by the items of the rest
abbrev pub with_front : {X : Type 0} → List X → Result (List X × ℕ) At → Result (List X × ℕ) At
with_front front (Ok rest) = Ok (front ++ rest.0, rest.1)
with_front front (Err e) = Err e

pub with_front-item : {X : Type 0} (front : List X) (x : X) (rest : Result (List X × ℕ) At)
    → with_front front (put_front x rest) ≡ with_front (front ++ x ∷ []) rest
with_front-item front x (Ok rest) = ap (λ (all : List _). Ok (all, rest.1))
    (sym (append_assoc front (x ∷ []) rest.0))
with_front-item front x (Err e) = refl

-- The three outcomes of an iteration of a loop over items: the items so far, followed by the items
-- from here on.
pub loop-item : {X : Type 0} (end : ℕ) (step : List X → ℕ → Result (Next X) Cause)
    → Advances end step
    → (before : List X) (at : ℕ) (x : X) (after : ℕ)
    → step before at ≡ Ok (Item x after) → with_front before (items_from end step before at)
    ≡ with_front
    (before ++ x ∷ []) (items_from end step (before ++ x ∷ []) after)
loop-item end step adv before at x after is =
    rw (items_from-step end step adv before at, is)
    (with_front-item before x (items_from end step (before ++ x ∷ []) after))

pub loop-end : {X : Type 0} (end : ℕ) (step : List X → ℕ → Result (Next X) Cause)
    → Advances end step
    → (before : List X) (at after : ℕ)
    → step before at ≡ Ok (End after) → with_front before (items_from end step before at)
    ≡ Ok (before ++ [], after)
loop-end end step adv before at after is = rw (items_from-step end step adv before at, is) refl

pub loop-fault : {X : Type 0} (end : ℕ) (step : List X → ℕ → Result (Next X) Cause)
    → Advances end step
    → (before : List X) (at : ℕ) (cause : Cause)
    → step before at ≡ Err cause → with_front before (items_from end step before at)
    ≡ Err (cause, at)
loop-fault end step adv before at cause is = rw (items_from-step end step adv before at, is) refl

pub ok_same : {A : Type 0} (x y : A) → (let f : A → Result A At = λ z. Ok z in f x ≡ f y) → x ≡ y
ok_same x y h = cc

-- A list that is read satisfies the whole-list form.
pub Lists-within : {X : Type 0} (n : ℕ) (step : List X → ℕ → Result (Next X) Cause)
    (before : List X) (at : ℕ)
    (xs : List X) (after : ℕ)
    → items_within n step before at ≡ Ok (xs, after) → Lists step before at xs after
unfolding items_within
Lists-within zero step before at xs after h = cc
Lists-within {X = X} (suc n) step before at xs after h =
    by_result (λ (x : X) (mid : ℕ). Lists-within n step (before ++ x ∷ []) mid) (step before at)
    refl
    (sym (items_within-suc n step before at) ∙ h)
  where
    by_rest : (x : X) (mid : ℕ) → step before at ≡ Ok (Item x mid)
        → ((ys : List X) (last : ℕ) → items_within n step (before ++ x ∷ []) mid ≡ Ok (ys, last)
        → Lists step (before ++ x ∷ []) mid ys last)
        → (rest : Result (List X × ℕ) At) → items_within n step (before ++ x ∷ []) mid ≡ rest
        → put_front x rest ≡ Ok (xs, after) → Lists step before at xs after
    by_rest x mid is further (Err e) rest-is h = cc
    by_rest x mid is further (Ok others) rest-is h =
        let listed : Lists step before at (x ∷ others.0) others.1 =
        (mid, is, further others.0 others.1 rest-is) in
        let pairs : (x ∷ others.0, others.1) ≡ (xs, after) =
        ok_same (x ∷ others.0, others.1) (xs, after) h in
        let same : x ∷ others.0 ≡ xs = ap (λ (p : List X × ℕ). p.0) pairs in
        let last : others.1 ≡ after = ap (λ (p : List X × ℕ). p.1) pairs in
        subst (λ (ys : List X). Lists step before at ys after) same
        (subst (λ (k : ℕ). Lists step before at (x ∷ others.0) k) last listed)

    by_result : ((x : X) (mid : ℕ) (ys : List X) (last : ℕ)
        → items_within n step (before ++ x ∷ []) mid ≡ Ok (ys, last)
        → Lists step (before ++ x ∷ []) mid ys last)
        → (found : Result (Next X) Cause) → step before at ≡ found
        → first_step (items_within n step) before at found ≡ Ok (xs, after)
        → Lists step before at xs after
    by_result further (Err cause) is h = cc
    by_result further (Ok (End last)) is h =
        let pairs : ([], last) ≡ (xs, after) = ok_same ([], last) (xs, after) h in
        let same : [] ≡ xs = ap (λ (p : List X × ℕ). p.0) pairs in
        let last_is : last ≡ after = ap (λ (p : List X × ℕ). p.1) pairs in
        subst (λ (ys : List X). Lists step before at ys after) same
        (subst (λ (k : ℕ). step before at ≡ Ok (End k)) last_is is)
    by_result further (Ok (Item x mid)) is h =
        by_rest x mid is (further x mid) (items_within n step (before ++ x ∷ []) mid) refl h

-- A list that satisfies the whole-list form is read.
pub items_from-Lists : {X : Type 0} (end : ℕ) (step : List X → ℕ → Result (Next X) Cause)
    → Advances end step
    → (before : List X) (at : ℕ) (xs : List X) (after : ℕ)
    → Lists step before at xs after → items_from end step before at ≡ Ok (xs, after)
items_from-Lists end step adv before at [] after h =
    rw (items_from-step end step adv before at, h) refl
items_from-Lists end step adv before at (x ∷ xs) after h =
    rw (
      items_from-step end step adv before at,
      h.1,
      items_from-Lists end step adv
          (before ++ x ∷ []) h.0 xs after h.2,
    ) refl

-- A property that each step ensures holds for each item and the items before it.
pub Lists-each : {X : Type 0} (P : List X → X → Type 0) (step : List X → ℕ → Result (Next X) Cause)
    → ((before : List X) (at : ℕ) (x : X) (after : ℕ) → step before at ≡ Ok (Item x after)
    → P before x)
    → (before : List X) (at : ℕ) (xs : List X) (after : ℕ) → Lists step before at xs after
    → (i : ℕ) (d : X)
    → i < length xs → P (before ++ take i xs) (get_or xs i d)
Lists-each P step each before at [] after h i d in_range = absurd (omega arith)
Lists-each P step each before at (x ∷ xs) after h zero d in_range =
    rw append-nil (each before at x h.0 h.1)
Lists-each {X = X} P step each before at (x ∷ xs) after h (suc i) d in_range =
    let regrouped : (before ++ x ∷ []) ++ take i xs ≡ before ++ (x ∷ take i xs) =
    append_assoc before (x ∷ []) (take i xs) in
    subst (λ (ys : List X). P ys (get_or xs i d)) regrouped
    (Lists-each P step each (before ++ x ∷ []) h.0 xs after h.2 i d (omega arith))
