-- Two ascending lists of starts, merged.
use Rattle.std.proofs.Common.{◌≡◌, ℕ, zero, suc, ◌+◌, ◌<◌, ◌≤◌, List, [], ◌∷◌, ◌++◌, length, drop}
use Rattle.std.proofs.Common.{get_or, Bool, true, false, cond, refl, ap, sym, ◌∙◌, subst}
use Rattle.std.proofs.Common.{arith}
use Rattle.std.specs.Prelude.{nat_le, not}
use Rattle.std.specs.Int.{from_bool}
use Rattle.std.specs.List.{AllByRecursion}
use Rattle.std.specs.List.Sorted.{IsPermutation, IsNonDecreasingBy}
use Rattle.std.proofs.lemmas.Bool.Decides.{nat_tests}
use Rattle.std.proofs.lemmas.List.{drop_more}
use Rattle.std.proofs.lemmas.List.Elements.{All-from_recursion, recursion_from_All, All-append}
use Rattle.std.proofs.lemmas.List.Sorted.{IsPermutation-refl, IsPermutation-trans}
use Rattle.std.proofs.lemmas.List.Sorted.{IsPermutation-cons, IsPermutation-middle, All-permutation}
use Rattle.addr_table.specs.declared.starts.Start.{Start}
use Rattle.addr_table.specs.Private.Merged.{merged_from, merged, IsMerging}
use Rattle.addr_table.specs.Private.Merged.{IsHead, IsNextIn, Cursor}
use Rattle.addr_table.proofs.Scanning.Lists.{each-weaker, in-front}

-- ---- the same starts

from-permutation : (x : Start) (rest : List Start → List Start) (xs : List Start)
    → ((ys : List Start) → IsPermutation (xs ++ ys) (rest ys)) → (ys : List Start)
    → IsPermutation (x ∷ (xs ++ ys)) (merged_from x rest ys)
from-permutation x rest xs h [] = IsPermutation-cons x _ _ (h [])
from-permutation x rest xs h (y ∷ ys) = by_order (nat_le x.at y.at)
    (from-permutation x rest xs h ys)
  where
    by_order : (b : Bool) → IsPermutation (x ∷ (xs ++ ys)) (merged_from x rest ys)
        → IsPermutation (x ∷ (xs ++ y ∷ ys))
        (cond b (x ∷ rest (y ∷ ys)) (y ∷ merged_from x rest ys))
    by_order true later = IsPermutation-cons x _ _ (h (y ∷ ys))
    by_order false later = IsPermutation-trans _ _ _ (IsPermutation-middle (x ∷ xs) y ys)
        (IsPermutation-cons y _ _ later)

pub merged-permutation : (xs ys : List Start) → IsPermutation (xs ++ ys) (merged xs ys)
merged-permutation [] ys = IsPermutation-refl ys
merged-permutation (x ∷ xs) ys = from-permutation x (merged xs) xs (merged-permutation xs) ys

merged-all : (P : Start → Type 0) (xs ys : List Start) → AllByRecursion P xs → AllByRecursion P ys
    → AllByRecursion P (merged xs ys)
merged-all P xs ys a b =
    recursion_from_All P (merged xs ys)
    (All-permutation P (xs ++ ys) (merged xs ys) (merged-permutation xs ys)
    (All-append P xs ys (All-from_recursion P xs a) (All-from_recursion P ys b)))

-- ---- their order

abbrev From : ℕ → List Start → Type 0
From n ends = AllByRecursion (λ (e : Start). n ≤ e.at) ends

abbrev Rise : List Start → Type 0
Rise [] = Unit {0}
Rise (e ∷ ends) = From e.at ends × Rise ends

further : (m n : ℕ) (ends : List Start) → m ≤ n → From n ends → From m ends
further m n ends le h =
    each-weaker (λ (e : Start). n ≤ e.at) (λ (e : Start). m ≤ e.at) (λ e k. omega (arith, le, k))
    ends h

rise-of : (ends : List Start) → IsNonDecreasingBy (λ (e : Start). e.at) ends → Rise ends
rise-of [] h = tt
rise-of (e ∷ ends) h = (
  recursion_from_All (λ (x : Start). e.at ≤ x.at) ends
      (λ k d lt. h 0 (suc k) d (omega arith) (omega (arith, lt))),
  rise-of ends (λ i j d le lt. h (suc i) (suc j) d (omega (arith, le)) (omega (arith, lt))),
)

from-rise : (ends : List Start) → Rise ends → IsNonDecreasingBy (λ (e : Start). e.at) ends
from-rise [] h i j d le lt = absurd (omega (arith, lt))
from-rise (e ∷ ends) h zero zero d le lt = omega arith
from-rise (e ∷ ends) h zero (suc j) d le lt =
    All-from_recursion (λ (x : Start). e.at ≤ x.at) ends h.0 j d (omega (arith, lt))
from-rise (e ∷ ends) h (suc i) zero d le lt = absurd (omega (arith, le))
from-rise (e ∷ ends) h (suc i) (suc j) d le lt =
    from-rise ends h.1 i j d (omega (arith, le)) (omega (arith, lt))

-- one more start of the first list
from-rises : (x : Start) (xs : List Start) → From x.at xs
    → ((ys : List Start) → Rise ys → Rise (merged xs ys))
    → (ys : List Start) → Rise ys → Rise (merged (x ∷ xs) ys)
from-rises x xs first later [] hy = (
  merged-all (λ (e : Start). x.at ≤ e.at) xs [] first tt,
  later [] tt,
)
from-rises x xs first later (y ∷ ys) hy = by_order (nat_le x.at y.at) refl
    (from-rises x xs first later ys hy.1)
  where
    by_order : (b : Bool) → nat_le x.at y.at ≡ b → Rise (merged (x ∷ xs) ys)
        → Rise (cond b (x ∷ merged xs (y ∷ ys)) (y ∷ merged (x ∷ xs) ys))
    by_order true is rest =
        let le : x.at ≤ y.at = grind (arith, nat_tests) in (
          merged-all (λ (e : Start). x.at ≤ e.at) xs (y ∷ ys) first
              (le, further x.at y.at ys le hy.0),
          later (y ∷ ys) hy,
        )
    by_order false is rest =
        let lt : y.at ≤ x.at = grind (arith, nat_tests) in (
          merged-all (λ (e : Start). y.at ≤ e.at) (x ∷ xs) ys
              (lt, further y.at x.at xs lt first) hy.0,
          rest,
        )

rises : (xs ys : List Start) → Rise xs → Rise ys → Rise (merged xs ys)
rises [] ys hx hy = hy
rises (x ∷ xs) ys hx hy = from-rises x xs hx.0 (λ zs h. rises xs zs hx.1 h) ys hy

pub merged-rises : (xs ys : List Start) → IsNonDecreasingBy (λ (e : Start). e.at) xs
    → IsNonDecreasingBy (λ (e : Start). e.at) ys
    → IsNonDecreasingBy (λ (e : Start). e.at) (merged xs ys)
merged-rises xs ys hx hy = from-rise (merged xs ys) (rises xs ys (rise-of xs hx) (rise-of ys hy))

-- ---- the next start

-- at the front of both lists
first-row : (x : Start) (xs ys : List Start) → ((y : Start) (later : List Start) → ys ≡ y ∷ later
    → x.at ≤ y.at)
    → merged (x ∷ xs) ys ≡ x ∷ merged xs ys
first-row x xs [] low = refl
first-row x xs (y ∷ ys) low =
    let le : x.at ≤ y.at = low y ys refl in
    let is : nat_le x.at y.at ≡ true = grind (arith, nat_tests) in rw is refl

first-scope : (xs : List Start) (y : Start) (ys : List Start) → ((x : Start) (later : List Start)
    → xs ≡ x ∷ later → y.at < x.at)
    → merged xs (y ∷ ys) ≡ y ∷ merged xs ys
first-scope [] y ys low = refl
first-scope (x ∷ xs) y ys low =
    let lt : y.at < x.at = low x xs refl in
    let is : nat_le x.at y.at ≡ false = grind (arith, nat_tests) in rw is refl

-- one more start of the rows is taken
pub row-first : (rows scopes : List Start) (row scope : ℕ) (e : Start)
    → row < length rows → ((d : Start) → e ≡ get_or rows row d)
    → ((d : Start) → scope < length scopes → e.at ≤ (get_or scopes scope d).at)
    → merged (drop row rows) (drop scope scopes) ≡ e ∷ merged (drop (row + 1) rows)
    (drop scope scopes)
row-first rows scopes row scope e lt is low =
    ap (λ (xs : List Start). merged xs (drop scope scopes))
    (drop_more rows row e lt ∙ ap (λ (x : Start). x ∷ drop (row + 1) rows) (sym (is e)))
    ∙ first-row e (drop (row + 1) rows) (drop scope scopes) before
  where
    before : (y : Start) (later : List Start) → drop scope scopes ≡ y ∷ later → e.at ≤ y.at
    before y later in_it =
        let front = in-front scopes scope y later y in_it in
        let A : Start → Type 0 = λ z. e.at ≤ z.at in
        subst A front.1 (low y front.0)

-- .. or of the scopes
pub scope-first : (rows scopes : List Start) (row scope : ℕ) (e : Start)
    → scope < length scopes → ((d : Start) → e ≡ get_or scopes scope d)
    → ((d : Start) → row < length rows → e.at < (get_or rows row d).at)
    → merged (drop row rows) (drop scope scopes) ≡ e ∷ merged (drop row rows)
    (drop (scope + 1) scopes)
scope-first rows scopes row scope e lt is low =
    ap (merged (drop row rows))
    (drop_more scopes scope e lt ∙ ap (λ (x : Start). x ∷ drop (scope + 1) scopes) (sym (is e)))
    ∙ first-scope (drop row rows) e (drop (scope + 1) scopes) before
  where
    before : (x : Start) (later : List Start) → drop row rows ≡ x ∷ later → e.at < x.at
    before x later in_it =
        let front = in-front rows row x later x in_it in
        let A : Start → Type 0 = λ z. e.at < z.at in
        subst A front.1 (low x front.0)

-- ---- a cursor

pub head-next : (c : Cursor) (e : Start) (is_row : Bool) → IsMerging c.rows c.scopes c.row c.scope
    → IsHead c e is_row → IsNextIn c e
head-next c e true m h =
    let front = λ (d : Start). in-front (merged c.rows c.scopes) (c.row + c.scope) e _ d
    (m.left ∙ row-first c.rows c.scopes c.row c.scope e h.0 h.1 h.2) in
    record { within = (front e).0; here = λ d. (front d).1 }
head-next c e false m h =
    let front = λ (d : Start). in-front (merged c.rows c.scopes) (c.row + c.scope) e _ d
    (m.left ∙ scope-first c.rows c.scopes c.row c.scope e h.0 h.1 h.2) in
    record { within = (front e).0; here = λ d. (front d).1 }

pub row-taken : (c : Cursor) (e : Start) (is_row : Bool) (row : ℕ)
    → IsMerging c.rows c.scopes c.row c.scope → IsHead c e is_row → is_row ≡ true
    → row ≡ c.row + 1 → IsMerging c.rows c.scopes row c.scope
row-taken c e is_row row m kind one is =
    let h : IsHead c e true = subst (IsHead c e) one kind in
    let rest = (in-front (merged c.rows c.scopes) (c.row + c.scope) e _ e
    (m.left ∙ row-first c.rows c.scopes c.row c.scope e h.0 h.1 h.2)).2 in
    let sum : row + c.scope ≡ c.row + c.scope + 1 = omega (arith, is) in
    record {
      rows_rise = m.rows_rise;
      scopes_rise = m.scopes_rise;
      row_within = omega (arith, is, h.0);
      scope_within = m.scope_within;
      left = ap (λ n. drop n (merged c.rows c.scopes)) sum ∙ rest
          ∙ ap (λ n. merged (drop n c.rows) (drop c.scope c.scopes)) (sym is);
    }

pub scope-taken : (c : Cursor) (e : Start) (is_row : Bool) (scope : ℕ)
    → IsMerging c.rows c.scopes c.row c.scope → IsHead c e is_row → is_row ≡ false
    → scope ≡ c.scope + 1 → IsMerging c.rows c.scopes c.row scope
scope-taken c e is_row scope m kind other is =
    let h : IsHead c e false = subst (IsHead c e) other kind in
    let rest = (in-front (merged c.rows c.scopes) (c.row + c.scope) e _ e
    (m.left ∙ scope-first c.rows c.scopes c.row c.scope e h.0 h.1 h.2)).2 in
    let sum : c.row + scope ≡ c.row + c.scope + 1 = omega (arith, is) in
    record {
      rows_rise = m.rows_rise;
      scopes_rise = m.scopes_rise;
      row_within = m.row_within;
      scope_within = omega (arith, is, h.0);
      left = ap (λ n. drop n (merged c.rows c.scopes)) sum ∙ rest
          ∙ ap (λ n. merged (drop c.row c.rows) (drop n c.scopes)) (sym is);
    }

-- .. or of the list that the start is of
pub one-taken : (c : Cursor) (e : Start) (is_row : Bool) (row scope : ℕ)
    → IsMerging c.rows c.scopes c.row c.scope → IsHead c e is_row
    → row ≡ c.row + from_bool is_row → scope ≡ c.scope + from_bool (not is_row)
    → IsMerging c.rows c.scopes row scope
one-taken c e true row scope m h r s =
    let same : c.scope ≡ scope = omega (arith, s) in
    subst (λ n. IsMerging c.rows c.scopes row n) same (row-taken c e true row m h refl r)
one-taken c e false row scope m h r s =
    let same : c.row ≡ row = omega (arith, r) in
    subst (λ n. IsMerging c.rows c.scopes n scope) same (scope-taken c e false scope m h refl s)

pub one-counted : (is_row : Bool) → from_bool is_row + from_bool (not is_row) ≡ 1
one-counted true = refl
one-counted false = refl
