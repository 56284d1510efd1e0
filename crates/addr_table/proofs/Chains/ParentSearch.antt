-- The search for the parent of a scope.
use Rattle.std.proofs.Common.{◌≡◌, ◌∙◌, ℕ, zero, suc, ◌+◌, ◌<◌, ◌≤◌, List, [], ◌∷◌, ◌++◌}
use Rattle.std.proofs.Common.{length, get_or, Bool, true, false, cond, ◌&&◌, refl, ap}
use Rattle.std.proofs.Common.{subst, arith, append-nil, zero-add}
use Rattle.std.specs.Prelude.{nat_lt, nat_le, filter}
use Rattle.std.proofs.lemmas.Bool.Decides.{nat_tests}
use Rattle.std.proofs.lemmas.List.Elements.{filter-append}
use Rattle.dwarf_entries.specs.Scopes.{Scope}
use Rattle.dwarf_entries.specs.Order.{AreNumbered, AreNested, AreInOrder}
use Rattle.addr_table.proofs.Chains.ChainWalks.{no_scope}
use Rattle.addr_table.specs.Chains.{encloses, enclosing}
use Rattle.addr_table.specs.Private.Parents.{enclosing_at, IsParent, AreParents}
use Rattle.addr_table.proofs.Elements.{each-at}
use Rattle.addr_table.proofs.Chains.ParentLaws.{ends_past, later-enclose, is_before, itself-last}
use Rattle.addr_table.proofs.Chains.ParentLaws.{enclosing_at-before}

-- ---- the state of the search: the scopes that enclose scope i are scope i itself, and the
-- candidate and its enclosing scopes that end after i. `code` is 1 + the number of the candidate,
-- or 0 for none.

pub record IsCandidate (scopes : List Scope) (i code : ℕ) : Type 0 where
  pub within : code ≤ i
  pub rest : (d : Scope) → enclosing i scopes ≡ filter (ends_past i) (enclosing_at scopes code)
      ++ get_or scopes i d ∷ []

pub candidate-first : (scopes : List Scope) (i : ℕ) → AreInOrder scopes → i < length scopes
    → IsCandidate scopes i i
candidate-first scopes i order lt = record {
  within = omega arith;
  rest =
      λ d. subst (λ n. enclosing n scopes ≡ filter (is_before n) scopes ++ get_or scopes i d ∷ [])
      (zero-add i)
      (itself-last 0 (length scopes) i scopes d order.numbered lt)
      ∙ ap (λ (zs : List Scope). zs ++ get_or scopes i d ∷ [])
      (enclosing_at-before i scopes (length scopes) order.numbered);
}

pub candidate-parent : (scopes : List Scope) (i k code : ℕ) (d : Scope)
    → IsCandidate scopes i (suc k)
    → k < length scopes
    → IsParent scopes k code → (get_or scopes k d).«end» ≤ i → IsCandidate scopes i code
candidate-parent scopes i k code d h lt parent ends =
    let inside : suc k ≤ i = h.within in
    let low : code ≤ k = parent.code_is in
    let out : ends_past i (get_or scopes k d) ≡ false = past i (get_or scopes k d).«end» ends in
    let one : filter (ends_past i) (get_or scopes k d ∷ []) ≡ [] = rw out refl in
    let same : filter (ends_past i) (enclosing k scopes)
    ≡ filter (ends_past i) (enclosing_at scopes code) =
    ap (filter (ends_past i)) (parent.enclosing_is d)
    ∙ (filter-append (ends_past i) (enclosing_at scopes code) (get_or scopes k d ∷ [])
    ∙ (ap (λ (zs : List Scope). filter (ends_past i) (enclosing_at scopes code) ++ zs) one
    ∙ append-nil
    (filter (ends_past i) (enclosing_at scopes code)))) in
    record {
      within = omega arith;
      rest =
          λ e. h.rest e ∙ ap (λ (zs : List Scope). zs ++ get_or scopes i e ∷ []) same;
    }
  where
    past : (i e : ℕ) → e ≤ i → nat_lt i e ≡ false
    past i e le = grind (arith, nat_tests)

pub number-there : (m total k : ℕ) (xs : List Scope) (d : Scope) → AreNumbered m total xs
    → k < length xs → (get_or xs k d).number ≡ m + k
number-there m total k [] d h lt = absurd (omega arith)
number-there m total zero (s ∷ xs) d h lt = let a : s.number ≡ m = h.0 in omega arith
number-there m total (suc k) (s ∷ xs) d h lt =
    let r : (get_or xs k d).number ≡ suc m + k =
    number-there (suc m) total k xs d h.3 (omega arith) in omega arith

-- the scopes that enclose a scope end no earlier than it
all-past : (m total k i : ℕ) (xs : List Scope) (d : Scope) → AreNumbered m total xs → AreNested xs
    → k < length xs
    → i < (get_or xs k d).«end» → filter (ends_past i) (enclosing (m + k) xs) ≡ enclosing (m + k) xs
all-past m total k i [] d h n lt past = refl
all-past m total zero i (s ∷ xs) d h n lt past =
    let a : s.number ≡ m = h.0 in
    let b : m < s.«end» = h.1 in
    let t : encloses (m + zero) s ≡ true =
    both s.number (m + zero) s.«end» (omega arith) (omega arith) in
    let u : ends_past i s ≡ true = ends i s.«end» past in
    rw (t, later-enclose (suc m) total (m + zero) xs h.3 (omega arith), u) refl
  where
    both : (n i e : ℕ) → n ≤ i → i < e → (nat_le n i && nat_lt i e) ≡ true
    both n i e x y = grind (arith, nat_tests)

    ends : (i e : ℕ) → i < e → nat_lt i e ≡ true
    ends i e lt = grind (arith, nat_tests)
all-past m total (suc k) i (s ∷ xs) d h n lt past =
    let e : suc m + k ≡ m + suc k = omega arith in
    let P : ℕ → Type 0 = λ j. filter (ends_past i) (enclosing j xs) ≡ enclosing j xs in
    let rest : P (m + suc k) = subst P e
    (all-past (suc m) total k i xs d h.3 n.1 (omega arith) past) in
    cases (encloses (m + suc k) s) refl rest
  where
    inner : (a b i : ℕ) (c : Bool) → (c && nat_lt a b) ≡ true → a < b
    inner a b i c h = grind (arith, nat_tests)

    ends : (i e : ℕ) → i < e → nat_lt i e ≡ true
    ends i e lt = grind (arith, nat_tests)

    wide : encloses (m + suc k) s ≡ true → ends_past i s ≡ true
    wide t =
        let there : (get_or xs k d).number ≡ suc m + k =
        number-there (suc m) total k xs d h.3 (omega arith) in
        let inside : m + suc k < s.«end» =
        inner (m + suc k) s.«end» i (nat_le s.number (m + suc k)) t in
        let within : (get_or xs k d).number < s.«end» → (get_or xs k d).«end» ≤ s.«end» =
        each-at (λ t. t.number < s.«end» → t.«end» ≤ s.«end») xs k d n.0 (omega arith) in
        let le : (get_or xs k d).«end» ≤ s.«end» = within (omega arith) in
        ends i s.«end» (omega arith)

    cases : (b : Bool) → encloses (m + suc k) s ≡ b
        → filter (ends_past i) (enclosing (m + suc k) xs) ≡ enclosing (m + suc k) xs
        → filter (ends_past i) (cond b (s ∷ enclosing (m + suc k) xs) (enclosing (m + suc k) xs))
        ≡ cond b (s ∷ enclosing (m + suc k) xs)
        (enclosing (m + suc k) xs)
    cases true t rest = rw (wide t) (ap (λ (zs : List Scope). s ∷ zs) rest)
    cases false t rest = rest

pub candidate-found : (scopes : List Scope) (i k : ℕ) (d : Scope) → AreInOrder scopes
    → IsCandidate scopes i (suc k) → k < length scopes
    → i < (get_or scopes k d).«end» → IsParent scopes i (suc k)
candidate-found scopes i k d order h lt past =
    let all : filter (ends_past i) (enclosing_at scopes (suc k)) ≡ enclosing_at scopes (suc k) =
    subst (λ n. filter (ends_past i) (enclosing n scopes) ≡ enclosing n scopes) (zero-add k)
    (all-past 0 (length scopes) k i scopes d order.numbered order.nested lt past) in
    record {
      code_is = h.within;
      enclosing_is =
          λ e. h.rest e ∙ ap (λ (zs : List Scope). zs ++ get_or scopes i e ∷ []) all;
    }

-- ---- one parent more

-- ---- the same for the ends of the program

-- candidate k does not enclose scope i, so the search continues with its parent
pub search-step : (scopes : List Scope) (codes : List ℕ) (i k past : ℕ)
    → AreParents scopes codes → length codes ≡ i → i < length scopes → IsCandidate scopes i (suc k)
    → ((d : Scope) → past ≡ (get_or scopes k d).«end») → past ≤ i
    → IsCandidate scopes i (get_or codes k 0)
search-step scopes codes i k past parents len lt h is ends =
    let within : suc k ≤ i = h.within in
    let over : past ≡ (get_or scopes k no_scope).«end» = is no_scope in
    candidate-parent scopes i k (get_or codes k 0) no_scope h (omega arith)
    (parents k (omega arith)) (omega arith)

pub search-stop : (scopes : List Scope) (i k past : ℕ) → AreInOrder scopes → i < length scopes
    → IsCandidate scopes i (suc k) → ((d : Scope) → past ≡ (get_or scopes k d).«end») → i < past
    → IsParent scopes i (suc k)
search-stop scopes i k past order lt h is beyond =
    let within : suc k ≤ i = h.within in
    let under : past ≡ (get_or scopes k no_scope).«end» = is no_scope in
    candidate-found scopes i k no_scope order h (omega arith) (omega arith)

pub search-start : (scopes : List Scope) (i : ℕ) → AreInOrder scopes → i < length scopes
    → IsCandidate scopes i i
search-start scopes i order lt = candidate-first scopes i order lt
