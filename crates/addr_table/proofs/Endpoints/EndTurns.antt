-- The endpoints after those that were processed.
use Rattle.std.proofs.Common.{◌≡◌, ◌⊎◌, ℕ, ◌+◌, ◌-◌, ◌<◌, ◌≤◌, List, [], ◌∷◌, length, take}
use Rattle.std.proofs.Common.{drop, get_or, Bool, true, false, ◌||◌}
use Rattle.std.proofs.Common.{refl, ap, sym, ◌∙◌, subst, inl, inr, arith}
use Rattle.std.specs.Prelude.{◌==◌, nat_le, nat_lt, filter, sum_by}
use Rattle.std.specs.List.{AllByRecursion, All, list_any}
use Rattle.std.proofs.lemmas.Bool.{cases_lt, cases_eq, false≢true}
use Rattle.std.proofs.lemmas.Bool.Decides.{nat_tests}
use Rattle.std.proofs.lemmas.List.{length-drop}
use Rattle.std.proofs.lemmas.List.Elements.{All-from_recursion, recursion_from_All}
use Rattle.std.proofs.lemmas.List.Sums.{sum_by-cons}
use Rattle.dwarf_lines.specs.declared.row.Row.{Row}
use Rattle.dwarf_entries.specs.Scopes.{Scope}
use Rattle.addr_table.specs.declared.open_ends.End.{End}
use Rattle.addr_table.specs.declared.starts.Start.{Start}
use Rattle.addr_table.specs.Segments.{ranges_of, ends_of}
use Rattle.addr_table.specs.Private.Sweep.{reaches_of, AreStarts, AreOpen, Closes}
use Rattle.addr_table.specs.Private.Sweep.{UpTo, Above, IsNext}
use Rattle.addr_table.proofs.Searching.SegmentListLaws.{ends_rise}
use Rattle.addr_table.proofs.Endpoints.RangeEnds.{above-next, first-next}
use Rattle.addr_table.proofs.Endpoints.RangeEnds.{none-next}
use Rattle.addr_table.proofs.Endpoints.SumLaws.{one-if}
use Rattle.addr_table.proofs.Endpoints.OpenLaws.{started-each, started-from, le-true}
use Rattle.addr_table.proofs.Endpoints.EndLaws.{all-ends}
use Rattle.addr_table.proofs.Endpoints.NextEnds.{all-parts, at-above, next-among, next-above}
use Rattle.addr_table.proofs.Endpoints.NextEnds.{later-starts}

-- Closing makes the list of open ends shorter if one of them is at the address.
closes-fewer : (f : ℕ) (ends ends' : List End) → Closes f ends ends'
    → (length ends' ≤ length ends) × (list_any (λ e. e.at == f) ends ≡ true
    → length ends' < length ends)
closes-fewer f ends ends' closes =
    let same : length ends' ≡ sum_by (λ (e : End). one-if (nat_lt f e.at)) ends =
    sym (sum-ones ends') ∙ closes (λ e. 1) in
    let parts = counted ends in
    (omega (arith, same, parts.0), λ is. omega (arith, same, parts.1 is))
  where
    sum-ones : (es : List End) → sum_by (λ (e : End). 1) es ≡ length es
    sum-ones [] = refl
    sum-ones (e ∷ es) =
        let a : sum_by (λ (e : End). 1) (e ∷ es) ≡ 1 + sum_by (λ (e : End). 1) es =
        sum_by-cons (λ (e : End). 1) e es in
        let b = sum-ones es in omega arith

    one : (b : Bool) → one-if b ≤ 1
    one true = omega arith
    one false = omega arith

    counted : (es : List End)
        → (sum_by (λ (e : End). one-if (nat_lt f e.at)) es ≤ length es)
        × (list_any (λ e. e.at == f) es ≡ true
        → sum_by (λ (e : End). one-if (nat_lt f e.at)) es < length es)
    counted [] = (omega arith, λ h. absurd (false≢true h))
    counted (e ∷ es) =
        let a : sum_by (λ (e : End). one-if (nat_lt f e.at)) (e ∷ es)
        ≡ one-if (nat_lt f e.at) + sum_by (λ (e : End). one-if (nat_lt f e.at)) es =
        sum_by-cons (λ (e : End). one-if (nat_lt f e.at)) e es in
        let rest = counted es in
        let most = rest.0 in
        let b = one (nat_lt f e.at) in (
          omega arith,
          λ is. elim (cases_eq e.at f) [
            | inl same ↦
                let no : nat_lt f e.at ≡ false = grind (arith, nat_tests) in
                let none : one-if (nat_lt f e.at) ≡ 0 = ap one-if no in
                omega (arith, a, none, most)
            | inr other ↦
                let no : (e.at == f) ≡ false = grind (arith, nat_tests) in
                let fewer = rest.1 (later (e.at == f) no is) in omega (arith, a, b, fewer)
          ],
        )
      where
        later : (b : Bool) → b ≡ false → (b || list_any (λ (e : End). e.at == f) es) ≡ true
            → list_any (λ (e : End). e.at == f) es ≡ true
        later true is h = absurd (false≢true (sym is))
        later false is h = h

-- the endpoints at the next address are processed: a range starts, or one ends
pub moves-on : (starts : List Start) (p p' e : ℕ) (ends ends' ends'' : List End)
    → IsNext starts ends p e → Closes e ends ends' → Above e (drop p' starts) → p ≤ p'
    → length ends'' + p ≤ length ends' + p' → p' ≤ length starts
    → (length starts - p') + (length starts - p') + length ends''
    < (length starts - p) + (length starts - p) + length ends
moves-on starts p p' e ends ends' ends'' next closes high more fewer within =
    let shorter = closes-fewer e ends ends' closes in
    elim next.there [
      | inl s ↦ elim (cases_lt p p') [
        | inl lt ↦ omega (arith, lt, fewer, within, shorter.0)
        | inr ge ↦
            let same : p' ≡ p = omega (arith, ge, more) in
            let A : ℕ → Type 0 = λ n. Above e (drop n starts) in
            let never : e < e = at-above starts p e e (subst A same high) s.0 s.1 in
            absurd (omega (arith, never))
      ]
      | inr c ↦ omega (arith, more, fewer, within, shorter.1 c)
    ]

-- the endpoints above the last processed one
pub later-ends : (rows : List Row) (scopes : List Scope) (starts : List Start) (p e f : ℕ)
    (ends : List End)
    → AreStarts (reaches_of rows scopes) starts → UpTo e (take p starts)
    → Above e (drop p starts) → AreOpen starts p (e + 1) ends → IsNext starts ends p f
    → filter (λ x. nat_lt e x) (ends_of (ranges_of rows scopes)) ≡ f
    ∷ filter (λ x. nat_lt f x) (ends_of (ranges_of rows scopes))
later-ends rows scopes starts p e f ends h low high o next =
    let P : ℕ → Type 0 = λ x. (x ≤ e) ⊎ (f ≤ x) in
    let S : Start → Type 0 = λ s. P s.at × P s.to in
    let T : Start → Type 0 = λ s. (s.to < e + 1) ⊎ (f ≤ s.to) in
    let tos : All T (take p starts) =
    All-from_recursion T (take p starts) (started-from starts p (e + 1) f ends o
    (recursion_from_All (λ (c : End). f ≤ c.at) ends next.ends_from)) in
    let first : All S (take p starts) = λ k d lt. (
      inl (low k d lt),
      elim (tos k d lt) [ inl below ↦ inl (omega (arith, below)) | inr from ↦ inr from ],
    ) in
    let later : All S (drop p starts) = λ k d lt.
    let both = later-starts rows scopes starts p f ends h next k d lt in (inr both.0, inr both.1) in
    above-next e f (ends_of (ranges_of rows scopes)) (ends_rise (ranges_of rows scopes))
    (next-among rows scopes starts p (e + 1) f ends h o next)
    (next-above starts p e f ends high o next)
    (all-ends P rows scopes starts h (all-parts S p starts first later))

-- the first endpoint
pub first-ends : (rows : List Row) (scopes : List Scope) (starts : List Start) (f : ℕ)
    → AreStarts (reaches_of rows scopes) starts → IsNext starts [] 0 f
    → ends_of (ranges_of rows scopes) ≡ f
    ∷ filter (λ x. nat_lt f x) (ends_of (ranges_of rows scopes))
first-ends rows scopes starts f h next =
    first-next f (ends_of (ranges_of rows scopes)) (ends_rise (ranges_of rows scopes))
    (next-among rows scopes starts 0 0 f [] h (λ g. refl) next)
    (all-ends (λ x. f ≤ x) rows scopes starts h (later-starts rows scopes starts 0 f [] h next))

-- no endpoint is left
pub no-ends : (rows : List Row) (scopes : List Scope) (starts : List Start) (p e : ℕ)
    (ends : List End) → AreStarts (reaches_of rows scopes) starts → UpTo e (take p starts)
    → AreOpen starts p (e + 1) ends → length starts ≤ p → ends ≡ []
    → filter (λ x. nat_lt e x) (ends_of (ranges_of rows scopes)) ≡ []
no-ends rows scopes starts p e ends h low o past none =
    let S : Start → Type 0 = λ s. (s.at ≤ e) × (s.to ≤ e) in
    let T : Start → Type 0 = λ s. nat_le (e + 1) s.to ≡ true → false ≡ true in
    let closed : AllByRecursion (λ (c : End). false ≡ true) ends =
    subst (λ cs. AllByRecursion (λ (c : End). false ≡ true) cs) (sym none) tt in
    let tos : All T (take p starts) =
    All-from_recursion T (take p starts)
    (started-each (λ n. false) starts p (e + 1) ends o closed) in
    none-next e (ends_of (ranges_of rows scopes))
    (all-ends (λ x. x ≤ e) rows scopes starts h
    (all-parts S p starts
    (λ k d lt. (
      low k d lt,
      elim (cases_lt (get_or (take p starts) k d).to (e + 1)) [
        | inl below ↦ omega (arith, below)
        | inr from ↦ absurd (false≢true (tos k d lt (le-true (e + 1) _ from)))
      ],
    ))
    (λ k d lt. let len : length (drop p starts) ≡ length starts - p = length-drop p starts in
    absurd (omega (arith, lt, len, past)))))

-- there are no endpoints at all
pub never-ends : (rows : List Row) (scopes : List Scope) (starts : List Start)
    → AreStarts (reaches_of rows scopes) starts → length starts ≤ 0
    → ends_of (ranges_of rows scopes) ≡ []
never-ends rows scopes starts h none =
    empty (ends_of (ranges_of rows scopes))
    (all-ends (λ x. ⊥) rows scopes starts h (λ k d lt. absurd (omega arith)))
  where
    empty : (xs : List ℕ) → AllByRecursion (λ x. ⊥) xs → xs ≡ []
    empty [] h = refl
    empty (x ∷ xs) h = absurd h.0
