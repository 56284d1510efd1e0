-- The next endpoint after p starts.
use Rattle.std.proofs.Common.{◌≡◌, ℕ, ◌+◌, ◌-◌, ◌<◌, ◌≤◌, List, [], ◌∷◌, length, take}
use Rattle.std.proofs.Common.{drop, get_or, Bool, true, false, ◌||◌, zero, suc}
use Rattle.std.proofs.Common.{refl, sym, subst, inl, inr, arith}
use Rattle.std.specs.Prelude.{◌==◌, nat_le}
use Rattle.std.specs.List.{AllByRecursion, All, list_any}
use Rattle.std.specs.List.Sorted.{IsNonDecreasingBy}
use Rattle.std.proofs.lemmas.Bool.{cases_eq, false≢true}
use Rattle.std.proofs.lemmas.Bool.Decides.{nat_tests}
use Rattle.std.proofs.lemmas.List.{take-append-drop, get_or-drop, length-drop}
use Rattle.std.proofs.lemmas.List.Elements.{recursion_from_All, All-append}
use Rattle.std.proofs.lemmas.List.Elements.{All-get_or, All-weaker}
use Rattle.dwarf_lines.specs.declared.row.Row.{Row}
use Rattle.dwarf_entries.specs.Scopes.{Scope}
use Rattle.addr_table.specs.declared.open_ends.End.{End}
use Rattle.addr_table.specs.declared.starts.Start.{Start}
use Rattle.addr_table.specs.Segments.{ranges_of, ends_of}
use Rattle.addr_table.specs.Private.Sweep.{reaches_of, AreStarts, AreOpen}
use Rattle.addr_table.specs.Private.Sweep.{Above, IsNext}
use Rattle.addr_table.proofs.Scanning.Lists.{each-weaker}
use Rattle.addr_table.proofs.Searching.SegmentListLaws.{IsAmong}
use Rattle.addr_table.proofs.Endpoints.OpenEndLaws.{any-at}
use Rattle.addr_table.proofs.Endpoints.OpenLaws.{open-each, open-from}
use Rattle.addr_table.proofs.Endpoints.EndLaws.{each-start}

-- what holds for the processed starts and for the rest holds for all
pub all-parts : (P : Start → Type 0) (p : ℕ) (starts : List Start) → All P (take p starts)
    → All P (drop p starts) → All P starts
all-parts P p starts a b =
    let L : List Start → Type 0 = λ es. All P es in
    subst L (take-append-drop p starts) (All-append P (take p starts) (drop p starts) a b)

-- the starts from the next one on are not below it
pub rest-from : (starts : List Start) (p f : ℕ) → IsNonDecreasingBy (λ (e : Start). e.at) starts
    → ((d : Start) → p < length starts → f ≤ (get_or starts p d).at)
    → All (λ (e : Start). f ≤ e.at) (drop p starts)
rest-from starts p f rise first k d lt =
    let len : length (drop p starts) ≡ length starts - p = length-drop p starts in
    let here : get_or (drop p starts) k d ≡ get_or starts (p + k) d = get_or-drop p starts k d in
    let later : (get_or starts p d).at ≤ (get_or starts (p + k) d).at =
    rise p (p + k) d (omega arith) (omega arith) in
    let started : f ≤ (get_or starts p d).at = first d (omega arith) in
    let P : Start → Type 0 = λ x. f ≤ x.at in
    subst P (sym here) (omega arith)

-- a start after all starts up to an address is above the address
pub at-above : (xs : List Start) (n e f : ℕ) → Above e (drop n xs) → n < length xs
    → ((d : Start) → (get_or xs n d).at ≡ f) → e < f
at-above xs n e f up lt is =
    let d : Start = record { at = 0; to = 0; key = 0 } in
    let len : length (drop n xs) ≡ length xs - n = length-drop n xs in
    let here : get_or (drop n xs) 0 d ≡ get_or xs (n + 0) d = get_or-drop n xs 0 d in
    let same : n + 0 ≡ n = omega arith in
    let at : e < (get_or (drop n xs) 0 d).at = up 0 d (omega arith) in
    let Q : Start → Type 0 = λ x. e < x.at in
    let N : ℕ → Type 0 = λ m. e < (get_or xs m d).at in
    let F : ℕ → Type 0 = λ m. e < m in
    subst F (is d) (subst N same (subst Q here at))

-- a number is among others exactly if a test finds it
found : (z : ℕ) (xs : List ℕ) → IsAmong z xs → list_any (λ x. z == x) xs ≡ true
found z [] h = absurd h
found z (x ∷ xs) h = elim h [
  | inl same ↦ let yes : (z == x) ≡ true = grind (arith, nat_tests) in rw yes refl
  | inr later ↦ either (z == x) (found z xs later)
]
  where
    either : (b : Bool) → list_any (λ x. z == x) xs ≡ true
        → (b || list_any (λ x. z == x) xs) ≡ true
    either true h = refl
    either false h = h

among : (z : ℕ) (xs : List ℕ) → list_any (λ x. z == x) xs ≡ true → IsAmong z xs
among z [] h = absurd (false≢true h)
among z (x ∷ xs) h = elim (cases_eq z x) [
  | inl same ↦ inl same
  | inr other ↦
      let no : (z == x) ≡ false = grind (arith, nat_tests) in
      inr (among z xs (rest (z == x) no h))
]
  where
    rest : (b : Bool) → b ≡ false → (b || list_any (λ x. z == x) xs) ≡ true
        → list_any (λ x. z == x) xs ≡ true
    rest true is h = absurd (false≢true (sym is))
    rest false is h = h

-- the open ends are endpoints of ranges
open-among : (rows : List Row) (scopes : List Scope) (starts : List Start) (p x : ℕ)
    (ends : List End) → AreStarts (reaches_of rows scopes) starts → AreOpen starts p x ends
    → AllByRecursion (λ (e : End). IsAmong e.at (ends_of (ranges_of rows scopes))) ends
open-among rows scopes starts p x ends h o =
    let all : List ℕ = ends_of (ranges_of rows scopes) in
    let T : Start → Type 0 = λ s. IsAmong s.to (ends_of (ranges_of rows scopes)) in
    let tos : AllByRecursion T starts =
    recursion_from_All T starts
    (All-weaker (λ (s : Start). IsAmong s.at (ends_of (ranges_of rows scopes))
    × IsAmong s.to (ends_of (ranges_of rows scopes))) T (λ s k. k.1) starts
    (each-start rows scopes starts h)) in
    each-weaker (λ (e : End). list_any (λ x. e.at == x) all ≡ true)
    (λ (e : End). IsAmong e.at all) (λ e is. among e.at all is) ends
    (open-each (λ n. list_any (λ x. n == x) all) starts p x ends o
    (each-weaker T (λ (s : Start). nat_le x s.to ≡ true
    → list_any (λ x. s.to == x) all ≡ true) (λ s is _. found s.to all is) (take p starts)
    (taken T p starts tos)))
  where
    taken : (P : Start → Type 0) (n : ℕ) (ss : List Start) → AllByRecursion P ss
        → AllByRecursion P (take n ss)
    taken P zero ss h = tt
    taken P (suc n) [] h = tt
    taken P (suc n) (s ∷ ss) h = (h.0, taken P n ss h.1)

pub next-among : (rows : List Row) (scopes : List Scope) (starts : List Start) (p x f : ℕ)
    (ends : List End) → AreStarts (reaches_of rows scopes) starts → AreOpen starts p x ends
    → IsNext starts ends p f → IsAmong f (ends_of (ranges_of rows scopes))
next-among rows scopes starts p x f ends h o next =
    let d : Start = record { at = 0; to = 0; key = 0 } in
    let A : ℕ → Type 0 = λ n. IsAmong n (ends_of (ranges_of rows scopes)) in
    let S : Start → Type 0 = λ s. A s.at × A s.to in
    elim next.there [
      | inl s ↦ subst A (s.1 d) (All-get_or S starts p d s.0 (each-start rows scopes starts h)).0
      | inr e ↦ any-at A f ends e (open-among rows scopes starts p x ends h o)
    ]

pub next-above : (starts : List Start) (p e f : ℕ) (ends : List End) → Above e (drop p starts)
    → AreOpen starts p (e + 1) ends → IsNext starts ends p f → e < f
next-above starts p e f ends high o next = elim next.there [
  | inl s ↦ at-above starts p e f high s.0 s.1
  | inr c ↦
      let from : e + 1 ≤ f = any-at (λ n. e + 1 ≤ n) f ends c (open-from starts p (e + 1) ends o) in
      omega (arith, from)
]

-- the ranges that have not started are after the next endpoint
pub later-starts : (rows : List Row) (scopes : List Scope) (starts : List Start) (p f : ℕ)
    (ends : List End) → AreStarts (reaches_of rows scopes) starts → IsNext starts ends p f
    → All (λ (s : Start). (f ≤ s.at) × (f ≤ s.to)) (drop p starts)
later-starts rows scopes starts p f ends h next k d lt =
    let from = rest-from starts p f h.rise next.starts_from k d lt in
    let here : get_or (drop p starts) k d ≡ get_or starts (p + k) d = get_or-drop p starts k d in
    let len : length (drop p starts) ≡ length starts - p = length-drop p starts in
    let full : (get_or starts (p + k) d).at < (get_or starts (p + k) d).to =
    h.full (p + k) d (omega (arith, lt, len)) in
    let F : Start → Type 0 = λ s. s.at < s.to in
    let there : (get_or (drop p starts) k d).at < (get_or (drop p starts) k d).to =
    subst F (sym here) full in
    (from, omega (arith, from, there))

-- the ranges that start from an endpoint on end after it
pub late-starts : (rows : List Row) (scopes : List Scope) (starts : List Start) (p f : ℕ)
    (ends : List End) → AreStarts (reaches_of rows scopes) starts → IsNext starts ends p f
    → All (λ (s : Start). f < s.to) (drop p starts)
late-starts rows scopes starts p f ends h next k d lt =
    let from = rest-from starts p f h.rise next.starts_from k d lt in
    let here : get_or (drop p starts) k d ≡ get_or starts (p + k) d = get_or-drop p starts k d in
    let len : length (drop p starts) ≡ length starts - p = length-drop p starts in
    let full : (get_or starts (p + k) d).at < (get_or starts (p + k) d).to =
    h.full (p + k) d (omega (arith, lt, len)) in
    let F : Start → Type 0 = λ s. s.at < s.to in
    let there : (get_or (drop p starts) k d).at < (get_or (drop p starts) k d).to =
    subst F (sym here) full in
    omega (arith, from, there)
