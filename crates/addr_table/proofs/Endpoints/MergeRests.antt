-- The starts that a cursor has not taken.
use Rattle.std.proofs.Common.{◌≡◌, ℕ, ◌+◌, ◌-◌, ◌<◌, ◌≤◌, List, [], length, drop}
use Rattle.std.proofs.Common.{get_or, ap, sym, ◌∙◌, subst}
use Rattle.std.proofs.Common.{arith}
use Rattle.std.specs.List.Sorted.{IsNonDecreasingBy}
use Rattle.std.proofs.lemmas.List.{drop_all, length-drop, get_or-drop, get_or_default}
use Rattle.addr_table.specs.declared.starts.Start.{Start}
use Rattle.addr_table.specs.Private.Merged.{merged, starts_in, taken_of, IsMerging}
use Rattle.addr_table.specs.Private.Merged.{IsNextIn, Cursor}
use Rattle.addr_table.specs.Private.Sweep.{Above}
use Rattle.addr_table.proofs.Endpoints.MergeLaws.{merged-rises}

-- in an ascending list, all starts are above an address from the first such start on
rest-above : (starts : List Start) (p a : ℕ) (d : Start)
    → IsNonDecreasingBy (λ (s : Start). s.at) starts
    → (p < length starts → a < (get_or starts p d).at) → Above a (drop p starts)
rest-above starts p a d rise first k e lt =
    let len : length (drop p starts) ≡ length starts - p = length-drop p starts in
    let here : get_or (drop p starts) k e ≡ get_or starts (p + k) e = get_or-drop p starts k e in
    let same : get_or starts p e ≡ get_or starts p d = get_or_default starts p e d (omega arith) in
    let P : Start → Type 0 = λ x. a < x.at in
    let later : (get_or starts p e).at ≤ (get_or starts (p + k) e).at =
    rise p (p + k) e (omega arith) (omega arith) in
    let begun : a < (get_or starts p d).at = first (omega arith) in
    let begun_here : a < (get_or starts p e).at = subst P (sym same) begun in
    subst P (sym here) (omega arith)

-- an address below the next start is below all later ones
pub later-above : (c : Cursor) (e : Start) (a : ℕ) → IsMerging c.rows c.scopes c.row c.scope
    → IsNextIn c e → a < e.at → Above a (drop (taken_of c) (starts_in c))
later-above c e a m h lt =
    rest-above (starts_in c) (taken_of c) a e (merged-rises c.rows c.scopes m.rows_rise
    m.scopes_rise)
    (λ within. omega (arith, lt, ap (λ (x : Start). x.at) (h.here e)))

-- all starts were taken
pub none-next : (c : Cursor) → IsMerging c.rows c.scopes c.row c.scope
    → length c.rows ≤ c.row → length c.scopes ≤ c.scope
    → length (starts_in c) ≤ taken_of c
none-next c m rows scopes =
    let none : drop (c.row + c.scope) (merged c.rows c.scopes) ≡ [] =
    m.left ∙ ap (λ (xs : List Start). merged xs (drop c.scope c.scopes)) (drop_all c.row c.rows
    rows)
    ∙ drop_all c.scope c.scopes scopes in
    let len : length (drop (c.row + c.scope) (merged c.rows c.scopes)) ≡ 0 = ap length none in
    omega (arith, len, length-drop (c.row + c.scope) (merged c.rows c.scopes))
