-- Linear scans of rows and scopes.
use Rattle.std.proofs.Common.{◌≡◌, ◌∙◌, ℕ, zero, suc, ◌+◌, ◌-◌, ◌<◌, ◌≤◌, List, [], ◌∷◌, length}
use Rattle.std.proofs.Common.{drop, get_or, Bool, true, false, cond}
use Rattle.std.proofs.Common.{◌&&◌, refl, sym, ap, subst, zero-add, arith}
use Rattle.std.specs.Prelude.{Option, Some, None, option_map, nat_lt}
use Rattle.std.proofs.lemmas.List.{drop_more, drop_all}
use Rattle.dwarf_lines.specs.declared.row.Row.{Row}
use Rattle.dwarf_lines.specs.Lines.{row_of, covers}
use Rattle.dwarf_walk.specs.declared.scope_kind.ScopeKind.TheVariants.{Subprogram, Inlined}
use Rattle.dwarf_entries.specs.declared.scope.Scope.{Scope as Kept}
use Rattle.dwarf_entries.specs.Scopes.{Scope, Own, own_of}
use Rattle.dwarf_entries.specs.Order.{HasDataOf}
use Rattle.addr_table.specs.Rows.{row_at}
use Rattle.addr_table.specs.Chains.{is_at, chain_below, chain_of}
use Rattle.addr_table.specs.Places.{last, scope_at}
use Rattle.addr_table.specs.Private.Scans.{is_next, scan_left}
use Rattle.addr_table.proofs.Scanning.WordLaws.{row-is-first}

-- ---- rows

moved-nowhere : (o : Option ℕ) → o ≡ option_map (λ n. 0 + n) o
moved-nowhere None = refl
moved-nowhere (Some n) = ap Some (sym (zero-add n))

moved-twice : (k : ℕ) (o : Option ℕ) → option_map (λ n. k + n) (option_map suc o)
    ≡ option_map (λ n. suc k + n) o
moved-twice k None = refl
moved-twice k (Some n) = ap Some (omega arith)

-- the result of a search from a row on
abbrev pub row-from : ℕ → List Row → ℕ → Option ℕ
row-from k rows link = option_map (λ n. k + n) (row_of (drop k rows) link)

row-here : (rows : List Row) (k : ℕ) (d e : Row) (link : ℕ) → suc k < length rows
    → row_of (drop k rows) link ≡ cond (covers link (get_or rows k d) (get_or rows (suc k) e))
    (Some 0)
    (option_map suc (row_of (drop (suc k) rows) link))
row-here [] k d e link lt = absurd (omega arith)
row-here (x ∷ []) k d e link lt = absurd (omega arith)
row-here (x ∷ y ∷ rows) zero d e link lt = refl
row-here (x ∷ y ∷ rows) (suc k) d e link lt = row-here (y ∷ rows) k d e link (omega arith)

pub row-first : (rows : List Row) (link : ℕ) → row-from 0 rows link ≡ row_at rows link
row-first rows link = sym (moved-nowhere (row_of rows link)) ∙ sym (row-is-first rows link)

pub row-later : (rows : List Row) (next : ℕ) (d e : Row) (link : ℕ) (found : Option ℕ) → 1 ≤ next
    → next < length rows
    → row-from (next - 1) rows link ≡ found
    → false ≡ covers link (get_or rows (next - 1) d) (get_or rows next e)
    → row-from (next + 1 - 1) rows link ≡ found
row-later rows zero d e link found ge lt h not_here = absurd (omega arith)
row-later rows (suc k) d e link found ge lt h not_here =
    let k_is : suc k - 1 ≡ k = omega arith in
    let next_is : suc k + 1 - 1 ≡ suc k = omega arith in
    let F : ℕ → Type 0 = λ n. row-from n rows link ≡ found in
    let C : ℕ → Type 0 = λ n. false ≡ covers link (get_or rows n d) (get_or rows (suc k) e) in
    let beyond : covers link (get_or rows k d) (get_or rows (suc k) e) ≡ false =
    sym (subst C k_is not_here) in
    let step : row-from k rows link ≡ row-from (suc k) rows link =
    ap (option_map (λ n. k + n)) (row-here rows k d e link lt)
    ∙ (rw beyond (moved-twice k (row_of (drop (suc k) rows) link))) in
    subst F (sym next_is) (sym step ∙ subst F k_is h)

pub row-none : (rows : List Row) (k : ℕ) (link : ℕ) (found : Option ℕ) → length rows ≤ suc k
    → row-from k rows link ≡ found → None ≡ found
row-none rows k link found le h = sym (ap (option_map (λ n. k + n)) (none-at rows k link le)) ∙ h
  where
    none-at : (rows : List Row) (k : ℕ) (link : ℕ) → length rows ≤ suc k
        → row_of (drop k rows) link ≡ None
    none-at [] zero link le = refl
    none-at [] (suc k) link le = refl
    none-at (x ∷ []) zero link le = refl
    none-at (x ∷ y ∷ rows) zero link le = absurd (omega arith)
    none-at (x ∷ rows) (suc k) link le = none-at rows k link (omega arith)

-- ---- scopes

abbrev pub last_or : Option ℕ → List Scope → Option ℕ
last_or o [] = o
last_or o (s ∷ chain) = last_or (Some s.number) chain

last-is : (o : Option ℕ) (s : Scope) (chain : List Scope)
    → last_or o (s ∷ chain) ≡ option_map (λ t. t.number) (last (s ∷ chain))
last-is o s [] = refl
last-is o s (t ∷ chain) = last-is (Some s.number) t chain

chain-last : (chain : List Scope) → last_or None chain ≡ option_map (λ t. t.number) (last chain)
chain-last [] = refl
chain-last (s ∷ chain) = last-is None s chain

left-below : (a n end : ℕ) (xs : List Scope) → scan_left a (Some n) end xs
    ≡ last_or (Some n) (chain_below a end xs)
unfolding chain_below
left-below a n end [] = refl
left-below a n end (s ∷ later) =
    cases (nat_lt s.number end && is_at Inlined a s) (left-below a s.number s.«end» later)
    (left-below a n end later)
  where
    cases : (b : Bool) → scan_left a (Some s.number) s.«end» later
        ≡ last_or (Some s.number) (chain_below a s.«end» later)
        → scan_left a (Some n) end later ≡ last_or (Some n) (chain_below a end later)
        → cond b (scan_left a (Some s.number) s.«end» later) (scan_left a (Some n) end later)
        ≡ last_or (Some n)
        (cond b (s ∷ chain_below a s.«end» later) (chain_below a end later))
    cases true inside after = inside
    cases false inside after = after

left-of : (a end : ℕ) (xs : List Scope) → scan_left a None end xs ≡ last_or None (chain_of a xs)
unfolding chain_of
left-of a end [] = refl
left-of a end (s ∷ later) = cases (is_at Subprogram a s) (left-below a s.number s.«end» later)
    (left-of a end later)
  where
    cases : (b : Bool) → scan_left a (Some s.number) s.«end» later
        ≡ last_or (Some s.number) (chain_below a s.«end» later)
        → scan_left a None end later ≡ last_or None (chain_of a later)
        → cond b (scan_left a (Some s.number) s.«end» later) (scan_left a None end later)
        ≡ last_or None
        (cond b (s ∷ chain_below a s.«end» later) (chain_of a later))
    cases true inside after = inside
    cases false inside after = after

-- the last scope found, with the result of the remaining scopes, is the innermost scope
abbrev pub IsScanned : List Scope → ℕ → ℕ → Option ℕ → ℕ → Type 0
IsScanned scopes a i last end = scan_left a last end (drop i scopes) ≡ scope_at scopes a

pub scanned-none : (scopes : List Scope) (a : ℕ) → IsScanned scopes a 0 None 0
scanned-none scopes a = left-of a 0 scopes ∙ chain-last (chain_of a scopes)

scope-here : (scopes : List Scope) (a i : ℕ) (d : Scope) (last : Option ℕ) (end : ℕ) (b : Bool)
    → i < length scopes
    → b ≡ is_next last end a (get_or scopes i d)
    → scan_left a last end (drop i scopes) ≡ cond b
    (scan_left a (Some (get_or scopes i d).number) (get_or scopes i d).«end» (drop (i + 1) scopes))
    (scan_left a last end (drop (i + 1) scopes))
scope-here scopes a i d last end b lt is =
    ap (scan_left a last end) (drop_more scopes i d lt)
    ∙ ap (λ x. cond x (scan_left a (Some (get_or scopes i d).number) (get_or scopes i d).«end»
    (drop (i + 1) scopes))
    (scan_left a last end (drop (i + 1) scopes)))
    (sym is)

pub scanned-taken : (scopes : List Scope) (a i : ℕ) (d : Scope) (last : Option ℕ)
    (end number past : ℕ) → i < length scopes
    → IsScanned scopes a i last end → true ≡ is_next last end a (get_or scopes i d)
    → number ≡ (get_or scopes i d).number → past ≡ (get_or scopes i d).«end»
    → IsScanned scopes a (i + 1) (Some number) past
scanned-taken scopes a i d last end number past lt h next number_is past_is =
    rw (number_is, past_is) (sym (scope-here scopes a i d last end true lt next) ∙ h)

pub scanned-passed : (scopes : List Scope) (a i : ℕ) (d : Scope) (last : Option ℕ) (end : ℕ)
    → i < length scopes
    → IsScanned scopes a i last end → false ≡ is_next last end a (get_or scopes i d)
    → IsScanned scopes a (i + 1) last end
scanned-passed scopes a i d last end lt h next =
    sym (scope-here scopes a i d last end false lt next) ∙ h

pub scanned-all : (scopes : List Scope) (a i : ℕ) (last : Option ℕ) (end : ℕ) → length scopes ≤ i
    → IsScanned scopes a i last end
    → last ≡ scope_at scopes a
scanned-all scopes a i last end le h = sym (ap (scan_left a last end) (drop_all i scopes le)) ∙ h

-- ---- the data of a scope of the program

pub returned-number : (scopes : List Scope) (k : Kept) (s : Scope) → HasDataOf scopes k s
    → (own_of k).number ≡ s.number
returned-number scopes k s tells = ap (λ (o : Own). o.number) tells.own_is

pub returned-end : (scopes : List Scope) (k : Kept) (s : Scope) → HasDataOf scopes k s
    → (own_of k).«end» ≡ s.«end»
returned-end scopes k s tells = ap (λ (o : Own). o.«end») tells.own_is
