-- The scopes that the walk stores, and the number of scopes below each.
use Rattle.dwarf_units.specs.Entries.{Die, below}
use Rattle.dwarf_walk.specs.Private.WalkedScopes.{AreBounded, IsBounded, counted_places, is_deeper}
use Rattle.dwarf_walk.specs.Private.WalkedScopes.{least_after, least_after_entry, walked_scope}
use Rattle.dwarf_walk.specs.{Private.WalkedScopes.walked_scopes, ScopeEntries.is_scope}
use Rattle.dwarf_walk.specs.{Stored.scope_places, declared.descendants.WalkedScope.WalkedScope}
use Rattle.dwarf_walk.specs.declared.unit_entries.ScopePlace.{ScopePlace}
use Rattle.std.proofs.Common.{List, [], ap, append-nil, append_assoc, arith, cond, count_by, drop}
use Rattle.std.proofs.Common.{get_or, length, min, nat_lt, one-add, refl, suc, suc-add, zero}
use Rattle.std.proofs.Common.{zero-add, ℕ, ◌++◌, ◌+◌, ◌<◌, ◌∷◌, ◌≡◌, ◌≤◌}
use Rattle.std.proofs.lemmas.{Grind.common_steps, List.Elements.{All-append, All-nil, All-tail}}
use Rattle.std.{proofs.lemmas.List.Sums.{sum_by-cons, take_while-cons}, specs.List.prefix_len}

-- ---- one more entry

pub walked-push : (least : ℕ) (dies : List Die) (die : Die) → walked_scopes least (dies ++ die ∷ [])
    ≡ walked_scopes least dies ++ walked_scope (least_after least dies) die
walked-push least [] die = append-nil (walked_scope least die)
walked-push least (d ∷ dies) die =
    rw (walked-push (least_after_entry least d) dies die, append_assoc) refl

pub least-push : (least : ℕ) (dies : List Die) (die : Die)
    → least_after least (dies ++ die ∷ []) ≡ least_after_entry (least_after least dies) die
least-push least [] die = refl
least-push least (d ∷ dies) die = least-push (least_after_entry least d) dies die

-- ---- the scopes below an entry

-- The scopes up to the first that is not deeper.
abbrev deeper : ℕ → ℕ → List Die → ℕ
deeper depth least dies = prefix_len (is_deeper depth) (walked_scopes least dies)

-- If the least depth is not deeper, neither is the first scope.
deeper-none : (depth least : ℕ) (dies : List Die) → least ≤ depth → deeper depth least dies ≡ 0
deeper-none depth least [] le = refl
deeper-none depth least (d ∷ dies) le =
    grind (arith, deeper-none depth (min least d.depth) dies)

below-deeper : (die : Die) (least : ℕ) (dies : List Die) → die.depth < least
    → count_by is_scope (below die dies) ≡ deeper die.depth least dies
below-deeper die least [] lt = refl
below-deeper die least (d ∷ dies) lt =
    grind (
      arith,
      take_while-cons (λ (x : Die). nat_lt die.depth x.depth) d dies,
      sum_by-cons (λ (x : Die). cond (is_scope x) 1 0) d (below die dies),
      deeper-none die.depth (min least d.depth) dies,
      below-deeper die (min least d.depth) dies,
      below-deeper die (d.depth + 1) dies,
    )

pub places-counted : (least : ℕ) (dies : List Die)
    → counted_places (walked_scopes least dies) ≡ scope_places dies
places-counted least [] = refl
places-counted least (die ∷ rest) =
    grind (
      arith,
      below-deeper die (die.depth + 1) rest,
      places-counted (die.depth + 1) rest,
      places-counted (min least die.depth) rest,
    )

pub are-bounded : (least : ℕ) (dies : List Die) → AreBounded (walked_scopes least dies)
are-bounded least [] = All-nil IsBounded
are-bounded least (die ∷ rest) =
    All-append IsBounded (walked_scope least die) _ (λ k d lt. grind arith)
    (are-bounded (least_after_entry least die) rest)

-- ---- counting from the last scope to the first

pub counted_places-length : (ws : List WalkedScope) → length (counted_places ws) ≡ length ws
counted_places-length [] = refl
counted_places-length (w ∷ rest) = ap suc (counted_places-length rest)

-- The scopes that are deeper than a depth are also deeper than a smaller one.
deeper-less : (depth deep : ℕ) (ws : List WalkedScope) → depth ≤ deep
    → prefix_len (is_deeper depth) ws ≡ prefix_len (is_deeper deep) ws
    + prefix_len (is_deeper depth) (drop (prefix_len (is_deeper deep) ws) ws)
deeper-less depth deep [] le = refl
deeper-less depth deep (w ∷ rest) le =
    let n = prefix_len (is_deeper deep) rest in
    grind (arith, common_steps, deeper-less depth deep rest le, one-add n)

-- The number of scopes below the scope at an index.
abbrev inside_at : List WalkedScope → ℕ → ScopePlace → ℕ
inside_at ws index p = (get_or (counted_places ws) index p).inside

-- If a scope is deeper, so are the scopes below it.
pub deeper-jump : (depth next : ℕ) (ws : List WalkedScope) (w : WalkedScope) (p : ScopePlace)
    → AreBounded ws → next < length ws → depth < (get_or ws next w).least
    → prefix_len (is_deeper depth) (drop next ws) ≡ 1 + inside_at ws next p
    + prefix_len (is_deeper depth) (drop (next + (1 + inside_at ws next p)) ws)
deeper-jump depth next [] w p are lt deep = absurd (omega (arith, lt))
deeper-jump depth zero (x ∷ rest) w p are lt deep =
    let n = prefix_len (is_deeper x.depth) rest in
    let more = deeper-less depth x.depth rest in
    grind (arith, common_steps, more, are 0 w lt, one-add n, zero-add (1 + n))
deeper-jump depth (suc next) (x ∷ rest) w p are lt deep =
    rw (suc-add next (1 + inside_at rest next p))
    (deeper-jump depth next rest w p (All-tail IsBounded x rest are) (omega (arith, lt)) deep)

-- What a loop that jumps from scope to scope needs.
pub ruleset jumps = (counted_places-length, deeper-jump)
