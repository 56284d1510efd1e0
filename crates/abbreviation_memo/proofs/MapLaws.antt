-- A property of all entries of a map.
use Rattle.std.proofs.Common.{Some, [], ap, arith, cond, sym, ℕ, ◌∙◌, ◌≡◌}
use Rattle.std.proofs.lemmas.Grind.{common_steps}
use Rattle.std.specs.{BTreeMap.{BTreeMap, get, is_at}, Map.lookup, Ordering.nat_cmp}

abbrev pub AllEntries : {V : Type 0} → (ℕ → V → Type 0) → BTreeMap ℕ V → Type 0
AllEntries P entries = (key : ℕ) (value : _) → get nat_cmp entries key ≡ Some value → P key value

-- the map has one more entry
abbrev pub Puts : {V : Type 0} → BTreeMap ℕ V → BTreeMap ℕ V → ℕ → V → Type 0
Puts old new key value = (q : ℕ)
    → get nat_cmp new q ≡ cond (is_at (nat_cmp key) q) (Some value) (get nat_cmp old q)

pub entries-put : {V : Type 0} (P : ℕ → V → Type 0) (old new : BTreeMap ℕ V) (key : ℕ) (value : V)
    → Puts old new key value → P key value → AllEntries P old → AllEntries P new
entries-put P old new key value puts here all q v at =
    grind (arith, common_steps, puts q, here, all q v)

pub entries-same : {V : Type 0} (P : ℕ → V → Type 0) (old new : BTreeMap ℕ V)
    → new.entries ≡ old.entries → AllEntries P old → AllEntries P new
entries-same P old new same all q v at =
    all q v (sym (ap (λ es. lookup (is_at (nat_cmp q)) es) same) ∙ at)

pub entries-none : {V : Type 0} (P : ℕ → V → Type 0) (m : BTreeMap ℕ V) → m.entries ≡ []
    → AllEntries P m
entries-none P m empty q v at = cc (at, ap (λ es. lookup (is_at (nat_cmp q)) es) empty)
