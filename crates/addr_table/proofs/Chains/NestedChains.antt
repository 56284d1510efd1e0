-- Chains of nested scopes outside the active set.
use Rattle.std.proofs.Common.{◌≡◌, ◌≢◌, ◌∙◌, ℕ, ◌+◌, ◌<◌, ◌≤◌, List, [], ◌∷◌, ◌++◌, length, set}
use Rattle.std.proofs.Common.{get_or, Bool, true, false, not, ◌-◌, ◌&&◌, ◌||◌, refl, ap, sym}
use Rattle.std.proofs.Common.{arith, subst}
use Rattle.std.specs.Prelude.{◌==◌, nat_lt, Option, Some, IfSome}
use Rattle.std.specs.List.{AllByRecursion, list_any}
use Rattle.std.proofs.lemmas.Bool.Decides.{nat_tests}
use Rattle.std.proofs.lemmas.Bool.{false≢true}
use Rattle.std.proofs.lemmas.List.{length-append, length-set, get_or-set_other}
use Rattle.dwarf_entries.specs.Scopes.{Scope}
use Rattle.dwarf_entries.specs.Order.{AreNumbered}
use Rattle.addr_table.specs.declared.scope_chain.ChainScope.{ChainScope}
use Rattle.addr_table.specs.declared.watched_scopes.WatchedScopes.{WatchedScopes}
use Rattle.addr_table.specs.Places.{scope_at}
use Rattle.addr_table.specs.Private.ActiveChain.{AreFree, AreInside, HasNoScopes, IsInnerIn}
use Rattle.addr_table.specs.Private.ActiveChain.{IsNested, counts_with_keys, keys_of, last_number}
use Rattle.addr_table.specs.Private.ActiveChain.{IsChained, IsChainScope, last_of}
use Rattle.addr_table.specs.Private.Bits.{is_filled}
use Rattle.addr_table.specs.Private.Sweep.{IsActiveBelow, IsInnermost, IsLimit, IsWatching}
use Rattle.addr_table.specs.Private.Sweep.{is_watched}
use Rattle.addr_table.proofs.ActiveSet.ChainCounts.{counts-below, counts-filled, counts-set}
use Rattle.addr_table.proofs.ActiveSet.ChainCounts.{with_one}
use Rattle.addr_table.proofs.Chains.ChainWalks.{IsWalked, end-walk, end-within, more-walk, no-walk}
use Rattle.addr_table.proofs.Chains.ChainWalks.{no_scope, start-walk}
use Rattle.addr_table.proofs.Sweeping.KeyLaws.{any-map}
use Rattle.addr_table.proofs.Sweeping.SameScopes.{innermost-kept}

-- ---- the last scope

pub keys-last : (chain : List ChainScope) (c : ChainScope)
    → keys_of (chain ++ c ∷ []) ≡ keys_of chain ++ c.key ∷ []
keys-last [] c = refl
keys-last (d ∷ chain) c = ap (λ keys. d.key ∷ keys) (keys-last chain c)

pub last-at : (c : ChainScope) (inner : List ChainScope) (d : ChainScope)
    → get_or (c ∷ inner) (length inner) d ≡ last_of c inner
last-at c [] d = refl
last-at c (e ∷ inner) d = last-at e inner d

-- a scope that continues an empty chain, or another one
pub inner-first : (rows : ℕ) (scopes : List Scope) (chain : List ChainScope) (c : ChainScope)
    → length chain ≡ 0 → IsChainScope rows scopes c → IsInnerIn rows scopes chain c
inner-first rows scopes [] c none h = h
inner-first rows scopes (d ∷ ds) c none h = absurd (omega arith)

last-outer : (chain : List ChainScope) (d outer : ChainScope)
    → outer ≡ get_or (d ∷ chain) (length (d ∷ chain) - 1) outer → outer ≡ last_of d chain
last-outer chain d outer is =
    let at : length (d ∷ chain) - 1 ≡ length chain = omega arith in
    is ∙ ap (λ n. get_or (d ∷ chain) n outer) at ∙ last-at d chain outer

pub inner-next : (rows : ℕ) (scopes : List Scope) (chain : List ChainScope) (outer c : ChainScope)
    → 0 < length chain → outer ≡ get_or chain (length chain - 1) outer
    → AreInside (rows + length scopes) scopes outer (c ∷ []) → IsInnerIn rows scopes chain c
inner-next rows scopes [] outer c some is h = absurd (omega arith)
inner-next rows scopes (d ∷ ds) outer c some is h =
    subst (λ o. AreInside (rows + length scopes) scopes o (c ∷ [])) (last-outer ds d outer is) h

pub inner-inside : (rows : ℕ) (scopes : List Scope) (chain : List ChainScope)
    (outer c : ChainScope) → 0 < length chain → outer ≡ get_or chain (length chain - 1) outer
    → IsInnerIn rows scopes chain c → AreInside (rows + length scopes) scopes outer (c ∷ [])
inner-inside rows scopes [] outer c some is h = absurd (omega arith)
inner-inside rows scopes (d ∷ ds) outer c some is h =
    subst (λ o. AreInside (rows + length scopes) scopes o (c ∷ []))
    (sym (last-outer ds d outer is)) h

-- the last scope by index
pub last-number : (chain : List ChainScope) (last : ChainScope) → 0 < length chain
    → last ≡ get_or chain (length chain - 1) last → Some last.number ≡ last_number chain
last-number [] last some is = absurd (omega arith)
last-number (c ∷ inner) last some is =
    ap (λ (s : ChainScope). Some s.number) (last-outer inner c last is)

inside-more : (first : ℕ) (scopes : List Scope) (outer : ChainScope) (cs : List ChainScope)
    (c : ChainScope) → AreInside first scopes outer cs
    → AreInside first scopes (last_of outer cs) (c ∷ [])
    → AreInside first scopes outer (cs ++ c ∷ [])
inside-more first scopes outer [] c h more = more
inside-more first scopes outer (d ∷ cs) c h more =
    (h.0, h.1, h.2, inside-more first scopes d cs c h.3 more)

pub nested-more : (rows : ℕ) (scopes : List Scope) (chain : List ChainScope) (c : ChainScope)
    → IsNested rows scopes chain → IsInnerIn rows scopes chain c
    → IsNested rows scopes (chain ++ c ∷ [])
nested-more rows scopes [] c h more = (more, tt)
nested-more rows scopes (d ∷ inner) c h more =
    (h.0, inside-more (rows + length scopes) scopes d inner c h.1 more)

inside-less : (first : ℕ) (scopes : List Scope) (outer : ChainScope) (cs : List ChainScope)
    (c : ChainScope) → AreInside first scopes outer (cs ++ c ∷ []) → AreInside first scopes outer cs
inside-less first scopes outer [] c h = tt
inside-less first scopes outer (d ∷ cs) c h =
    (h.0, h.1, h.2, inside-less first scopes d cs c h.3)

pub nested-less : (rows : ℕ) (scopes : List Scope) (chain : List ChainScope) (c : ChainScope)
    → IsNested rows scopes (chain ++ c ∷ []) → IsNested rows scopes chain
nested-less rows scopes [] c h = tt
nested-less rows scopes (d ∷ inner) c h =
    (h.0, inside-less (rows + length scopes) scopes d inner c h.1)

-- ---- bounds of the keys

inside-last : (first : ℕ) (scopes : List Scope) (outer : ChainScope) (cs : List ChainScope)
    → outer.number < length scopes → AreInside first scopes outer cs
    → (last_of outer cs).number < length scopes
inside-last first scopes outer [] lt h = lt
inside-last first scopes outer (c ∷ cs) lt h = inside-last first scopes c cs h.2.within h.3

pub last-within : (rows : ℕ) (scopes : List Scope) (chain : List ChainScope)
    → IsNested rows scopes chain → IfSome (last_number chain) (λ n. n < length scopes)
last-within rows scopes [] h = tt
last-within rows scopes (c ∷ inner) h =
    inside-last (rows + length scopes) scopes c inner h.0.within h.1

inside-above : (first : ℕ) (scopes : List Scope) (outer : ChainScope) (cs : List ChainScope)
    (r : ℕ) → AreInside first scopes outer cs → r ≤ first + outer.number
    → AllByRecursion (λ k. r < k) (keys_of cs)
inside-above first scopes outer [] r h le = tt
inside-above first scopes outer (c ∷ cs) r h le =
    let lt : outer.number < c.number = h.0 in
    let is : c.key ≡ first + c.number = h.2.key_is in
    (omega arith, inside-above first scopes c cs r h.3 (omega arith))

-- the keys are not those of rows
pub nested-above : (rows : ℕ) (scopes : List Scope) (chain : List ChainScope) (r : ℕ)
    → IsNested rows scopes chain → r < rows → AllByRecursion (λ k. r < k) (keys_of chain)
nested-above rows scopes [] r h lt = tt
nested-above rows scopes (c ∷ inner) r h lt =
    let is : c.key ≡ rows + c.number = h.0.key_is in
    (omega arith, inside-above (rows + length scopes) scopes c inner r h.1 (omega arith))

inside-within : (first n : ℕ) (scopes : List Scope) (outer : ChainScope) (cs : List ChainScope)
    → AreInside first scopes outer cs → first + length scopes ≤ n
    → AllByRecursion (λ k. k < n) (keys_of cs)
inside-within first n scopes outer [] h le = tt
inside-within first n scopes outer (c ∷ cs) h le =
    let is : c.key ≡ first + c.number = h.2.key_is in
    let lt : c.number < length scopes = h.2.within in
    (omega arith, inside-within first n scopes c cs h.3 le)

pub nested-within : (rows : ℕ) (scopes : List Scope) (chain : List ChainScope)
    → IsNested rows scopes chain
    → AllByRecursion (λ k. k < rows + length scopes + length scopes) (keys_of chain)
nested-within rows scopes [] h = tt
nested-within rows scopes (c ∷ inner) h =
    let is : c.key ≡ rows + c.number = h.0.key_is in
    let lt : c.number < length scopes = h.0.within in (
      omega arith,
      inside-within (rows + length scopes) _ scopes c inner h.1 (omega arith),
    )

-- ---- no key has a range in the set

-- the keys above one that gets a range
free-above : (counts : List ℕ) (low key : ℕ) → ((j : ℕ) → low ≤ j → is_filled counts j ≡ false)
    → low ≤ key → (j : ℕ) → key < j → is_filled (with_one counts key) j ≡ false
free-above counts low key h le j lt =
    ap (λ n. nat_lt 0 n) (get_or-set_other counts key j (get_or counts key 0 + 1) 0
    (λ e. absurd (omega arith))) ∙ h j (omega arith)

inside-free : (first : ℕ) (scopes : List Scope) (outer : ChainScope) (cs : List ChainScope)
    (counts : List ℕ) → AreInside first scopes outer cs → length counts ≡ first + length scopes
    → ((j : ℕ) → first + outer.number < j → is_filled counts j ≡ false)
    → AreFree (keys_of cs) counts
inside-free first scopes outer [] counts h len none = tt
inside-free first scopes outer (c ∷ cs) counts h len none =
    let lt : outer.number < c.number = h.0 in
    let is : c.key ≡ first + c.number = h.2.key_is in
    let within : c.number < length scopes = h.2.within in (
      omega arith,
      none c.key (omega arith),
      inside-free first scopes c cs (with_one counts c.key) h.3
          (length-set counts c.key (get_or counts c.key 0 + 1) ∙ len)
          (λ j above. free-above counts c.key c.key (λ k le. none k (omega arith)) (omega arith) j
          (omega arith)),
    )

pub nested-free : (rows : ℕ) (scopes : List Scope) (chain : List ChainScope) (counts : List ℕ)
    → IsNested rows scopes chain → length counts ≡ rows + length scopes + length scopes
    → HasNoScopes rows counts → AreFree (keys_of chain) counts
nested-free rows scopes [] counts h len none = tt
nested-free rows scopes (c ∷ inner) counts h len none =
    let is : c.key ≡ rows + c.number = h.0.key_is in
    let within : c.number < length scopes = h.0.within in (
      omega arith,
      none c.key (omega arith),
      inside-free (rows + length scopes) scopes c inner (with_one counts c.key) h.1
          (length-set counts c.key (get_or counts c.key 0 + 1) ∙ len)
          (λ j above. free-above counts rows c.key none (omega arith) j (omega arith)),
    )

-- ---- the innermost scope

-- the key of a scope of the chain
abbrev has_key : ℕ → ChainScope → Bool
has_key j c = c.key == j

key-same : (j : ℕ) (c : ChainScope) (b : Bool) → c.key ≡ j → (has_key j c || b) ≡ true
key-same j c b is = let same : has_key j c ≡ true = grind (arith, nat_tests) in rw same refl

key-other : (j : ℕ) (c : ChainScope) (b : Bool) → (c.key ≡ j → ⊥) → (has_key j c || b) ≡ b
key-other j c b not_is = let other : has_key j c ≡ false = grind (arith, nat_tests) in
    rw other refl

none-above : (j : ℕ) (cs : List ChainScope) → AllByRecursion (λ k. j < k) (keys_of cs)
    → list_any (has_key j) cs ≡ false
none-above j [] h = refl
none-above j (c ∷ cs) h =
    let lt : j < c.key = h.0 in
    key-other j c (list_any (has_key j) cs) (λ e. absurd (omega arith)) ∙ none-above j cs h.1

-- numbers rise in a chain
inside-below : (first : ℕ) (scopes : List Scope) (outer : ChainScope) (cs : List ChainScope)
    → AreInside first scopes outer cs → outer.number ≤ (last_of outer cs).number
inside-below first scopes outer [] h = omega arith
inside-below first scopes outer (c ∷ cs) h =
    let lt : outer.number < c.number = h.0 in
    let below : c.number ≤ (last_of c cs).number = inside-below first scopes c cs h.3 in
    omega (arith, lt, below)

inside-innermost : (rows e limit : ℕ) (scopes : List Scope) (counts : List ℕ) (outer : ChainScope)
    (cs : List ChainScope) → AreNumbered 0 (length scopes) scopes
    → IsActiveBelow rows scopes limit e counts
    → AreInside (rows + length scopes) scopes outer cs
    → ((j : ℕ) → rows + length scopes + outer.number < j
    → is_filled counts j ≡ list_any (has_key j) cs)
    → outer.number < length scopes
    → ((d : Scope) → outer.«end» ≡ (get_or scopes outer.number d).«end»)
    → IsLimit scopes (Some (last_of outer cs).number) limit
    → IsWalked e scopes outer.number 0 0
    → Some (last_of outer cs).number ≡ scope_at scopes e
inside-innermost rows e limit scopes counts outer [] numbered at h filled within end_is is walked =
    let same : outer.«end» ≡ (get_or scopes outer.number no_scope).«end» = end_is no_scope in
    let fits : limit ≡ (get_or scopes outer.number no_scope).«end» = is no_scope in
    (end-walk rows (length scopes) e outer.number outer.«end» limit 0 0 0 scopes counts
    counts refl numbered at within (omega (arith, same, fits)) refl same
    (λ k low high. filled k (omega arith)) walked (omega arith)).0
inside-innermost rows e limit scopes counts outer (c ∷ cs) numbered at h filled within end_is is
    walked =
    let lt : outer.number < c.number = h.0 in
    let inside : c.number < outer.«end» = h.1 in
    let key_is : c.key ≡ rows + length scopes + c.number = h.2.key_is in
    let below : c.number ≤ (last_of c cs).number =
    inside-below (rows + length scopes) scopes c cs h.3 in
    let last = inside-last (rows + length scopes) scopes c cs h.2.within h.3 in
    let ends = end-within (length scopes) (last_of c cs).number scopes numbered last in
    let under : c.number < limit = omega (arith, below, ends.0, is no_scope) in
    inside-innermost rows e limit scopes counts c cs numbered at h.3
    (λ j low. filled j (omega arith) ∙ key-other j c (list_any (has_key j) cs)
    (λ e. absurd (omega arith)))
    h.2.within h.2.end_is is
    (more-walk rows (length scopes) e c.key outer.number c.number outer.«end» limit 0 0 0
    scopes counts counts refl numbered at within under refl (end_is no_scope) (
      omega arith,
      omega arith,
      filled c.key (omega arith) ∙ key-same c.key c (list_any (has_key c.key) cs) refl,
      λ k low high. filled k (omega arith) ∙ none-above k (c ∷ cs)
          (high, inside-above (rows + length scopes) scopes c cs k h.3 (omega arith)),
    )
    key_is walked (omega arith))

-- The last scope of a chain is the innermost one, if no other key of a scope has a range.
pub nested-innermost : (rows : ℕ) (scopes : List Scope) (chain : List ChainScope)
    (counts : List ℕ) → AreNumbered 0 (length scopes) scopes → IsNested rows scopes chain
    → ((j : ℕ) → rows ≤ j → is_filled counts j ≡ list_any (has_key j) chain)
    → IsInnermost rows scopes counts (last_number chain)
nested-innermost rows scopes [] counts numbered h filled limit e is at =
    (no-walk rows (length scopes) e 0 0 scopes counts refl numbered
    (subst (λ l. IsActiveBelow rows scopes l e counts) is at)
    (λ k low high. filled k low) (omega arith)).0
nested-innermost rows scopes (c ∷ inner) counts numbered h filled limit e is at =
    let key_is : c.key ≡ rows + c.number = h.0.key_is in
    let within : c.number < length scopes = h.0.within in
    let below : c.number ≤ (last_of c inner).number =
    inside-below (rows + length scopes) scopes c inner h.1 in
    let last = inside-last (rows + length scopes) scopes c inner within h.1 in
    let ends = end-within (length scopes) (last_of c inner).number scopes numbered last in
    inside-innermost rows e limit scopes counts c inner numbered at h.1
    (λ j low. filled j (omega arith) ∙ key-other j c (list_any (has_key j) inner)
    (λ e. absurd (omega arith)))
    within h.0.end_is is
    (start-walk rows (length scopes) e c.key c.number limit 0 0 scopes counts refl
    numbered at (omega (arith, below, ends.0, is no_scope)) (
      omega arith,
      omega arith,
      filled c.key (omega arith) ∙ key-same c.key c (list_any (has_key c.key) inner) refl,
      λ k low high. filled k low ∙ none-above k (c ∷ inner)
          (high, inside-above (rows + length scopes) scopes c inner k h.1 (omega arith)),
    )
    key_is (omega arith))

-- the keys of scopes that have a range, if the set has none of them
pub nested-filled : (rows : ℕ) (scopes : List Scope) (chain : List ChainScope) (counts : List ℕ)
    → IsNested rows scopes chain → length counts ≡ rows + length scopes + length scopes
    → HasNoScopes rows counts → (j : ℕ) → rows ≤ j
    → is_filled (counts_with_keys (keys_of chain) counts) j ≡ list_any (has_key j) chain
nested-filled rows scopes chain counts h len none j le =
    counts-filled (keys_of chain) counts j _ len (nested-within rows scopes chain h)
    ∙ ap (λ b. list_any (λ k. k == j) (keys_of chain) || b) (none j le)
    ∙ or-false (list_any (λ k. k == j) (keys_of chain))
    ∙ any-map (λ k. k == j) (λ (c : ChainScope). c.key) chain
  where
    or-false : (b : Bool) → (b || false) ≡ b
    or-false true = refl
    or-false false = refl

-- ---- changes of the set

-- the count of a row, with a chain outside the set
pub row-count : (rows : ℕ) (scopes : List Scope) (chain : List ChainScope) (counts : List ℕ)
    (key : ℕ) → IsNested rows scopes chain → key < rows
    → get_or (counts_with_keys (keys_of chain) counts) key 0 ≡ get_or counts key 0
row-count rows scopes chain counts key h lt =
    counts-below (keys_of chain) key counts (nested-above rows scopes chain key h lt)

pub row-set : (rows : ℕ) (scopes : List Scope) (chain : List ChainScope) (counts : List ℕ)
    (key v : ℕ) → IsNested rows scopes chain → key < rows
    → counts_with_keys (keys_of chain) (set counts key v)
    ≡ set (counts_with_keys (keys_of chain) counts) key v
row-set rows scopes chain counts key v h lt =
    counts-set (keys_of chain) key v counts (nested-above rows scopes chain key h lt)

-- one more scope of the chain
pub chained-more : (rows : ℕ) (scopes : List Scope) (chain : List ChainScope) (c : ChainScope)
    (counts : List ℕ) (has found : Bool) (innermost : Option ℕ) → has ≡ false
    → IsChained rows scopes chain counts has found innermost → IsInnerIn rows scopes chain c
    → IsChained rows scopes (chain ++ c ∷ []) counts has found innermost
chained-more rows scopes chain c counts has found innermost none h more = record {
  order = h.order;
  few = h.few;
  len = h.len;
  nested = nested-more rows scopes chain c h.nested more;
  none = h.none;
  apart = λ is. absurd (false≢true (sym none ∙ is));
  within = h.within;
  found = h.found;
}

-- one scope less
pub chained-less : (rows : ℕ) (scopes : List Scope) (chain : List ChainScope) (c : ChainScope)
    (counts : List ℕ) (has found : Bool) (innermost : Option ℕ)
    → IsChained rows scopes (chain ++ c ∷ []) counts has found innermost
    → IsChained rows scopes chain counts has found innermost
chained-less rows scopes chain c counts has found innermost h = record {
  order = h.order;
  few = h.few;
  len = h.len;
  nested = nested-less rows scopes chain c h.nested;
  none = h.none;
  apart = λ is. absurd (some-last chain c (h.apart is));
  within = h.within;
  found = h.found;
}
  where
    some-last : (chain : List ChainScope) (c : ChainScope) → chain ++ c ∷ [] ≡ [] → ⊥
    some-last chain c is = let none : length (chain ++ c ∷ []) ≡ 0 = ap length is in
        absurd (omega (arith, none, length-append chain (c ∷ [])))

-- no scope of the chain has a range in the set
pub chained-free : (rows : ℕ) (scopes : List Scope) (chain : List ChainScope) (counts : List ℕ)
    (has found : Bool) (innermost : Option ℕ)
    → IsChained rows scopes chain counts has found innermost → AreFree (keys_of chain) counts
chained-free rows scopes chain counts true found innermost h =
    subst (λ cs. AreFree (keys_of cs) counts) (sym (h.apart refl)) tt
chained-free rows scopes chain counts false found innermost h =
    nested-free rows scopes chain counts h.nested h.len (h.none refl)

-- the scopes are in the set
pub chained-set : (rows : ℕ) (scopes : List Scope) (chain chain' : List ChainScope)
    (counts counts' : List ℕ) (has found found' : Bool) (innermost : Option ℕ)
    → IsChained rows scopes chain counts has found innermost → chain' ≡ []
    → length counts' ≡ length counts
    → (found' ≡ true → IsInnermost rows scopes counts' innermost)
    → IsChained rows scopes chain' counts' true found' innermost
chained-set rows scopes chain chain' counts counts' has found found' innermost h none len stays =
    record {
      order = h.order;
      few = h.few;
      len = len ∙ h.len;
      nested = subst (IsNested rows scopes) (sym none) tt;
      none = λ is. absurd (false≢true (sym is));
      apart = λ is. none;
      within = h.within;
      found = stays;
    }

-- a change of the count of a row
pub chained-row : (rows key : ℕ) (scopes : List Scope) (chain : List ChainScope)
    (counts counts' : List ℕ) (has found : Bool) (innermost : Option ℕ)
    → IsChained rows scopes chain counts has found innermost → key < rows
    → ((k : ℕ) → k ≢ key → get_or counts' k 0 ≡ get_or counts k 0)
    → length counts' ≡ length counts
    → IsChained rows scopes chain counts' has found innermost
chained-row rows key scopes chain counts counts' has found innermost h lt same len = record {
  order = h.order;
  few = h.few;
  len = len ∙ h.len;
  nested = h.nested;
  none = λ is k le. scope k le ∙ h.none is k le;
  apart = h.apart;
  within = h.within;
  found = λ f limit e is at. h.found f limit e is (record {
    subprograms = λ n below. sym (scope (rows + n) (omega arith)) ∙ at.subprograms n below;
    inlined = λ n below. sym (scope (rows + length scopes + n) (omega arith))
        ∙ at.inlined n below;
  });
}
  where
    scope : (k : ℕ) → rows ≤ k → is_filled counts' k ≡ is_filled counts k
    scope k le = ap (λ n. nat_lt 0 n) (same k (λ e. absurd (omega (arith, e, lt, le))))

-- a change of the count of a scope in the set that cannot change the innermost scope
pub chained-found : (rows key : ℕ) (scopes : List Scope) (chain : List ChainScope)
    (counts all counts' : List ℕ) (has found : Bool) (innermost : Option ℕ) (w : WatchedScopes)
    → IsChained rows scopes chain counts has found innermost
    → IsWatching rows scopes innermost w → (has && found && not (is_watched w key)) ≡ true
    → all ≡ counts_with_keys (keys_of chain) counts
    → ((k : ℕ) → k ≢ key → get_or counts' k 0 ≡ get_or all k 0)
    → IsInnermost rows scopes counts' innermost
chained-found rows key scopes chain counts all counts' has found innermost w h watching stays
    all_is same =
    let is = all-true has found (is_watched w key) stays in
    let none : all ≡ counts =
    all_is ∙ ap (λ cs. counts_with_keys (keys_of cs) counts) (h.apart is.0) in
    innermost-kept rows scopes (record { counts = counts; calls = 0 })
    (record { counts = counts'; calls = 0 }) innermost w key watching is.2
    (λ k other. same k other ∙ ap (λ (cs : List ℕ). get_or cs k 0) none) (h.found is.1)
  where
    all-true : (a b c : Bool) → (a && b && not c) ≡ true → (a ≡ true) × (b ≡ true) × (c ≡ false)
    all-true true true false is = (refl, refl, refl)
    all-true true true true is = absurd (false≢true is)
    all-true true false c is = absurd (false≢true is)
    all-true false b c is = absurd (false≢true is)
