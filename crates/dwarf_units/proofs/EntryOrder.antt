-- The entries of a unit: their offsets are increasing, and each can be re-read at its offset.
use Rattle.dwarf_units.proofs.Common
use Common.{Declaration, Die, Format, Item, List, Lists, LocatedNode, None, Ok, Option, Some}
use Common.{UnitHeader, [], add-one, arith, depth_after, die_of, entries_of, filter_map, length}
use Common.{length-take, map, node_at, slice_get, suc, take, zero, ℕ, ◌++◌, ◌+◌, ◌∷◌, ◌≡◌, ◌≤◌}
use Rattle.dwarf_bytes.proofs.{Items.ItemLaws.{Lists-each, Lists-within}, Numbers.Advance.bind_ok}
use Rattle.dwarf_bytes.specs.Items.{items_from}
use Rattle.dwarf_units.proofs.EntryAdvances.{node_at-advances}
use Rattle.dwarf_units.specs.{Entries.{AreDepths, entry_at}, Rising.RiseWithin}
use Rattle.std.specs.List.{Sorted.IsStrictlyIncreasing, cons_option}

-- The depths of the nodes of a unit are the counted depths.
pub nodes_are_depths : (format : Format) (table : List Declaration) (unit : List ℕ) (end at : ℕ)
    (all : List LocatedNode) (after : ℕ) → items_from end (node_at format table unit) [] at
    ≡ Ok (all, after) → AreDepths all
nodes_are_depths format table unit end at all after h i d within =
    Lists-each (λ before x. x.depth ≡ depth_after before) (node_at format table unit)
    (λ before at x after is. grind arith) [] at all after
    (Lists-within _ (node_at format table unit) [] at all after h) i d within

-- The entries of a unit are the nodes of its listing that are not null.
pub list-in : (info : List ℕ) (header : UnitHeader) (table : List Declaration) (dies : List Die)
    → entries_of info header table ≡ Ok dies → (all : List LocatedNode) × (after : ℕ)
    × (items_from header.end (node_at header.format table (take header.end info)) [] header.first
    ≡ Ok (all, after))
    × Lists (node_at header.format table (take header.end info)) [] header.first all after
    × (filter_map die_of all ≡ dies)
unfolding entries_of
list-in info header table dies h =
    let node = node_at header.format table (take header.end info) in
    let all = bind_ok (items_from header.end node [] header.first) _ dies h in (
      all.0.0,
      all.0.1,
      all.1,
      Lists-within _ node [] header.first all.0.0 all.0.1 all.1,
      grind (arith, all.2),
    )

-- ---- increasing offsets

-- The offsets of the listed entries are increasing, up to any end at or after the end of the unit.
list-rises : (format : Format) (table : List Declaration) (unit : List ℕ) (end : ℕ)
    → length unit ≤ end → (before : List LocatedNode) (at : ℕ) (all : List LocatedNode) (after : ℕ)
    → Lists (node_at format table unit) before at all after
    → (from : ℕ) → from ≤ at → at ≤ end → RiseWithin from end (filter_map die_of all)
list-rises format table unit end size before at [] after h from le within =
    omega (arith, le, within)
list-rises format table unit end size before at (x ∷ all) after h from le within =
    let moved = node_at-advances format table unit before at x h.0 h.1 in
    let rest = list-rises format table unit end size (before ++ x ∷ []) h.0 all after h.2 in
    grind (arith, h.1, moved, rest)

-- The offsets of the entries of a unit are increasing, from the start of the unit up to its end.
pub entries-rise : (info : List ℕ) (header : UnitHeader) (table : List Declaration)
    (dies : List Die) → entries_of info header table ≡ Ok dies → header.start ≤ header.first
    → header.first ≤ header.end → RiseWithin header.start header.end dies
entries-rise info header table dies h front back =
    let all = list-in info header table dies h in
    rw (← all.4) (list-rises header.format table (take header.end info) header.end
    (omega (arith, length-take header.end info)) [] header.first all.0 all.1 all.3 header.start
    front back)

-- Offsets that are increasing within an interval are strictly increasing.
pub increasing : (from end : ℕ) (dies : List Die) → RiseWithin from end dies
    → IsStrictlyIncreasing (map (λ (die : Die). die.offset) dies)
increasing from end [] rise k lt = absurd (omega (arith, lt))
increasing from end (die ∷ []) rise k lt = absurd (omega (arith, lt))
increasing from end (die ∷ next ∷ dies) rise zero lt = let first = rise.1.0 in omega (arith, first)
increasing from end (die ∷ next ∷ dies) rise (suc k) lt =
    rw add-one (rw add-one at (increasing (suc die.offset) end (next ∷ dies) rise.1 k
    (omega (arith, lt))))

pub offsets_rise : (info : List ℕ) (header : UnitHeader) (table : List Declaration)
    (dies : List Die) → entries_of info header table ≡ Ok dies
    → IsStrictlyIncreasing (map (λ (die : Die). die.offset) dies)
offsets_rise info header table dies h =
    let all = list-in info header table dies h in
    let unit : List ℕ = take header.end info in
    rw (← all.4) (increasing 0 (header.first + length unit) (filter_map die_of all.0)
    (list-rises header.format table unit (header.first + length unit) (omega arith) [] header.first
    all.0 all.1 all.3 0 (omega arith) (omega arith)))

-- ---- entries that are re-read

-- Reading the entry at the offset of an entry returns its tag and attributes.
abbrev IsReadAgain : Format → List Declaration → List ℕ → Die → Type 0
IsReadAgain format table unit die = (after : ℕ)
    × (entry_at format table unit die.offset ≡ Ok ((die.tag, die.attributes), after))

node_at-again : (format : Format) (table : List Declaration) (unit : List ℕ)
    (before : List LocatedNode) (at : ℕ) (x : LocatedNode) (after : ℕ) (die : Die)
    → node_at format table unit before at ≡ Ok (Item x after) → die_of x ≡ Some die
    → IsReadAgain format table unit die
unfolding entry_at
node_at-again format table unit before at x after die h is = (after, grind (arith, is))

-- An element is the first one, if there is one, or it is one of the others.
first-or-later : {X P : Type 0} (first : Option X) (others : List X) (i : ℕ) (x : X)
    → slice_get (cons_option first others) i ≡ Some x → (first ≡ Some x → P)
    → ((k : ℕ) → slice_get others k ≡ Some x → P) → P
first-or-later None others i x is here later = later i is
first-or-later (Some y) others zero x is here later = here is
first-or-later (Some y) others (suc i) x is here later = later i is

-- This holds for every entry of a listing.
list-reread : (format : Format) (table : List Declaration) (unit : List ℕ)
    (before : List LocatedNode) (at : ℕ) (all : List LocatedNode) (after : ℕ)
    → Lists (node_at format table unit) before at all after
    → (i : ℕ) (die : Die) → slice_get (filter_map die_of all) i ≡ Some die
    → IsReadAgain format table unit die
list-reread format table unit before at [] after h i die is = cc
list-reread format table unit before at (x ∷ all) after h i die is =
    first-or-later (die_of x) (filter_map die_of all) i die is
    (node_at-again format table unit before at x h.0 die h.1)
    (λ k there. list-reread format table unit (before ++ x ∷ []) h.0 all after h.2 k die there)

pub entries_again : (info : List ℕ) (header : UnitHeader) (table : List Declaration)
    (dies : List Die) → entries_of info header table ≡ Ok dies
    → (i : ℕ) (die : Die) → slice_get dies i ≡ Some die
    → (after : ℕ) × (entry_at header.format table (take header.end info) die.offset
    ≡ Ok ((die.tag, die.attributes), after))
entries_again info header table dies h i die is =
    let all = list-in info header table dies h in
    list-reread header.format table (take header.end info) [] header.first all.0 all.1 all.3 i die
    (rw all.4 is)
