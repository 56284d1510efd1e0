-- The cache of tables: finding the table of a unit, and keeping it as tables are added.
use Rattle.dwarf_units.proofs.Common
use Common.{All, All-push, AreCached, CachedTables, Format, IsCachedOrTooLarge, IsParsedFrom, List}
use Common.{Some, Table, UnitHeader, [], append-nil, arith, at-last, cases_lt, common_steps}
use Common.{declarations_limit, drop, get_or, get_or-take, get_or_from_slice_get, inl, inr, length}
use Common.{length-append, length-take-le, refl, slice_get, slice_get_within, sum_by, sum_by-append}
use Common.{sum_by_push, sym, table_size, take, take-append_seam, take-length, take_all, with_table}
use Common.{ℕ, ◌++◌, ◌+◌, ◌-◌, ◌<◌, ◌∙◌, ◌∷◌, ◌≡◌, ◌≤◌, ◌⊎◌}
use Rattle.abbreviation_memo.proofs.MapLaws.{Puts}
use Rattle.dwarf_forms.proofs.Elements.{at-end, at-front}
use Rattle.dwarf_units.{proofs.TableLaws.{all-at, parsed_at}, specs.AbbreviationTables.table_key}
use Rattle.dwarf_units.specs.{Private.Tables.{IsAdded, IsIndexOf, StaysCached}, Tables.AreElsewhere}
use Rattle.dwarf_units.specs.Tables.{IsTableAt, size_limit}
use Rattle.std.proofs.lemmas.{Bool.{le-leb, lt-leb}, List.{Elements.All-take, take-append-drop}}
use Rattle.std.{proofs.lemmas.{List.take_more, Option.slice_get_read}, specs.BTreeMap.BTreeMap}
use Rattle.std.specs.{BTreeMap.get, Ordering.nat_cmp}

-- ---- one more table

-- Tables with the same key are at the same offset, for units of the same format.
same-key : (f g : Format) (at offset : ℕ) → table_key f at ≡ table_key g offset
    → (at ≡ offset) × (f ≡ g)
same-key f g at offset same = grind arith

-- A table among the first ones is a table of the list.
taken : (tables : List Table) (permanent i : ℕ) (table : Table)
    → slice_get (take permanent tables) i ≡ Some table → slice_get tables i ≡ Some table
taken tables permanent i table at = rw (take-append-drop permanent tables)
    at (at-front (take permanent tables) (drop permanent tables) i table at)

-- The invariant holds after the temporary table is removed.
pub cached-truncated : {section : List ℕ} {tables before : List Table} {permanent budget : ℕ}
    {numbers next : BTreeMap ℕ ℕ} (format : Format) (offset : ℕ)
    → AreElsewhere format offset tables → Puts numbers next (table_key format offset) permanent
    → before ≡ take permanent tables
    → AreCached section tables permanent budget numbers
    → AreCached section before permanent budget next
cached-truncated {section = section} {tables = tables} {permanent = permanent} format offset
    elsewhere puts is all =
    let len : length (take permanent tables) ≡ permanent =
    length-take-le permanent tables all.within in
    let again : take permanent (take permanent tables) ≡ take permanent tables =
    take_all permanent (take permanent tables) (omega (arith, len)) in
    rw is (record {
      parsed = All-take (IsParsedFrom section) permanent tables all.parsed;
      found = λ i table at.
          let here = taken tables permanent i table at in
          grind (
            arith,
            common_steps,
            same-key,
            puts (table_key table.format table.offset),
            elsewhere i table here,
            all.found i table here,
          );
      counted = rw again all.counted;
      within = omega (arith, len);
      one = omega (arith, len);
      past = λ t at. absurd
          (omega (arith, slice_get_within (take permanent tables) permanent t at, len));
    })

abbrev pub cached : List ℕ → List Table → ℕ → CachedTables
cached section tables permanent =
    record { section = section; tables = tables; permanent = permanent }

-- A table of this size is the last one of `after`: `now` tables are permanent after it is added,
-- and `left` of the budget remains.
abbrev pub IsPlaced : List Table → ℕ → ℕ → ℕ → ℕ → ℕ → Type 0
IsPlaced after permanent budget now left size =
    ((size ≤ budget) × (now ≡ length after) × (left ≡ budget - size))
    ⊎ ((budget < size) × (now ≡ permanent) × (left ≡ budget))

-- After a table is added, the invariant holds, and the cache is the one with the table.
pub added : {section : List ℕ} {tables after : List Table} {permanent budget : ℕ} (now left : ℕ)
    {numbers next : BTreeMap ℕ ℕ} (table : Table) (size : ℕ)
    → AreElsewhere table.format table.offset tables
    → Puts numbers next (table_key table.format table.offset) permanent
    → IsParsedFrom section table → after ≡ take permanent tables ++ table ∷ []
    → size ≡ table_size table → IsPlaced after permanent budget now left size
    → AreCached section tables permanent budget numbers → AreCached section after now left next
    × (cached section after now ≡ with_table (cached section tables permanent) table)
added {section = section} {tables = tables} {after = after} {permanent = permanent}
    {budget = budget} now left {next = next} table size elsewhere puts parsed is size_is placed
    all =
    let before : List Table = take permanent tables in
    let short : AreCached section before permanent budget next =
    cached-truncated table.format table.offset elsewhere puts refl all in
    let len : length before ≡ permanent = length-take-le permanent tables all.within in
    let key : ℕ = table_key table.format table.offset in
    let here : get nat_cmp next key ≡ Some permanent = grind (arith, common_steps, puts key) in
    let more = length-append before (table ∷ []) in
    let sum = sum_by_push table_size before table in (
      record {
        parsed = rw is (All-push (IsParsedFrom section) before table short.parsed parsed);
        found = λ i t at.
            grind (arith, is, at-last before table t i (rw is at at), here, len, short.found i t);
        counted = grind (
          arith,
          all.counted,
          sum,
          rw len at (take-append_seam before (table ∷ [])),
          take-length (before ++ table ∷ []),
        );
        within = grind (arith, more);
        one = grind (arith, more);
        past = λ t at. grind (
          arith,
          at,
          slice_get_within after now t,
          at-end before table permanent (sym len),
        );
      },
      rw is (grind (arith, common_steps, is, placed, size_is, all.counted, sum)),
    )

-- ---- the table of a unit

got-taken : (tables : List Table) (permanent i : ℕ) (table : Table) → i < permanent
    → permanent ≤ length tables
    → slice_get tables i ≡ Some table → slice_get (take permanent tables) i ≡ Some table
got-taken tables permanent i table lt within at =
    slice_get_read (take permanent tables) permanent i table
    (sym (length-take-le permanent tables within)) lt
    (sym (get_or-take permanent tables i table lt ∙ get_or_from_slice_get tables i table table at))

-- The table is cached permanently, or it would exceed the limit.
abbrev IsKept : CachedTables → Table → Type 0
IsKept k table = ((number : ℕ) × (slice_get (take k.permanent k.tables) number ≡ Some table))
    ⊎ (size_limit k.section < sum_by table_size (take k.permanent k.tables) + table_size table)

-- The table of a unit is at an index of the cache.
module _ {section : List ℕ} {tables : List Table} {permanent budget : ℕ} {numbers : BTreeMap ℕ ℕ}
    (unit : UnitHeader) (number : ℕ) (are : AreCached section tables permanent budget numbers)
    (is : IsTableAt unit.format unit.abbreviations tables number) where
  pub index-some : IsIndexOf (cached section tables permanent) unit number
  index-some = record {
    table = is.0;
    found = is.1;
    at = is.2;
    parsed = all-at (IsParsedFrom section) tables number is.0 are.parsed is.1;
    only = λ other same at is_same.
        grind (arith, are.found number is.0 is.1, is.2, are.found other same at, is_same);
  }

  -- The table is permanent, or exceeds the limit.
  pub index-stays : IsCachedOrTooLarge (cached section tables permanent) unit
  index-stays = (
    is.0,
    is.2,
    all-at (IsParsedFrom section) tables number is.0 are.parsed is.1,
    elim (cases_lt number permanent) [
      | inl lt ↦ inl (number, got-taken tables permanent number is.0 lt are.within is.1)
      | inr le ↦
          let within = slice_get_within tables number is.0 is.1 in
          let last : number ≡ permanent = omega (arith, le, within, are.one) in
          inr (omega (arith, are.past is.0 (rw last at is.1), are.counted))
    ],
  )

-- What holds for the table of a unit still holds after more tables are cached.
pub stays-on : (old new : CachedTables) (unit : UnitHeader) → StaysCached old new
    → new.section ≡ old.section → IsCachedOrTooLarge old unit → IsCachedOrTooLarge new unit
stays-on old new unit grows same (table, at, parsed, is) =
    let before : List Table = take old.permanent old.tables in (
      table,
      at,
      rw same parsed,
      elim is [
        | inl there ↦ inl (there.0, rw grows.1 (at-front before grows.0 there.0 table there.1))
        | inr large ↦
            rw (grows.1, same) (inr (omega (arith, large, sum_by-append table_size before grows.0)))
      ],
    )

-- A table that is added stays in the cache, or exceeds the limit.
kept-with : (old : CachedTables) (table : Table) → old.permanent ≤ length old.tables
    → IsKept (with_table old table) table × StaysCached old (with_table old table)
kept-with old table within =
    let before : List Table = take old.permanent old.tables in
    let after : List Table = before ++ table ∷ [] in
    elim (cases_lt (size_limit old.section) (sum_by table_size after)) [
      | inl past ↦
          let front : take old.permanent after ≡ before =
          rw (length-take-le old.permanent old.tables within)
          at (take-append_seam before (table ∷ [])) in
          rw (lt-leb (sum_by table_size after) (size_limit old.section) past, front) (
            inr (omega (arith, past, sum_by_push table_size before table)),
            ([], sym (append-nil before)),
          )
      | inr fits ↦
          rw (le-leb (sum_by table_size after) (size_limit old.section) fits, take-length after)
          (inl (length before, at-end before table (length before) refl), (table ∷ [], refl))
    ]

-- A table that was parsed for a unit stays in the cache, or exceeds the limit.
pub stays_parsed : (old new : CachedTables) (unit : UnitHeader) (budget number : ℕ)
    → old.permanent ≤ length old.tables → budget ≤ declarations_limit
    → IsAdded unit.format unit.abbreviations budget old new number
    → IsCachedOrTooLarge new unit × StaysCached old new
stays_parsed old new unit budget number within few added =
    let parsed : IsParsedFrom old.section added.table =
    parsed_at old.section budget added.table unit.abbreviations added.within added.at.0 added.read
    few in
    let kept = kept-with old added.table within in
    rw added.added ((added.table, added.at, parsed, kept.0), kept.1)

-- It holds for the units up to the next index.
pub stays-next : (old new : CachedTables) (units : List UnitHeader) (index : ℕ) (d : UnitHeader)
    → StaysCached old new → new.section ≡ old.section → index < length units
    → IsCachedOrTooLarge new (get_or units index d) → All (IsCachedOrTooLarge old)
    (take index units)
    → All (IsCachedOrTooLarge new) (take (index + 1) units)
stays-next old new units index d grows same within here all = rw (take_more units index d within)
    (All-push (IsCachedOrTooLarge new) (take index units) (get_or units index d)
    (λ k u lt. stays-on old new (get_or (take index units) k u) grows same (all k u lt)) here)
