-- The tables of the units.
use Rattle.dwarf_units.proofs.Common
use Common.{All, Declaration, IsParsedFrom, List, Ok, Result, Some, Table, UnitHeader, [], arith}
use Common.{declarations_limit, drop, drop_more, get_or, get_or_from_slice_get, in_section, length}
use Common.{refl, slice_get, slice_get_within, sum_by, sum_by_push, take, ℕ, ◌++◌, ◌+◌, ◌-◌, ◌<◌}
use Common.{◌∷◌, ◌≡◌, ◌≤◌}
use Rattle.dwarf_bytes.proofs.Items.{EachLaws.{each-next, made_front}, EachPlaces.each-place}
use Rattle.dwarf_bytes.specs.{Items.{At, each_from}, declared.fault.Section.Section}
use Rattle.dwarf_forms.proofs.EncodedTables.{table-decoded}
use Rattle.dwarf_forms.specs.Tables.{declarations_of, table_at}
use Rattle.dwarf_units.specs.Units.{tables_of}
use Rattle.dwarf_bytes.specs.declared.fault.Section.TheVariants as sections

abbrev pub table_for : List ℕ → List (List Declaration) → UnitHeader → Result (List Declaration) At
table_for section before header = declarations_of (declarations_limit - sum_by length before)
    section header.abbreviations

-- The tables of the units before the index are parsed, and `left` declarations remain in the
-- budget.
pub record AreParsedSoFar (section : List ℕ) (units : List UnitHeader) (index left : ℕ)
    : Type 0 where
  pub made : List (List Declaration)
  pub counted : left + sum_by length made ≡ declarations_limit
  pub read : made_front made (each_from (table_for section) made (drop index units))
      ≡ each_from (table_for section) [] units

pub in_section-ok : {X : Type 0} (section : Section) (r : Result X At) (x : X)
    → in_section section r ≡ Ok x → r ≡ Ok x
in_section-ok section r x h = grind arith

pub checked-next : (section : List ℕ) (units : List UnitHeader) (index left after : ℕ)
    (d : UnitHeader) (table : List Declaration) → AreParsedSoFar section units index left
    → index < length units
    → in_section sections.DebugAbbrev (declarations_of left section
    (get_or units index d).abbreviations) ≡ Ok table → after + length table ≡ left
    → AreParsedSoFar section units (index + 1) after
checked-next section units index left after d table so_far within found counted =
    let unit = get_or units index d in
    let budget : declarations_limit - sum_by length so_far.made ≡ left =
    omega (arith, so_far.counted) in
    let next = each-next (table_for section) so_far.made unit (drop (index + 1) units) table in
    record {
      made = so_far.made ++ table ∷ [];
      counted = omega (arith, so_far.counted, counted, sum_by_push length so_far.made table);
      read = grind (arith, budget, next, found, drop_more units index d within, so_far.read);
    }

-- A table that was parsed is parsed to the same result with any budget that is large enough.
pub table-again : (budget other : ℕ) (section : List ℕ) (offset : ℕ) (table : List Declaration)
    → declarations_of budget section offset ≡ Ok table → length table ≤ other
    → declarations_of other section offset ≡ Ok table
unfolding table_at
table-again budget other section offset table read few = grind (
  arith,
  λ (x : List Declaration × ℕ). (table-decoded budget section offset x.0 x.1).0,
  λ (x : List Declaration × ℕ). (table-decoded other section offset x.0 x.1).1,
)

-- A table that was parsed is parsed to the same result with the whole budget.
pub table-whole : (budget : ℕ) (section : List ℕ) (offset : ℕ) (table : List Declaration)
    → budget ≤ declarations_limit → declarations_of budget section offset ≡ Ok table
    → (declarations_of declarations_limit section offset ≡ Ok table) × (length table ≤ budget)
table-whole budget section offset table few read = grind (
  arith,
  λ (x : List Declaration × ℕ). (table-decoded budget section offset x.0 x.1).0,
  table-again budget declarations_limit section offset table read,
)

-- The table of a unit is the result of parsing it with the whole budget.
pub table_is : (section : List ℕ) (headers : List UnitHeader) (tables : List (List Declaration))
    (index : ℕ) (d : UnitHeader) → tables_of section headers ≡ Ok tables → index < length headers
    → declarations_of declarations_limit section (get_or headers index d).abbreviations
    ≡ Ok (get_or tables index [])
unfolding tables_of
table_is section headers tables index d all within =
    (table-whole (declarations_limit - sum_by length (take index tables)) section
    (get_or headers index d).abbreviations (get_or tables index []) (omega arith)
    (each-place (table_for section) [] headers tables all index d [] within)).0

-- A table that was parsed is the table at its offset.
pub parsed_at : (section : List ℕ) (budget : ℕ) (table : Table) (offset : ℕ)
    → table.section ≡ section → table.offset ≡ offset
    → in_section sections.DebugAbbrev (declarations_of budget section offset)
    ≡ Ok table.declarations → budget ≤ declarations_limit → IsParsedFrom section table
parsed_at section budget table offset in_same same read few =
    grind (arith, table-whole budget section offset table.declarations few)

-- A property of every element is a property of the element at an index.
pub all-at : {X : Type 0} (P : X → Type 0) (xs : List X) (i : ℕ) (x : X) → All P xs
    → slice_get xs i ≡ Some x → P x
all-at P xs i x all at = rw (get_or_from_slice_get xs i x x at)
    at (all i x (slice_get_within xs i x at))

-- A parsed table is parsed again with any budget that is large enough.
pub parsed_again : (section : List ℕ) (table : Table) (offset left : ℕ)
    → IsParsedFrom section table → table.offset ≡ offset → length table.declarations ≤ left
    → in_section sections.DebugAbbrev (declarations_of left section offset) ≡ Ok table.declarations
parsed_again section table offset left parsed same few = rw
    (table-again declarations_limit left section offset table.declarations (rw same at parsed.1)
    few) refl

-- A parsed table with more declarations than the remaining budget is refused.
pub parsed-too-long : {X : Type 0} (section : List ℕ) (table : Table) (offset left : ℕ)
    (read : List Declaration) → IsParsedFrom section table → table.offset ≡ offset
    → in_section sections.DebugAbbrev (declarations_of left section offset) ≡ Ok read
    → left ≤ declarations_limit → left < length table.declarations → X
parsed-too-long section table offset left read parsed same is_read few past =
    grind (arith, table-whole left section offset read few, parsed.1)
