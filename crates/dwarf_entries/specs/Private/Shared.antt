-- The lists that scopes share, for the contracts of the pass over scopes.
use Rattle.std.specs.Prelude.{◌≡◌, ℕ, ◌-◌, ◌≤◌, ◌<◌, List, [], ◌∷◌, ◌++◌, length, Result, Ok, Err}
use Rattle.std.specs.Prelude.{◌==◌, if◌then◌else◌, slice_get, ◌^◌, Option, IfSome, take, drop}
use Rattle.std.specs.Option.{option_map_or}
use Rattle.dwarf_bytes.specs.{declared.fault.Cause.Cause, Refusals.Fails}
use Rattle.dwarf_entries.specs.{Private.PackedNames.unpacked_text, Scopes.{Scope, scope_of}}
use Rattle.dwarf_entries.specs.Scopes.{ParsedScope, stmt_list_by_number, wide_index}
use Rattle.dwarf_entries.specs.declared.{calls.{CallSite.CallSite, Calls.Calls}, scope.Root.Root}
use Rattle.dwarf_entries.specs.declared.scope.{Scope.Scope as StoredScope, ScopeFacts.ScopeFacts}
use Rattle.dwarf_entries.specs.declared.scope_lists.ScopeLists.{ScopeLists}
use Rattle.dwarf_ranges.specs.declared.range.Range.{Range}
use Rattle.dwarf_entries.specs.declared.calls.Calls.TheVariants as calls

-- The data of a scope before it is packed, given the roots and its ranges.
abbrev pub facts_of : List Root → List Range → ScopeFacts → Scope
facts_of roots ranges s = record {
  kind = s.kind;
  offset = s.offset;
  number = s.number;
  end = s.«end»;
  ranges = ranges;
  name = unpacked_text s.name;
  linkage_name = unpacked_text s.linkage_name;
  stmt_list = stmt_list_by_number roots s.number;
  call_file = s.site.file;
  call_line = s.site.line;
}

-- The same, with its ranges appended to those before.
abbrev pub AddsFacts : List Root → Result (ScopeFacts × ℕ) Cause → List Range → List Range
    → Result ParsedScope Cause → Type 0
AddsFacts roots (Ok described) old new outcome =
    (found : List Range)
    × (outcome ≡ Ok (record { scope = facts_of roots found described.0; items = described.1 }))
    × (new ≡ old ++ found)
AddsFacts roots (Err cause) old new outcome = Fails cause outcome

-- A number of a call site has at most 16 bits, if there is one.
abbrev pub IsShort : Option ℕ → Type 0
IsShort number = IfSome number (λ n. n < 2 ^ 16)

-- A call site that is stored in a list of a given length has an index within it.
abbrev pub IsInList : ℕ → Calls → ℕ → ℕ → Type 0
IsInList many calls.Wide file line = wide_index file line < many
IsInList many c file line = Unit {0}

-- The ranges of the scopes are consecutive, from one index to another. The indexes of their call
-- sites are within a list of a given length.
abbrev pub AreConsecutive : ℕ → ℕ → ℕ → List StoredScope → Type 0
AreConsecutive many first past [] = first ≡ past
AreConsecutive many first past (s ∷ ss) =
    (first ≤ s.ranges_end) × IsInList many s.calls s.call_file s.call_line
    × AreConsecutive many s.ranges_end past ss

-- The index of the first range of the scope at an index.
abbrev pub ranges_start : ℕ → List StoredScope → ℕ → ℕ
ranges_start first scopes number =
    if number == 0 then first
    else option_map_or (λ s. s.ranges_end) (slice_get scopes (number - 1)) 0

-- The scope that is stored at an index, with its ranges.
abbrev pub scope_at_index : List Root → ScopeLists → ℕ → StoredScope → Scope
scope_at_index roots lists number s =
    let start = ranges_start 0 lists.scopes.items number in
    scope_of roots lists.wide.items (take (s.ranges_end - start) (drop start lists.ranges.items)) s

-- A packed scope has the data of the facts, given the roots, its ranges and the wide call sites.
-- Its own call site is appended to them if it is wide.
pub record Packs (facts : ScopeFacts) (ranges_end : ℕ) (old new : List CallSite) (s : StoredScope)
    : Type 0 where
  pub more : List CallSite
  pub added : new ≡ old ++ more
  pub few : IsShort facts.site.file → IsShort facts.site.line → new ≡ old
  pub in_list : IsInList (length new) s.calls s.call_file s.call_line
  pub ends : s.ranges_end ≡ ranges_end
  pub tells : (roots : List Root) (ranges : List Range)
      → scope_of roots new ranges s ≡ facts_of roots ranges facts

-- A scope is appended to the scopes before.
pub record IsPushed (facts : ScopeFacts) (old new : ScopeLists) : Type 0 where
  pub s : StoredScope
  pub packs : Packs facts (length old.ranges.items) old.wide.items new.wide.items s
  pub scopes : new.scopes.items ≡ old.scopes.items ++ s ∷ []
  pub ranges : new.ranges.items ≡ old.ranges.items
