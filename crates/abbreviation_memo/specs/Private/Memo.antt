-- The invariant of the memo, and what the memo reads.
use Rattle.abbreviation_memo.specs.{Lists.list_at, Private.NameSets.is_in}
use Rattle.abbreviation_memo.specs.declared.{memoized_lists.Memo.Memo, name_sets.Branch.Branch}
use Rattle.dwarf_forms.specs.Tables.{attributes_at}
use Rattle.dwarf_forms.specs.declared.attribute.AttributeSpecification.{AttributeSpecification}
use Rattle.std.specs.{BTreeMap.{BTreeMap, get}, List.list_any, Ordering.nat_cmp}
use Rattle.std.specs.Prelude.{List, Ok, Some, [], length, ℕ, ◌<◌, ◌==◌, ◌≡◌}

-- the set contains the names of the attributes
pub record HasNames (sets : List Branch) (set : ℕ) (attributes : List AttributeSpecification)
    : Type 0 where
  pub within : set < length sets
  pub names : (name : ℕ) → is_in sets set name
      ≡ list_any (λ attribute. attribute.name == name) attributes

-- The list at the offset is valid. The memo has the offset after it and the set of its names.
pub record IsMemo (section : List ℕ) (sets : List Branch) (place : ℕ) (memo : Memo) : Type 0 where
  pub read : attributes_at section place ≡ Ok (list_at section place, memo.after)
  pub named : HasNames sets memo.names (list_at section place)

pub record AreMemos (section : List ℕ) (memos : BTreeMap ℕ Memo) (sets : List Branch)
    : Type 0 where
  pub each : (place : ℕ) (memo : Memo) → get nat_cmp memos place ≡ Some memo
      → IsMemo section sets place memo
  pub empty : HasNames sets 0 []
