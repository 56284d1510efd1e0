-- The starts of rows and of scopes, merged.
use Rattle.std.specs.Prelude.{◌≡◌, ℕ, ◌+◌, ◌^◌, ◌<◌, ◌≤◌, List, [], ◌∷◌, length, drop, Bool, true}
use Rattle.std.specs.Prelude.{false}
use Rattle.std.specs.Prelude.{nat_le, if◌then◌else◌, slice_index_or, Option, None, Some}
use Rattle.std.specs.List.Sorted.{IsNonDecreasingBy}
use Rattle.addr_table.specs.declared.starts.Start.{Start}

-- a start and the rest of its list, which `rest` merges with another list
abbrev pub merged_from : Start → (List Start → List Start) → List Start → List Start
merged_from x rest [] = x ∷ rest []
merged_from x rest (y ∷ ys) =
    if nat_le x.at y.at then x ∷ rest (y ∷ ys) else y ∷ merged_from x rest ys

-- Two ascending lists as one. At the same address, the starts of the first list come first.
abbrev pub merged : List Start → List Start → List Start
merged [] ys = ys
merged (x ∷ xs) ys = merged_from x (merged xs) ys

-- a cursor over two lists of starts, and the number taken from each
pub record Cursor : Type 0 where
  pub rows : List Start
  pub scopes : List Start
  pub row : ℕ
  pub scope : ℕ

-- its starts, and the number of those that were taken
abbrev pub starts_in : Cursor → List Start
starts_in c = merged c.rows c.scopes

abbrev pub taken_of : Cursor → ℕ
taken_of c = c.row + c.scope

-- Both lists are ascending. The rest of the merged list is the merge of the rests of both lists.
pub record IsMerging (rows scopes : List Start) (row scope : ℕ) : Type 0 where
  pub rows_rise : IsNonDecreasingBy (λ (e : Start). e.at) rows
  pub scopes_rise : IsNonDecreasingBy (λ (e : Start). e.at) scopes
  pub row_within : row ≤ length rows
  pub scope_within : scope ≤ length scopes
  pub left : drop (row + scope) (merged rows scopes) ≡ merged (drop row rows) (drop scope scopes)

-- the next start, and whether it is one of a row (true) or of a scope (false)
abbrev pub IsHead : Cursor → Start → Bool → Type 0
IsHead c e true = (c.row < length c.rows) × ((d : Start) → e ≡ slice_index_or c.rows c.row d)
    × ((d : Start) → c.scope < length c.scopes → e.at ≤ (slice_index_or c.scopes c.scope d).at)
IsHead c e false = (c.scope < length c.scopes)
    × ((d : Start) → e ≡ slice_index_or c.scopes c.scope d)
    × ((d : Start) → c.row < length c.rows → e.at < (slice_index_or c.rows c.row d).at)
    × (c.scope + 1 < 2 ^ 64)

-- the next start, and whether it is one of a row; none if all were taken
abbrev pub IsNext : Cursor → Option (Start × Bool) → Type 0
IsNext c None = (length c.rows ≤ c.row) × (length c.scopes ≤ c.scope)
IsNext c (Some h) = IsHead c h.0 h.1

pub record IsNextIn (c : Cursor) (e : Start) : Type 0 where
  pub within : taken_of c < length (starts_in c)
  pub here : (d : Start) → slice_index_or (starts_in c) (taken_of c) d ≡ e

-- Start n was taken. It was at or below an address.
pub record Takes (end : ℕ) (start : Start) (n n' : ℕ) (starts : List Start) : Type 0 where
  pub within : n < length starts
  pub is : (d : Start) → slice_index_or starts n d ≡ start
  pub low : start.at ≤ end
  pub more : n' ≡ n + 1
