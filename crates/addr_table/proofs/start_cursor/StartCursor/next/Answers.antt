use Rattle.std.proofs.Common.{◌≡◌, ◌<◌, ◌≤◌, length, ap, subst, slice_index_or}
use Rattle.addr_table.specs.declared.starts.Start.{Start}
use Rattle.addr_table.specs.Private.Merged.{Cursor, IsNext, starts_in, taken_of}
use Rattle.addr_table.proofs.Endpoints.MergeLaws.{head-next}
use Rattle.addr_table.proofs.Endpoints.MergeRests.{none-next}
use Rattle.addr_table.proofs.start_cursor.StartCursor.next.Goals as goal

pub returns-in-Some : goal.returns-in-Some
returns-in-Some c =
    let next = head-next _ c.in-Some.start c.in-Some.field-0-1 c.self.invariant.0
    (subst (IsNext _) c.in-Some.is c.self.invariant.1) in
    let P : Cursor → Type 0 = λ x. (taken_of x < length (starts_in x))
    × ((d : Start) → (slice_index_or (starts_in x) (taken_of x) d).at ≡ c.in-Some.start.at) in
    subst P c.self.view_is (next.within, λ d. ap (λ (e : Start). e.at) (next.here d))

pub returns-in-None : goal.returns-in-None
returns-in-None c =
    let none = subst (IsNext _) c.in-None.is c.self.invariant.1 in
    let P : Cursor → Type 0 = λ x. length (starts_in x) ≤ taken_of x in
    subst P c.self.view_is (none-next _ c.self.invariant.0 none.0 none.1)
