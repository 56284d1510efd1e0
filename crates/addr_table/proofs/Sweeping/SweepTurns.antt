-- One iteration of the sweep.
use Rattle.std.proofs.Common.{[], ◌≡◌, ℕ, ◌+◌, ◌-◌, ◌^◌, ◌<◌, ◌≤◌, List, ◌++◌, length, take, drop}
use Rattle.std.proofs.Common.{ap}
use Rattle.std.proofs.Common.{arith}
use Rattle.std.specs.Prelude.{Option}
use Rattle.dwarf_lines.specs.declared.row.Row.{Row}
use Rattle.dwarf_entries.specs.Scopes.{Scope}
use Rattle.addr_table.specs.declared.open_ends.End.{End}
use Rattle.addr_table.specs.declared.starts.Start.{Start}
use Rattle.addr_table.specs.Rows.{row_at}
use Rattle.dwarf_entries.specs.Order.{AreNumbered}
use Rattle.addr_table.specs.Chains.{chain_of}
use Rattle.addr_table.specs.Places.{place_of, scope_at}
use Rattle.addr_table.specs.Segments.{Segment, segment_of, segments_of, least_calls, most_calls}
use Rattle.addr_table.specs.Private.Bits.{is_filled, IsFirstIn}
use Rattle.addr_table.specs.Private.Active.{ActiveSet, one_more}
use Rattle.addr_table.specs.Private.Sweep.{reaches_of, AreStarts, UpTo, Above, Closes}
use Rattle.addr_table.specs.Private.Sweep.{IsOpen, IsNext, IsActiveAt, IsSweeping, end_cost}
use Rattle.addr_table.proofs.Sweeping.KeyLaws.{row-first}
use Rattle.addr_table.proofs.Endpoints.EndTurns.{moves-on}
use Rattle.addr_table.proofs.Sweeping.SweepLaws.{rows-at, scopes-at, same-open, sweep-next}
use Rattle.addr_table.proofs.Sweeping.SweepLaws.{sweep-end}

-- ---- one iteration

-- After an endpoint: the ranges that started and that are open, and the row and the scope there.
pub record IsPast (rows : List Row) (scopes : List Scope) (starts : List Start) (p p' e : ℕ)
    (ends ends' : List End) (active active' : ActiveSet) (row scope : Option ℕ) : Type 0 where
  pub opened : IsOpen starts p' (e + 1) ends' active'
  pub started : UpTo e (take p' starts)
  pub unstarted : Above e (drop p' starts)
  pub smaller : (length starts - p') + (length starts - p') + length ends'
      < (length starts - p) + (length starts - p) + length ends
  pub calls : active'.calls + length ends' + (p + p) ≤ active.calls + length ends + (p' + p')
      + end_cost scopes e
  pub len : length active'.counts ≡ length rows + length scopes + length scopes
  pub row_is : row ≡ row_at rows e
  pub scope-is : scope ≡ scope_at scopes e

pub turn-next : (rows : List Row) (scopes : List Scope) (starts : List Start) (p p' e f : ℕ)
    (ends ends' : List End) (active active' : ActiveSet) (out out' : List Segment)
    (row scope : Option ℕ)
    → AreStarts (reaches_of rows scopes) starts
    → IsSweeping rows scopes starts p e ends active out
    → IsPast rows scopes starts p p' e ends ends' active active' row scope
    → out' ≡ out ++ segment_of e f (place_of row scope e) → IsNext starts ends' p' f
    → IsSweeping rows scopes starts p' f ends' active' out'
turn-next rows scopes starts p p' e f ends ends' active active' out out' row scope h s t out_is
    next =
    sweep-next rows scopes starts p p' e f ends ends' active active' out out' row scope h s
    t.opened t.started t.unstarted t.calls t.len t.row_is t.scope-is out_is next

pub turn-end : (rows : List Row) (scopes : List Scope) (starts : List Start) (p p' e : ℕ)
    (ends ends' : List End) (active active' : ActiveSet) (out : List Segment)
    (row scope : Option ℕ)
    → AreStarts (reaches_of rows scopes) starts
    → IsSweeping rows scopes starts p e ends active out
    → IsPast rows scopes starts p p' e ends ends' active active' row scope
    → (length starts ≤ p') × (ends' ≡ [])
    → (out ≡ segments_of rows scopes) × (least_calls rows scopes ≤ active'.calls)
    × (active'.calls ≤ most_calls rows scopes)
turn-end rows scopes starts p p' e ends ends' active active' out row scope h s t none =
    sweep-end rows scopes starts p p' e ends ends' active active' out h s t.opened t.started
    t.calls none

-- the parts of an iteration: ranges are closed, ranges are opened, and the row and the scope are
-- found
pub turn : (rows : List Row) (scopes : List Scope) (starts : List Start) (p p' e : ℕ)
    (ends0 ends1 ends2 : List End) (active0 active1 active2 active3 active4 : ActiveSet)
    (row scope : Option ℕ) (out : List Segment)
    → AreNumbered 0 (length scopes) scopes → AreStarts (reaches_of rows scopes) starts
    → IsSweeping rows scopes starts p e ends0 active0 out
    → Closes e ends0 ends1
    → active1.calls + length ends1 ≤ active0.calls + length ends0
    → IsOpen starts p' (e + 1) ends2 active2
    → UpTo e (take p' starts) → Above e (drop p' starts) → p ≤ p'
    → active2.calls + length ends2 + (p + p) ≤ active1.calls + length ends1 + (p' + p')
    → length ends2 + p ≤ length ends1 + p'
    → length active1.counts ≡ length active0.counts → length active2.counts ≡ length active1.counts
    → IsFirstIn (is_filled active2.counts) 0 (length rows) row → active3.counts ≡ active2.counts
    → active3.calls ≡ one_more active2.calls
    → (IsActiveAt (length rows) scopes e active3.counts → scope ≡ scope_at scopes e)
    → (IsActiveAt (length rows) scopes e active3.counts
    → active4.calls ≤ active3.calls + length (chain_of e scopes) + 1)
    → active4.counts ≡ active3.counts
    → ((n : ℕ) → n < 2 ^ 64 → n ≤ active3.calls → n ≤ active4.calls)
    → IsPast rows scopes starts p p' e ends0 ends2 active0 active4 row scope
turn rows scopes starts p p' e ends0 ends1 ends2 active0 active1 active2 active3 active4 row scope
    out numbered h s closes calls1 b2 low high more calls2 fewer len1 len2 first counts3 calls3
    found
    few counts4 least =
    let b3 = same-open starts p' (e + 1) ends2 active2 active3 b2 counts3
    (λ n lt le. omega (arith, lt, le, calls3)) in
    let at = scopes-at rows scopes starts p' e ends2 active3 numbered h b3 low high in
    let last = few at in
    let l3 : length active3.counts ≡ length active2.counts = ap length counts3 in
    let l4 : length active4.counts ≡ length active3.counts = ap length counts4 in
    let l0 = s.len in
    record {
      opened = same-open starts p' (e + 1) ends2 active3 active4 b3 counts4 least;
      started = low;
      unstarted = high;
      smaller = moves-on starts p p' e ends0 ends1 ends2 s.next closes high more fewer b2.within;
      calls = omega arith;
      len = omega arith;
      row_is = row-first rows e active2.counts row
          (rows-at rows scopes starts p' e ends2 active2 h b2 low high) first;
      scope-is = found at;
    }
