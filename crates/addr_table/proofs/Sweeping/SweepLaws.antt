-- The iterations of the sweep.
use Rattle.std.proofs.Common.{◌≡◌, ℕ, ◌+◌, ◌^◌, ◌<◌, ◌≤◌, List, [], ◌∷◌, ◌++◌, length, map}
use Rattle.std.proofs.Common.{take, drop, get_or, ap, sym, ◌∙◌, ◌-◌, refl, arith}
use Rattle.std.specs.Prelude.{nat_lt, filter, sum_by, Option}
use Rattle.std.specs.List.{All}
use Rattle.std.proofs.lemmas.List.{length-map, append_assoc, append-nil}
use Rattle.std.proofs.lemmas.List.Elements.{All-weaker, recursion_from_All}
use Rattle.std.proofs.lemmas.List.Sums.{sum_by-cons}
use Rattle.std.proofs.lemmas.List.Sorted.{length_permutation}
use Rattle.dwarf_lines.specs.declared.row.Row.{Row}
use Rattle.dwarf_entries.specs.Scopes.{Scope}
use Rattle.addr_table.specs.declared.open_ends.End.{End}
use Rattle.addr_table.specs.declared.starts.Start.{Start}
use Rattle.addr_table.specs.Rows.{row_at}
use Rattle.dwarf_entries.specs.Order.{AreNumbered}
use Rattle.addr_table.specs.Places.{place_of, place_at, scope_at}
use Rattle.addr_table.specs.Segments.{ranges_of, ends_of, Segment, segment_of, segments_between}
use Rattle.addr_table.specs.Segments.{segments_of}
use Rattle.addr_table.specs.Segments.{least_calls, most_calls}
use Rattle.addr_table.specs.Private.Active.{ActiveSet}
use Rattle.addr_table.specs.Private.Sweep.{Reach, reaches_of, start_of, AreStarts, UpTo, Above}
use Rattle.addr_table.specs.Private.Sweep.{Closes, AreActive, IsOpen, IsNext, IsActiveAt}
use Rattle.addr_table.specs.Private.Sweep.{AreRowsActiveAt}
use Rattle.addr_table.specs.Private.Sweep.{IsSweeping, end_cost}
use Rattle.addr_table.proofs.Endpoints.OpenCounts.{open-any}
use Rattle.addr_table.proofs.Endpoints.OpenLaws.{open-closed, open-until}
use Rattle.addr_table.proofs.Sweeping.KeyLaws.{rows-active}
use Rattle.addr_table.proofs.Sweeping.ScopeKeys.{scopes-active}
use Rattle.addr_table.proofs.Endpoints.EndTurns.{later-ends, first-ends, no-ends, never-ends}
use Rattle.addr_table.proofs.Endpoints.NextEnds.{next-above}
use Rattle.addr_table.proofs.Endpoints.RangeEnds.{reaches-ranges}

-- the endpoints above one
abbrev pub later : List Row → List Scope → ℕ → List ℕ
later rows scopes e = filter (λ x. nat_lt e x) (ends_of (ranges_of rows scopes))

-- After all starts up to an address, the active rows and scopes are the ones that contain it.
pub rows-at : (rows : List Row) (scopes : List Scope) (starts : List Start) (p e : ℕ)
    (ends : List End) (active : ActiveSet)
    → AreStarts (reaches_of rows scopes) starts → IsOpen starts p (e + 1) ends active
    → UpTo e (take p starts) → Above e (drop p starts) → AreRowsActiveAt rows e active.counts
rows-at rows scopes starts p e ends active h b low high =
    rows-active rows scopes e active.counts
    (open-any (reaches_of rows scopes) starts p e ends active h b low high)

pub scopes-at : (rows : List Row) (scopes : List Scope) (starts : List Start) (p e : ℕ)
    (ends : List End) (active : ActiveSet) → AreNumbered 0 (length scopes) scopes
    → AreStarts (reaches_of rows scopes) starts → IsOpen starts p (e + 1) ends active
    → UpTo e (take p starts) → Above e (drop p starts)
    → IsActiveAt (length rows) scopes e active.counts
scopes-at rows scopes starts p e ends active numbered h b low high =
    scopes-active rows scopes e active.counts numbered
    (open-any (reaches_of rows scopes) starts p e ends active h b low high)

-- a set with the same counts and at least as many calls
pub same-open : (starts : List Start) (p x : ℕ) (ends : List End) (old new : ActiveSet)
    → IsOpen starts p x ends old → new.counts ≡ old.counts
    → ((n : ℕ) → n < 2 ^ 64 → n ≤ old.calls → n ≤ new.calls) → IsOpen starts p x ends new
same-open starts p x ends old new b counts more = record {
  within = b.within;
  open_are = b.open_are;
  active_are = λ k. ap (λ (cs : List ℕ). get_or cs k 0) counts ∙ b.active_are k;
  calls =
      let u = b.within in let w = b.few in let v = b.calls in
      let least = more (p + p - length ends) (omega arith) (omega arith) in omega arith;
  few = b.few;
}

-- the ranges that end at an address were closed
pub closed-open : (starts : List Start) (p x : ℕ) (ends ends' : List End) (old new : ActiveSet)
    → IsOpen starts p x ends old → Closes x ends ends' → AreActive ends' new
    → ((n : ℕ) → n < 2 ^ 64 → n ≤ old.calls + length ends → n ≤ new.calls + length ends')
    → IsOpen starts p (x + 1) ends' new
closed-open starts p x ends ends' old new b closes active more = record {
  within = b.within;
  open_are = open-closed starts p x ends ends' b.open_are closes;
  active_are = active;
  calls = let u = b.within in let w = b.few in more (p + p) (omega arith) b.calls;
  few = b.few;
}

-- no range ends before the next endpoint
pub open-next : (starts : List Start) (p x f : ℕ) (ends : List End) (active : ActiveSet)
    → IsOpen starts p x ends active → All (λ (e : End). f ≤ e.at) ends → x ≤ f
    → IsOpen starts p f ends active
open-next starts p x f ends active b from le = record {
  within = b.within;
  open_are = open-until starts p x f ends b.open_are
      (recursion_from_All (λ (e : End). f ≤ e.at) ends from) le;
  active_are = b.active_are;
  calls = b.calls;
  few = b.few;
}

-- there are as many starts as ranges
pub lengths : (rows : List Row) (scopes : List Scope) (starts : List Start)
    → AreStarts (reaches_of rows scopes) starts
    → length starts ≡ length (ranges_of rows scopes)
lengths rows scopes starts h =
    let s : length starts ≡ length (map start_of (reaches_of rows scopes)) =
    length_permutation (map start_of (reaches_of rows scopes)) starts h.starts_are in
    let m : length (map start_of (reaches_of rows scopes)) ≡ length (reaches_of rows scopes) =
    length-map (reaches_of rows scopes) start_of in
    let r : length (map (λ (r : Reach). r.range) (reaches_of rows scopes))
    ≡ length (reaches_of rows scopes) =
    length-map (reaches_of rows scopes) (λ (r : Reach). r.range) in
    let a : length (map (λ (r : Reach). r.range) (reaches_of rows scopes))
    ≡ length (ranges_of rows scopes) =
    ap length (reaches-ranges rows scopes) in omega arith

-- ---- the first iteration

pub sweep-start : (rows : List Row) (scopes : List Scope) (starts : List Start) (f : ℕ)
    (active : ActiveSet)
    → AreStarts (reaches_of rows scopes) starts → AreActive [] active → active.calls ≡ 0
    → length starts + length starts < 2 ^ 32
    → length active.counts ≡ length rows + length scopes + length scopes → IsNext starts [] 0 f
    → IsSweeping rows scopes starts 0 f [] active []
unfolding segments_of
sweep-start rows scopes starts f active h none calls few len next =
    let is : ends_of (ranges_of rows scopes) ≡ f ∷ later rows scopes f =
    first-ends rows scopes starts f h next in
    let same : sum_by (end_cost scopes) (ends_of (ranges_of rows scopes))
    ≡ sum_by (end_cost scopes) (f ∷ later rows scopes f) =
    ap (sum_by (end_cost scopes)) is in
    record {
      opened = record {
        within = omega arith;
        open_are = λ g. refl;
        active_are = none;
        calls = omega arith;
        few = few;
      };
      started = λ k d lt. absurd (omega arith);
      next = next;
      list = sym (ap (segments_between rows scopes) is);
      calls = omega arith;
      len = len;
    }

-- no endpoint at all
pub sweep-nothing : (rows : List Row) (scopes : List Scope) (starts : List Start)
    → AreStarts (reaches_of rows scopes) starts → length starts ≤ 0
    → ([] ≡ segments_of rows scopes) × (least_calls rows scopes ≤ 0)
unfolding segments_of least_calls
sweep-nothing rows scopes starts h none =
    let a : length starts ≡ length (ranges_of rows scopes) = lengths rows scopes starts h in (
      sym (ap (segments_between rows scopes) (never-ends rows scopes starts h none)),
      omega arith,
    )

-- ---- the next endpoint

pub sweep-next : (rows : List Row) (scopes : List Scope) (starts : List Start) (p p' e f : ℕ)
    (ends ends' : List End) (active active' : ActiveSet) (out out' : List Segment)
    (row scope : Option ℕ)
    → AreStarts (reaches_of rows scopes) starts
    → IsSweeping rows scopes starts p e ends active out
    → IsOpen starts p' (e + 1) ends' active'
    → UpTo e (take p' starts) → Above e (drop p' starts)
    → active'.calls + length ends' + (p + p) ≤ active.calls + length ends + (p' + p')
    + end_cost scopes e
    → length active'.counts ≡ length rows + length scopes + length scopes
    → row ≡ row_at rows e → scope ≡ scope_at scopes e
    → out' ≡ out ++ segment_of e f (place_of row scope e) → IsNext starts ends' p' f
    → IsSweeping rows scopes starts p' f ends' active' out'
unfolding place_at
sweep-next rows scopes starts p p' e f ends ends' active active' out out' row scope h s b low high
    calls len row_is scope-is out_is next =
    let above : e < f = next-above starts p' e f ends' high b.open_are next in
    let is : later rows scopes e ≡ f ∷ later rows scopes f =
    later-ends rows scopes starts p' e f ends' h low high b.open_are next in
    let place : place_of row scope e ≡ place_at rows scopes e =
    ap (λ (o : Option ℕ). place_of o scope e) row_is
    ∙ ap (λ (o : Option ℕ). place_of (row_at rows e) o e) scope-is in
    let cons : sum_by (end_cost scopes) (e ∷ later rows scopes e)
    ≡ end_cost scopes e + sum_by (end_cost scopes) (later rows scopes e) =
    sum_by-cons (end_cost scopes) e (later rows scopes e) in
    let same : sum_by (end_cost scopes) (later rows scopes e)
    ≡ sum_by (end_cost scopes) (f ∷ later rows scopes f) =
    ap (sum_by (end_cost scopes)) is in
    let was = s.calls in
    record {
      opened = open-next starts p' (e + 1) f ends' active' b next.ends_from (omega (arith, above));
      started = All-weaker (λ (x : Start). x.at ≤ e) (λ (x : Start). x.at ≤ f)
          (λ x le. omega (arith, le, above)) (take p' starts) low;
      next = next;
      list =
          ap (λ (cs : List Segment). cs ++ segments_between rows scopes (f ∷ later rows scopes f))
          (out_is ∙ ap (λ p. out ++ segment_of e f p) place)
          ∙ append_assoc out (segment_of e f (place_at rows scopes e))
          (segments_between rows scopes (f ∷ later rows scopes f))
          ∙ ap (λ (es : List ℕ). out ++ segments_between rows scopes (e ∷ es)) (sym is)
          ∙ s.list;
      calls = omega arith;
      len = len;
    }

-- ---- the last endpoint

pub sweep-end : (rows : List Row) (scopes : List Scope) (starts : List Start) (p p' e : ℕ)
    (ends ends' : List End) (active active' : ActiveSet) (out : List Segment)
    → AreStarts (reaches_of rows scopes) starts
    → IsSweeping rows scopes starts p e ends active out → IsOpen starts p' (e + 1) ends' active'
    → UpTo e (take p' starts)
    → active'.calls + length ends' + (p + p) ≤ active.calls + length ends + (p' + p')
    + end_cost scopes e
    → (length starts ≤ p') × (ends' ≡ [])
    → (out ≡ segments_of rows scopes) × (least_calls rows scopes ≤ active'.calls)
    × (active'.calls ≤ most_calls rows scopes)
unfolding least_calls most_calls
sweep-end rows scopes starts p p' e ends ends' active active' out h s b low calls none =
    let is : later rows scopes e ≡ [] =
    no-ends rows scopes starts p' e ends' h low b.open_are none.0 none.1 in
    let all : length starts ≡ length (ranges_of rows scopes) = lengths rows scopes starts h in
    let cons : sum_by (end_cost scopes) (e ∷ later rows scopes e)
    ≡ end_cost scopes e + sum_by (end_cost scopes) (later rows scopes e) =
    sum_by-cons (end_cost scopes) e (later rows scopes e) in
    let was = s.calls in
    let least = b.calls in
    let within = b.within in
    let past = none.0 in
    let empty : length ends' ≡ 0 = ap length none.1 in (
      sym (append-nil out) ∙ ap (λ (es : List ℕ). out ++ segments_between rows scopes (e ∷ es))
          (sym is)
          ∙ s.list,
      omega arith,
      omega arith,
    )
