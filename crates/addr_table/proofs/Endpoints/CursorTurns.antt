-- One start of a cursor is taken.
use Rattle.std.proofs.Common.{◌≡◌, ℕ, ◌+◌, ◌<◌, ◌≤◌, ◌∷◌, List, length, take, get_or, set}
use Rattle.std.proofs.Common.{sym, subst, ap, ◌∙◌, drop, ◌-◌, arith}
use Rattle.std.specs.List.{All}
use Rattle.std.specs.List.Sorted.{IsPermutation}
use Rattle.std.proofs.lemmas.List.{get_or-drop, length-drop}
use Rattle.std.proofs.lemmas.List.Elements.{All-more}
use Rattle.addr_table.specs.declared.open_ends.End.{End}
use Rattle.addr_table.specs.declared.starts.Start.{Start}
use Rattle.addr_table.specs.Private.Active.{ActiveSet, one_more}
use Rattle.addr_table.specs.Private.Merged.{Takes}
use Rattle.addr_table.specs.Private.Sweep.{UpTo, IsOpen, end_of}
use Rattle.addr_table.proofs.ActiveSet.ActiveCounts.{active-opened, ends-length}
use Rattle.addr_table.proofs.Endpoints.OpenLaws.{open-more}

-- what holds for all starts holds for the one that was taken
pub all-taken : (P : Start → Type 0) (end : ℕ) (s : Start) (n n' : ℕ) (starts : List Start)
    → All P starts → Takes end s n n' starts → P s
all-taken P end s n n' starts all t = subst P (t.is s) (all n s t.within)

pub upto-taken : (end : ℕ) (s : Start) (n n' : ℕ) (starts : List Start) → UpTo end (take n starts)
    → Takes end s n n' starts → UpTo end (take n' starts)
upto-taken end s n n' starts upto t =
    let low : (get_or starts n s).at ≤ end =
    subst (λ (x : Start). x.at ≤ end) (sym (t.is s)) t.low in
    subst (λ m. UpTo end (take m starts)) (sym t.more)
    (All-more (λ (x : Start). x.at ≤ end) starts n s t.within upto low)

-- a range that starts after p others ends late if all ranges after p others do
pub late-taken : (end : ℕ) (s : Start) (p n n' : ℕ) (starts : List Start) (x : ℕ)
    → All (λ (r : Start). x < r.to) (drop p starts) → p ≤ n → Takes end s n n' starts
    → x + 1 ≤ s.to
late-taken end s p n n' starts x late le t =
    let sum : p + (n - p) ≡ n = omega (arith, le) in
    let here : get_or (drop p starts) (n - p) s ≡ s =
    get_or-drop p starts (n - p) s ∙ ap (λ m. get_or starts m s) sum ∙ t.is s in
    let lt : x < (get_or (drop p starts) (n - p) s).to =
    late (n - p) s (omega (arith, le, t.within, length-drop p starts)) in
    let at : x < s.to = subst (λ (r : Start). x < r.to) here lt in omega (arith, at)

-- the open and active ranges after one more start
pub open-taken : (end x : ℕ) (s : Start) (n n' : ℕ) (starts : List Start) (ends ends' : List End)
    (old new : ActiveSet)
    → Takes end s n n' starts → IsOpen starts n x ends old → x ≤ s.to
    → IsPermutation (end_of s ∷ ends) ends' → s.key < length old.counts
    → new.counts ≡ set old.counts s.key (get_or old.counts s.key 0 + 1)
    → new.calls ≡ one_more old.calls → IsOpen starts n' x ends' new
open-taken end x s n n' starts ends ends' old new t h late perm within counts calls =
    subst (λ m. IsOpen starts m x ends' new) (sym t.more) (record {
      within = omega (arith, t.within);
      open_are = open-more starts n x s ends ends' h.open_are t.within t.is late perm;
      active_are = active-opened (end_of s) ends ends' old new h.active_are perm within counts;
      calls = omega (
        arith,
        h.calls,
        calls,
        ends-length (end_of s) ends ends' perm,
        h.few,
        t.within,
      );
      few = h.few;
    })
