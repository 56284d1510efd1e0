-- The runs of the rows of each sequence.
use Rattle.std.proofs.Common.{◌≡◌, ◌∙◌, ℕ, ◌+◌, ◌-◌, ◌<◌, ◌≤◌, List, [], ◌∷◌, ◌++◌, length}
use Rattle.std.proofs.Common.{get_or, Bool, true, false, refl, ap, sym, subst, inl, inr, arith}
use Rattle.std.specs.List.{All}
use Rattle.std.specs.List.Sorted.{IsNonDecreasingBy}
use Rattle.std.proofs.lemmas.Bool.{cases_lt}
use Rattle.std.proofs.lemmas.Grind.{flat_map-append}
use Rattle.std.proofs.lemmas.List.{append_assoc, append-nil, length-append}
use Rattle.std.proofs.lemmas.List.{get_or_append_left, get_or-append_right}
use Rattle.std.proofs.lemmas.List.Elements.{All-append, All-from_recursion}
use Rattle.dwarf_lines.specs.declared.row.Row.{Row}
use Rattle.addr_table.specs.declared.row_runs.Run.{Run}
use Rattle.addr_table.specs.Private.RowOrder.{covering_at, covers_at, row_address}
use Rattle.addr_table.specs.Private.RowOrder.{sequence_at}
use Rattle.addr_table.specs.Private.RowRuns.{Ascend, Ascends, Extends, IsRunFrom, later_rows}
use Rattle.addr_table.specs.Private.RowRuns.{RisesAfter, rows_in, rows_of_run}
use Rattle.addr_table.proofs.Endpoints.RowOrderLaws.{covering-here, covering-later}
use Rattle.addr_table.proofs.Endpoints.RowOrderLaws.{sequence-here, sequence-later}
use Rattle.addr_table.proofs.Endpoints.RowRunLaws.{extended-is, one-row, one-row_is, row-appended}
use Rattle.addr_table.proofs.Endpoints.RowRunLaws.{rows-same}

-- ---- ascending rows

one-ascends : (rows : List Row) (n : ℕ) → Ascend rows (row_address rows n) (n ∷ [])
one-ascends rows n = record {
  rise = λ i j d le lt.
      let first : j ≡ 0 = omega (arith, lt) in
      let also : i ≡ 0 = omega (arith, le, first) in
      rw (first, also) (omega arith);
  below = λ i d lt.
      let first : i ≡ 0 = omega (arith, lt) in rw first (omega arith);
}

-- rows in ascending order, followed by others that are not below them
pub rise-appended : {X : Type 0} (f : X → ℕ) (high : ℕ) (xs ys : List X) → IsNonDecreasingBy f xs
    → IsNonDecreasingBy f ys → All (λ x. f x ≤ high) xs → All (λ y. high ≤ f y) ys
    → IsNonDecreasingBy f (xs ++ ys)
rise-appended f high xs ys rise rise' below above i j d le lt = elim (cases_lt j (length xs)) [
  | inl within ↦
      rw (
        get_or_append_left xs ys d j within,
        get_or_append_left xs ys d i (omega (
          arith,
          le,
          within,
        )),
      ) (rise i j d le within)
  | inr over ↦
      let len : length (xs ++ ys) ≡ length xs + length ys = length-append xs ys in
      let late : j - length xs < length ys = omega (arith, lt, len, over) in
      rw (get_or-append_right xs ys (length xs) j d refl over) (elim (cases_lt i (length xs)) [
        | inl below_it ↦
            let low = below i d below_it in
            let up = above (j - length xs) d late in
            rw (get_or_append_left xs ys d i below_it) (omega (arith, low, up))
        | inr also ↦
            rw (get_or-append_right xs ys (length xs) i d refl also)
            (rise' (i - length xs) (j - length xs) d (omega (arith, le, also)) late)
      ])
]

-- ---- one run

pub run-begun : (rows : List Row) (first : ℕ) → first < length rows
    → IsRunFrom rows first (record { first = first; last = first })
run-begun rows first lt = record {
  first_is = refl;
  last_within = lt;
  is = one-row_is rows first;
  covering = ap (λ ns. first ∷ (ns ++ covering_at rows (first + 1))) (one-row rows first);
  ascends = subst (λ ns. Ascend rows (row_address rows first) (first ∷ ns))
      (sym (one-row rows first)) (one-ascends rows first);
}

pub run-grown : (rows : List Row) (first n : ℕ) (run : Run) → IsRunFrom rows first run
    → Extends rows run.last n → IsRunFrom rows first (record { first = run.first; last = n })
run-grown rows first n run h e =
    let more : later_rows rows (record { first = run.first; last = n })
    ≡ later_rows rows run ++ n ∷ [] = row-appended rows run n h.is e.follows in
    let one : List ℕ = rows_of_run rows run in
    let up : row_address rows run.last ≤ row_address rows n = e.up in record {
      first_is = h.first_is;
      last_within = e.within;
      is = extended-is rows run n h.is e.follows;
      covering = ap (λ ns. run.first ∷ (ns ++ covering_at rows (n + 1))) more
          ∙ append_assoc one (n ∷ []) (covering_at rows (n + 1))
          ∙ ap (λ ns. one ++ ns) (sym e.covering) ∙ h.covering;
      ascends = subst (λ ns. Ascend rows (row_address rows n) (run.first ∷ ns)) (sym more) (record {
        rise = rise-appended (row_address rows) (row_address rows run.last) one (n ∷ [])
            h.ascends.rise (one-ascends rows n).rise h.ascends.below (λ i d lt.
            let only : i ≡ 0 = omega (arith, lt) in rw only up);
        below = All-append (λ m. row_address rows m ≤ row_address rows n) one (n ∷ [])
            (λ i d lt.
            let low : row_address rows (get_or one i d) ≤ row_address rows run.last =
            h.ascends.below i d lt in omega (arith, low, up)) (one-ascends rows n).below;
      });
    }

-- a row that covers no address changes only the last row of a run
same-run : (rows : List Row) (first last : ℕ)
    → IsRunFrom rows first (record { first = first; last = last }) → RisesAfter rows last
    → covers_at rows (last + 1) ≡ false
    → IsRunFrom rows first (record { first = first; last = last + 1 })
same-run rows first last h r none =
    let run : Run = record { first = first; last = last } in
    let next : Run = record { first = first; last = last + 1 } in
    let passed : sequence_at rows (last + 1) ≡ sequence_at rows (last + 1 + 1) =
    sequence-later rows (last + 1) r.within r.inside none in
    let same : later_rows rows next ≡ later_rows rows run = rows-same rows run h.is passed in
    let up : row_address rows last ≤ row_address rows (last + 1) = r.up in record {
      first_is = refl;
      last_within = r.within;
      is = h.is ∙ ap (λ ns. later_rows rows run ++ ns) passed
          ∙ ap (λ ns. ns ++ sequence_at rows (last + 1 + 1)) (sym same);
      covering = ap (λ ns. first ∷ (ns ++ covering_at rows (last + 1 + 1))) same
          ∙ ap (λ ns. rows_of_run rows run ++ ns)
          (sym (covering-later rows (last + 1) r.within none)) ∙ h.covering;
      ascends = subst (λ ns. Ascend rows (row_address rows (last + 1)) (first ∷ ns)) (sym same)
          (record {
            rise = h.ascends.rise;
            below = λ i d lt.
                let low : row_address rows (get_or (rows_of_run rows run) i d)
                ≤ row_address rows last = h.ascends.below i d lt in omega (arith, low, up);
          });
    }

pub run-risen : (rows : List Row) (first last : ℕ)
    → IsRunFrom rows first (record { first = first; last = last }) → RisesAfter rows last
    → IsRunFrom rows first (record { first = first; last = last + 1 })
run-risen rows first last h r = by_cover (covers_at rows (last + 1)) refl
  where
    by_cover : (b : Bool) → covers_at rows (last + 1) ≡ b
        → IsRunFrom rows first (record { first = first; last = last + 1 })
    by_cover true is = run-grown rows first (last + 1) (record { first = first; last = last }) h
        (record {
          within = r.within;
          follows = sequence-here rows (last + 1) r.within r.inside is;
          covering = covering-here rows (last + 1) r.within is;
          up = r.up;
        })
    by_cover false is = same-run rows first last h r is

-- ---- all runs

pub runs-more : (rows : List Row) (from first : ℕ) (run : Run) (old new : List Run) (all : List ℕ)
    → new ≡ old ++ run ∷ [] → IsRunFrom rows first run
    → covering_at rows from ≡ first ∷ covering_at rows (first + 1)
    → rows_in rows old ++ covering_at rows from ≡ all
    → rows_in rows new ++ covering_at rows (run.last + 1) ≡ all
runs-more rows from first run old new all is h next so_far =
    let rest : List ℕ = covering_at rows (run.last + 1) in
    ap (λ rs. rows_in rows rs ++ rest) is
    ∙ ap (λ ns. ns ++ rest) (flat_map-append (rows_of_run rows) old (run ∷ [])
    ∙ ap (λ ns. rows_in rows old ++ ns) (append-nil (rows_of_run rows run)))
    ∙ append_assoc (rows_in rows old) (rows_of_run rows run) rest
    ∙ ap (λ ns. rows_in rows old ++ ns) (h.covering ∙ sym next) ∙ so_far

pub runs-fewer : (rows : List Row) (from first : ℕ) (run : Run) → IsRunFrom rows first run
    → covering_at rows from ≡ first ∷ covering_at rows (first + 1)
    → length (covering_at rows (run.last + 1)) < length (covering_at rows from)
runs-fewer rows from first run h next =
    let rest : List ℕ = covering_at rows (run.last + 1) in
    let all : length (rows_of_run rows run ++ rest) ≡ length (covering_at rows from) =
    ap length (h.covering ∙ sym next) in
    let len : length (rows_of_run rows run ++ rest)
    ≡ length (rows_of_run rows run) + length rest = length-append (rows_of_run rows run) rest in
    omega (arith, all, len)

pub ascends-one : (rows : List Row) (run : Run) → Ascends rows run
    → All (Ascends rows) (run ∷ [])
ascends-one rows run h = All-from_recursion (Ascends rows) (run ∷ []) (h, tt)
