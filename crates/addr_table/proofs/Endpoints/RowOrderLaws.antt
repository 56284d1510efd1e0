-- The rows that cover addresses, row by row.
use Rattle.std.proofs.Common.{◌≡◌, ◌∙◌, ℕ, suc, ◌+◌, ◌<◌, ◌≤◌, List, [], ◌∷◌, length, map, drop}
use Rattle.std.proofs.Common.{get_or, Bool, true, false, cond, refl, ap, sym, subst, add-one, arith}
use Rattle.std.specs.Prelude.{nat_lt, filter, not, ◌&&◌}
use Rattle.std.proofs.lemmas.Bool.Decides.{nat_tests}
use Rattle.std.proofs.lemmas.List.{drop_more, get_or-drop}
use Rattle.dwarf_lines.specs.declared.row.Row.{Row}
use Rattle.addr_table.specs.Segments.{is_nonempty}
use Rattle.addr_table.specs.Rows.{Cover, covers_from}
use Rattle.addr_table.specs.Private.RowOrder.{covering_at, covering_from, covers_at, no_row}
use Rattle.addr_table.specs.Private.RowOrder.{sequence_at, sequence_from}

-- the covering rows from a row on, if it covers addresses or not
abbrev Step : ℕ → List Row → Bool → Type 0
Step n rows test = covering_at rows n ≡ cond test (n ∷ covering_at rows (n + 1))
    (covering_at rows (n + 1))

-- whether a row covers addresses, given the rows after it
abbrev covers_before : Row → List Row → Bool
covers_before row rest = not row.«end» && nat_lt row.address (get_or rest 0 no_row).address

one-more : (n : ℕ) (row : Row) (rest : List Row)
    → covering_from n (row ∷ rest)
    ≡ cond (covers_before row rest) (n ∷ covering_from (suc n) rest) (covering_from (suc n) rest)
one-more n row [] = none row.«end» (grind (arith, nat_tests))
  where
    none : (b : Bool) → nat_lt row.address 0 ≡ false
        → [] ≡ cond (not b && nat_lt row.address 0) (n ∷ []) []
    none true is = refl
    none false is = rw is refl
one-more n row (next ∷ rows) = by_end row.«end»
  where
    this : Cover
    this = record { row = n; range = record { from = row.address; to = next.address } }

    later : List Cover
    later = covers_from (suc n) (next ∷ rows)

    rest : List ℕ
    rest = covering_from (suc n) (next ∷ rows)

    by_order : (t : Bool)
        → map (λ (c : Cover). c.row) (cond t (this ∷ filter (λ c. is_nonempty c.range) later)
        (filter (λ c. is_nonempty c.range) later)) ≡ cond t (n ∷ rest) rest
    by_order true = refl
    by_order false = refl

    by_end : (b : Bool)
        → map (λ (c : Cover). c.row)
        (filter (λ c. is_nonempty c.range) (cond b later (this ∷ later)))
        ≡ cond (not b && nat_lt row.address next.address) (n ∷ rest) rest
    by_end true = refl
    by_end false = by_order (nat_lt row.address next.address)

-- the first row of the rows from n + 1 on
row-after : (rows : List Row) (n : ℕ) → get_or (drop (n + 1) rows) 0 no_row
    ≡ get_or rows (n + 1) no_row
row-after rows n =
    let none : n + 1 + 0 ≡ n + 1 = omega arith in
    get_or-drop (n + 1) rows 0 no_row ∙ ap (λ m. get_or rows m no_row) none

step : (rows : List Row) (n : ℕ) → n < length rows → Step n rows (covers_at rows n)
step rows n lt =
    let row : Row = get_or rows n no_row in
    ap (covering_from n) (drop_more rows n no_row lt)
    ∙ one-more n row (drop (n + 1) rows)
    ∙ ap (λ m. cond (covers_before row (drop (n + 1) rows))
    (n ∷ covering_from m (drop (n + 1) rows)) (covering_from m (drop (n + 1) rows)))
    (sym (add-one n))
    ∙ ap (λ (next : Row). cond (not row.«end» && nat_lt row.address next.address)
    (n ∷ covering_at rows (n + 1)) (covering_at rows (n + 1))) (row-after rows n)

pub covering-here : (rows : List Row) (n : ℕ) → n < length rows → covers_at rows n ≡ true
    → covering_at rows n ≡ n ∷ covering_at rows (n + 1)
covering-here rows n lt is =
    step rows n lt
    ∙ ap (λ b. cond b (n ∷ covering_at rows (n + 1)) (covering_at rows (n + 1))) is

pub covering-later : (rows : List Row) (n : ℕ) → n < length rows → covers_at rows n ≡ false
    → covering_at rows n ≡ covering_at rows (n + 1)
covering-later rows n lt is =
    step rows n lt
    ∙ ap (λ b. cond b (n ∷ covering_at rows (n + 1)) (covering_at rows (n + 1))) is

-- ---- in one sequence

same-one : (n : ℕ) (row : Row) (rest : List Row) → row.«end» ≡ false
    → sequence_from n (row ∷ rest)
    ≡ cond (covers_before row rest) (n ∷ sequence_from (suc n) rest) (sequence_from (suc n) rest)
same-one n row [] inside = none row.«end» (grind (arith, nat_tests))
  where
    none : (b : Bool) → nat_lt row.address 0 ≡ false
        → [] ≡ cond (not b && nat_lt row.address 0) (n ∷ []) []
    none true is = refl
    none false is = rw is refl
same-one n row (next ∷ rows) inside = by_end row.«end» inside
  where
    rest : List ℕ
    rest = sequence_from (suc n) (next ∷ rows)

    by_end : (b : Bool) → b ≡ false
        → cond b [] (cond (nat_lt row.address next.address) (n ∷ rest) rest)
        ≡ cond (not b && nat_lt row.address next.address) (n ∷ rest) rest
    by_end true is = cc
    by_end false is = refl

same-step : (rows : List Row) (n : ℕ) → n < length rows → (get_or rows n no_row).«end» ≡ false
    → sequence_at rows n ≡ cond (covers_at rows n) (n ∷ sequence_at rows (n + 1))
    (sequence_at rows (n + 1))
same-step rows n lt inside =
    let row : Row = get_or rows n no_row in
    ap (sequence_from n) (drop_more rows n no_row lt)
    ∙ same-one n row (drop (n + 1) rows) inside
    ∙ ap (λ m. cond (covers_before row (drop (n + 1) rows))
    (n ∷ sequence_from m (drop (n + 1) rows)) (sequence_from m (drop (n + 1) rows)))
    (sym (add-one n))
    ∙ ap (λ (next : Row). cond (not row.«end» && nat_lt row.address next.address)
    (n ∷ sequence_at rows (n + 1)) (sequence_at rows (n + 1))) (row-after rows n)

pub sequence-here : (rows : List Row) (n : ℕ) → n < length rows
    → (get_or rows n no_row).«end» ≡ false → covers_at rows n ≡ true
    → sequence_at rows n ≡ n ∷ sequence_at rows (n + 1)
sequence-here rows n lt inside is =
    same-step rows n lt inside
    ∙ ap (λ b. cond b (n ∷ sequence_at rows (n + 1)) (sequence_at rows (n + 1))) is

pub sequence-later : (rows : List Row) (n : ℕ) → n < length rows
    → (get_or rows n no_row).«end» ≡ false → covers_at rows n ≡ false
    → sequence_at rows n ≡ sequence_at rows (n + 1)
sequence-later rows n lt inside is =
    same-step rows n lt inside
    ∙ ap (λ b. cond b (n ∷ sequence_at rows (n + 1)) (sequence_at rows (n + 1))) is

-- ---- the number of covering rows

pub covering-few : (n : ℕ) (rows : List Row) → length (covering_from n rows) ≤ length rows
covering-few n [] = omega arith
covering-few n (row ∷ rest) =
    let ih : length (covering_from (suc n) rest) ≤ length rest = covering-few (suc n) rest in
    subst (λ (ns : List ℕ). length ns ≤ length (row ∷ rest)) (sym (one-more n row rest))
    (either (covers_before row rest) (covering_from (suc n) rest) ih)
  where
    either : (b : Bool) (ns : List ℕ) → length ns ≤ length rest
        → length (cond b (n ∷ ns) ns) ≤ length (row ∷ rest)
    either true ns le = omega (arith, le)
    either false ns le = omega (arith, le)
