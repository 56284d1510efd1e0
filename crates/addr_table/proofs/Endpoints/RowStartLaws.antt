-- The starts of the rows that cover addresses.
use Rattle.std.proofs.Common.{◌≡◌, ℕ, suc, List, [], ◌∷◌, length, map, drop, get_or}
use Rattle.std.proofs.Common.{Bool, true, false, cond, refl, ap, sym, ◌∙◌, ◌+◌, add-one, arith}
use Rattle.std.specs.Prelude.{nat_lt, filter}
use Rattle.std.specs.List.Sorted.{IsNonDecreasingBy}
use Rattle.std.proofs.lemmas.List.{length-map, get_or-map}
use Rattle.dwarf_lines.specs.declared.row.Row.{Row}
use Rattle.addr_table.specs.declared.starts.Start.{Start}
use Rattle.addr_table.specs.Segments.{is_nonempty}
use Rattle.addr_table.specs.Rows.{Cover, covers_from}
use Rattle.addr_table.specs.Private.RowOrder.{covering_from, no_row, row_address, row_start}
use Rattle.addr_table.specs.Private.Sweep.{reach_of, nonempty, start_of}
use Rattle.addr_table.proofs.Scanning.Lists.{in-front}

pub starts-are : (whole : List Row) (n : ℕ) (rows : List Row) → drop n whole ≡ rows
    → map start_of (nonempty (map reach_of (covers_from n rows)))
    ≡ map (row_start whole) (covering_from n rows)
starts-are whole n [] is = refl
starts-are whole n (row ∷ []) is = refl
starts-are whole n (row ∷ next ∷ rows) is =
    let front = in-front whole n row (next ∷ rows) no_row is in
    let after = in-front whole (n + 1) next rows no_row front.2 in
    by_end row.«end» (ap (λ (r : Row). r.address) front.1) (ap (λ (r : Row). r.address) after.1)
    (starts-are whole (suc n) (next ∷ rows) (ap (λ m. drop m whole) (sym (add-one n)) ∙ front.2))
  where
    this : Cover
    this = record { row = n; range = record { from = row.address; to = next.address } }

    later : List Cover
    later = covers_from (suc n) (next ∷ rows)

    rest : List ℕ
    rest = covering_from (suc n) (next ∷ rows)

    by_order : (t : Bool) → row_address whole n ≡ row.address
        → row_address whole (n + 1) ≡ next.address
        → map start_of (nonempty (map reach_of later)) ≡ map (row_start whole) rest
        → map start_of (cond t (reach_of this ∷ nonempty (map reach_of later))
        (nonempty (map reach_of later)))
        ≡ map (row_start whole) (map (λ (c : Cover). c.row)
        (cond t (this ∷ filter (λ c. is_nonempty c.range) later)
        (filter (λ c. is_nonempty c.range) later)))
    by_order true at to ih =
        ap (λ (a : ℕ). record { at = a; to = next.address; key = n }
        ∷ map start_of (nonempty (map reach_of later))) (sym at)
        ∙ ap (λ (a : ℕ). record { at = row_address whole n; to = a; key = n }
        ∷ map start_of (nonempty (map reach_of later))) (sym to)
        ∙ ap (λ es. row_start whole n ∷ es) ih
    by_order false at to ih = ih

    by_end : (b : Bool) → row_address whole n ≡ row.address
        → row_address whole (n + 1) ≡ next.address
        → map start_of (nonempty (map reach_of later)) ≡ map (row_start whole) rest
        → map start_of (nonempty (map reach_of (cond b later (this ∷ later))))
        ≡ map (row_start whole) (map (λ (c : Cover). c.row)
        (filter (λ c. is_nonempty c.range) (cond b later (this ∷ later))))
    by_end true at to ih = ih
    by_end false at to ih = by_order (nat_lt row.address next.address) at to ih

-- starts rise if the addresses of their rows do
pub starts-rise : (rows : List Row) (order : List ℕ)
    → IsNonDecreasingBy (λ (n : ℕ). row_address rows n) order
    → IsNonDecreasingBy (λ (s : Start). s.at) (map (row_start rows) order)
starts-rise rows order rise i j d le lt =
    let len : length (map (row_start rows) order) ≡ length order =
    length-map order (row_start rows) in
    let low : get_or (map (row_start rows) order) i d ≡ row_start rows (get_or order i 0) =
    get_or-map (row_start rows) order i 0 d (omega (arith, le, lt, len)) in
    let high : get_or (map (row_start rows) order) j d ≡ row_start rows (get_or order j 0) =
    get_or-map (row_start rows) order j 0 d (omega (arith, lt, len)) in
    let up = rise i j 0 le (omega (arith, lt, len)) in
    omega (arith, up, ap (λ (s : Start). s.at) low, ap (λ (s : Start). s.at) high)
