-- The rows that cover addresses, and their starts.
use Rattle.std.specs.Prelude.{ℕ, suc, ◌+◌, List, [], ◌∷◌, drop, map, filter, Bool, false}
use Rattle.std.specs.Prelude.{nat_lt, ◌&&◌, not, if◌then◌else◌, slice_index_or}
use Rattle.dwarf_lines.specs.declared.row.Row.{Row}
use Rattle.addr_table.specs.declared.starts.Start.{Start}
use Rattle.addr_table.specs.Segments.{is_nonempty}
use Rattle.addr_table.specs.Rows.{covers_from}

-- the numbers of the rows that cover addresses, if the first row has this number
abbrev pub covering_from : ℕ → List Row → List ℕ
covering_from n rows = map (λ c. c.row) (filter (λ c. is_nonempty c.range) (covers_from n rows))

-- the same up to the row that ends the sequence
abbrev pub sequence_from : ℕ → List Row → List ℕ
sequence_from n [] = []
sequence_from n (row ∷ []) = []
sequence_from n (row ∷ next ∷ rows) =
    if row.«end» then [] else
    (if nat_lt row.address next.address then n ∷ sequence_from (suc n) (next ∷ rows)
    else sequence_from (suc n) (next ∷ rows))

-- the covering rows of a sequence from row n on
abbrev pub sequence_at : List Row → ℕ → List ℕ
sequence_at rows n = sequence_from n (drop n rows)

-- the covering rows from row n on, in all sequences
abbrev pub covering_at : List Row → ℕ → List ℕ
covering_at rows n = covering_from n (drop n rows)

abbrev pub no_row : Row
no_row = record { address = 0; program = record { 0 = 0 }; file = 0; line = 0; «end» = false }

-- the address of a row
abbrev pub row_address : List Row → ℕ → ℕ
row_address rows n = (slice_index_or rows n no_row).address

-- whether a row covers addresses
abbrev pub covers_at : List Row → ℕ → Bool
covers_at rows n =
    not (slice_index_or rows n no_row).«end»
    && nat_lt (row_address rows n) (row_address rows (n + 1))

-- the start of the addresses that a row covers; they end where the next row starts
abbrev pub row_start : List Row → ℕ → Start
row_start rows n =
    record { at = row_address rows n; to = row_address rows (n + 1); key = n }
