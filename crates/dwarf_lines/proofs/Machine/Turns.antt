-- The rows that a loop over the instructions has made, and those that it has yet to make.
use Rattle.std.proofs.Common.{◌≡◌, ℕ, zero, suc, ◌-◌, ◌*◌, ◌^◌, ◌≤◌, ◌<◌, List, [], ◌∷◌, ◌++◌}
use Rattle.std.proofs.Common.{length, Bool, true, false, Some, None, Result, Ok, Err, refl, sym, ap}
use Rattle.std.proofs.Common.{◌∙◌, arith, append_assoc}
use Rattle.std.specs.Prelude.{pos}
use Rattle.std.proofs.lemmas.List.{append-nil}
use Rattle.std.proofs.lemmas.Bool.{lt-ltb, le-ltb}
use Rattle.dwarf_bytes.specs.Bind.{◌>>=◌}
use Rattle.dwarf_bytes.specs.declared.fault.Cause.{Cause}
use Rattle.dwarf_bytes.specs.declared.fault.Cause.TheVariants as causes
use Rattle.dwarf_lines.specs.declared.row.Row.{Row}
use Rattle.dwarf_lines.specs.declared.row.Origin.{Origin}
use Rattle.dwarf_lines.specs.declared.registers.Registers.{Registers}
use Rattle.dwarf_lines.specs.declared.instruction.Instruction.{Instruction}
use Rattle.dwarf_lines.specs.Instructions.{Encoding, Reading, onto_reading, no_more, instruction_at}
use Rattle.dwarf_lines.specs.Instructions.{reading_from}
use Rattle.dwarf_lines.specs.Matrix.{made, rows_from, ending, is_open, latest_first, matrix_after}
use Rattle.dwarf_lines.specs.Matrix.{matrix_at, with_front}
use Rattle.dwarf_lines.specs.Private.Registers.{AreRegisters, Reaches, line_reach}
use Rattle.dwarf_lines.specs.Private.Runs.{IsRunning}

regroup : (row rows : Result (List Row) Cause) (ended : Result ℕ Cause)
    → ((row >>= λ row. rows >>= λ rows. Ok (row ++ rows)) >>= λ rows. ended >>= λ _. Ok rows)
    ≡ (row >>= λ row. with_front row (rows >>= λ rows. ended >>= λ _. Ok rows))
regroup (Ok row) (Ok rows) (Ok ended) = refl
regroup (Ok row) (Ok rows) (Err cause) = refl
regroup (Ok row) (Err cause) ended = refl
regroup (Err cause) rows ended = refl

-- the row of the first instruction precedes the rows of the others
turn : (e : Encoding) (o : Origin) (before : List Instruction) (i : Instruction) (rest : Reading)
    → matrix_after e o before (onto_reading i rest)
    ≡ (made e o before i >>= λ row. with_front row (matrix_after e o (i ∷ before) rest))
unfolding rows_from
turn e o before i rest = regroup (made e o before i) (rows_from e o (i ∷ before) rest.instructions)
    (ending rest.fault (is_open (latest_first (i ∷ before) rest.instructions)))

front-front : (front row : List Row) (outcome : Result (List Row) Cause)
    → with_front front (with_front row outcome) ≡ with_front (front ++ row) outcome
front-front front row (Ok rows) = ap (λ (rows : List Row). Ok rows) (simp append_assoc)
front-front front row (Err cause) = refl

front_err : (front : List Row) (outcome : Result (List Row) Cause) (cause : Cause)
    → with_front front outcome ≡ Err cause
    → outcome ≡ Err cause
front_err front (Ok rows) cause h = cc
front_err front (Err d) cause h = h

-- the reading from an offset before the end
read-one : (e : Encoding) (bytes : List ℕ) (steps place after : ℕ) (i : Instruction)
    → place < length bytes
    → instruction_at e bytes place ≡ Ok (i, after)
    → reading_from (suc steps) e bytes place ≡ onto_reading i (reading_from steps e bytes after)
unfolding reading_from
read-one e bytes steps place after i lt h = rw (lt-ltb place (length bytes) lt, h) refl

read-none : (e : Encoding) (bytes : List ℕ) (steps place : ℕ) (cause : Cause) → place < length bytes
    → instruction_at e bytes place ≡ Err cause
    → reading_from (suc steps) e bytes place ≡ no_more (Some cause)
unfolding reading_from
read-none e bytes steps place cause lt h = rw (lt-ltb place (length bytes) lt, h) refl

read-all : (e : Encoding) (bytes : List ℕ) (steps place : ℕ) → length bytes ≤ place
    → reading_from steps e bytes place ≡ no_more None
unfolding reading_from
read-all e bytes zero place le = refl
read-all e bytes (suc steps) place le = rw (le-ltb place (length bytes) le) refl

module _ (e : Encoding) (o : Origin) (bytes : List ℕ) (total : Result (List Row) Cause)
    (before : List Instruction) where
  outcome_after : (steps place after : ℕ) (i : Instruction) (rows : List Row) → place < length bytes
      → instruction_at e bytes place ≡ Ok (i, after)
      → with_front rows (matrix_after e o before (reading_from (suc steps) e bytes place))
      ≡ with_front rows (made e o before i
      >>= λ row. with_front row (matrix_after e o (i ∷ before)
      (reading_from steps e bytes after)))
  outcome_after steps place after i rows lt h =
      ap (λ (read : Reading). with_front rows (matrix_after e o before read))
      (read-one e bytes steps place after i lt h)
      ∙ ap (with_front rows) (turn e o before i (reading_from steps e bytes after))

  -- the loop continues after an instruction and its row
  pub goes_on : (steps place after : ℕ) (i : Instruction) (old new : Registers)
      (rows row : List Row) → place < length bytes → place < after
      → instruction_at e bytes place ≡ Ok (i, after)
      → made e o before i ≡ Ok row → AreRegisters e (i ∷ before) new → Reaches old.line new.line i
      → line_reach i ≤ 2 ^ 62 * (after - place)
      → IsRunning e o bytes total before (suc steps) place old rows
      → IsRunning e o bytes total (i ∷ before) steps after new (rows ++ row)
  goes_on steps place after i old new rows row lt moves h makes registers bound reach run = record {
    registers = registers;
    enough = let enough = run.enough in omega arith;
    outcome = sym (front-front rows row (matrix_after e o (i ∷ before)
        (reading_from steps e bytes after)))
        ∙ ap (λ (r : Result (List Row) Cause). with_front rows
        (r >>= λ row. with_front row
        (matrix_after e o (i ∷ before) (reading_from steps e bytes after)))) (sym makes)
        ∙ sym (outcome_after steps place after i rows lt h) ∙ run.outcome;
    line = let line = run.line in omega arith;
  }

  -- an instruction that cannot be read is the fault
  pub unread : (steps place : ℕ) (cause : Cause) (r : Registers) (rows : List Row)
      → place < length bytes
      → instruction_at e bytes place ≡ Err cause
      → IsRunning e o bytes total before (suc steps) place r rows → total ≡ Err cause
  unfolding rows_from
  unread steps place cause r rows lt h run =
      sym run.outcome ∙ ap (λ (read : Reading). with_front rows (matrix_after e o before read))
      (read-none e bytes steps place cause lt h)

  -- a row that is invalid is the fault
  pub unmade : (steps place after : ℕ) (i : Instruction) (cause : Cause) (r : Registers)
      (rows : List Row) → place < length bytes
      → instruction_at e bytes place ≡ Ok (i, after) → made e o before i ≡ Err cause
      → IsRunning e o bytes total before (suc steps) place r rows → total ≡ Err cause
  unmade steps place after i cause r rows lt h makes run =
      sym run.outcome ∙ outcome_after steps place after i rows lt h
      ∙ ap (λ (r : Result (List Row) Cause). with_front rows
      (r >>= λ row. with_front row (matrix_after e o (i ∷ before)
      (reading_from steps e bytes after)))) makes

  -- at the end of the bytes all rows are complete, if the last sequence has ended
  at_end : (steps place : ℕ) (r : Registers) (rows : List Row) → length bytes ≤ place
      → IsRunning e o bytes total before steps place r rows
      → total ≡ with_front rows (ending None r.has_row >>= λ _. Ok [])
  unfolding rows_from
  at_end steps place r rows le run =
      sym run.outcome ∙ ap (λ (read : Reading). with_front rows (matrix_after e o before read))
      (read-all e bytes steps place le)
      ∙ ap (λ (b : Bool). with_front rows (ending None b >>= λ _. Ok []))
      (sym run.registers.has_row)

  pub ends : (steps place : ℕ) (r : Registers) (rows : List Row) → length bytes ≤ place
      → r.has_row ≡ false
      → IsRunning e o bytes total before steps place r rows → total ≡ Ok rows
  ends steps place r rows le closed run =
      at_end steps place r rows le run ∙ ap
      (λ (b : Bool). with_front rows (ending None b >>= λ _. Ok [])) closed
      ∙ ap (λ (rows : List Row). Ok rows) (append-nil rows)

  pub stays_open : (steps place : ℕ) (r : Registers) (rows : List Row) → length bytes ≤ place
      → r.has_row ≡ true
      → IsRunning e o bytes total before steps place r rows → total ≡ Err causes.SequenceOpen
  stays_open steps place r rows le opened run =
      at_end steps place r rows le run ∙ ap
      (λ (b : Bool). with_front rows (ending None b >>= λ _. Ok [])) opened

-- if bytes remain, steps remain
pub one-step : (e : Encoding) (o : Origin) (bytes : List ℕ) (total : Result (List Row) Cause)
    (before : List Instruction) (steps place : ℕ) (r : Registers) (rows : List Row)
    → place < length bytes
    → IsRunning e o bytes total before steps place r rows
    → (less : ℕ) × IsRunning e o bytes total before (suc less) place r rows
one-step e o bytes total before zero place r rows lt run =
    absurd (let enough = run.enough in omega arith)
one-step e o bytes total before (suc steps) place r rows lt run = (steps, run)

-- the loop starts without instructions before it
pub begins : (e : Encoding) (o : Origin) (bytes : List ℕ) (place : ℕ) (r : Registers)
    (rows : List Row) → AreRegisters e [] r
    → r.line ≡ pos 1
    → IsRunning e o bytes (with_front rows (matrix_at e o bytes place)) [] (length bytes - place)
    place r rows
begins e o bytes place r rows registers line = record {
  registers = registers;
  enough = omega arith;
  outcome = refl;
  line = rw line (omega arith);
}

-- a fault after rows is a fault of the outcome
pub fault-is : (front : List Row) (outcome : Result (List Row) Cause) (cause : Cause)
    → with_front front outcome ≡ Err cause
    → outcome ≡ Err cause
fault-is front outcome cause h = front_err front outcome cause h
