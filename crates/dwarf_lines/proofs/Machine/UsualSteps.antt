-- Steps of usual instructions.
use Rattle.std.proofs.Common.{◌≡◌, ℕ, ◌+◌, ◌*◌, ◌<◌, ◌≤◌, ◌-◌, ◌^◌, List, [], ◌∷◌}
use Rattle.std.proofs.Common.{length, Ok, refl, sym, ap, ◌∙◌, arith, add-zero, Some, None, Option, Result}
use Rattle.std.specs.Prelude.{ℤ, pos, ◌+ℤ◌, slice_index, unsigned_abs, IfSome, ◌++◌}
use Rattle.std.proofs.lemmas.Int.{ints}
use Rattle.dwarf_bytes.specs.Numbers.{uleb_at}
use Rattle.dwarf_bytes.specs.declared.fault.Cause.{Cause}
use Rattle.dwarf_lines.specs.declared.row.Origin.{Origin}
use Rattle.dwarf_lines.specs.declared.row.Row.{Row}
use Rattle.dwarf_lines.specs.declared.registers.Registers.{Registers}
use Rattle.dwarf_lines.specs.declared.usual_registers.UsualRegisters.{UsualRegisters}
use Rattle.dwarf_lines.specs.declared.instruction.Instruction.TheVariants.{Copy, AdvancePc}
use Rattle.dwarf_lines.specs.declared.instruction.Instruction.TheVariants.{AdvanceLine, SetFile}
use Rattle.dwarf_lines.specs.declared.instruction.Instruction.TheVariants.{Special, Skipped}
use Rattle.dwarf_lines.specs.Instructions.{Encoding}
use Rattle.dwarf_lines.specs.Private.Runs.{Executes, ExecutesAt, machine_of, AdvancesLine}
use Rattle.dwarf_lines.specs.Private.Runs.{AdvancesAddress, Runs, RunsTo}
use Rattle.dwarf_lines.specs.Private.Registers.{BuildsRow, IsSum}
use Rattle.dwarf_lines.specs.Matrix.{address_part, line_change}
use Rattle.dwarf_lines.proofs.Machine.StepKinds.{advance-step, line-step, file-step}
use Rattle.dwarf_lines.proofs.Machine.StepKinds.{copy-sums, special-sums, row_step}
use Rattle.dwarf_lines.proofs.Machine.Turns.{goes_on, one-step}
use Rattle.dwarf_lines.proofs.Instructions.UsualReads.{column-read, statement-read, line-read}
use Rattle.dwarf_lines.proofs.Instructions.UsualReads.{pc-read, file-read, copy-read}
use Rattle.dwarf_lines.proofs.Instructions.UsualReads.{special-read}

-- a consequence of two facts about a value that may be there
pub where-some : {A : Type 0} (r : Option A) (P Q R : A → Type 0) → IfSome r P → IfSome r Q
    → ((x : A) → P x → Q x → R x)
    → IfSome r R
where-some None P Q R p q h = tt
where-some (Some x) P Q R p q h = h x p q

nothing-happens : (e : Encoding) (o : Origin) (r : Registers) → Executes e o Skipped r r []
nothing-happens e o r = record {
  line = omega arith;
  makes = λ before h. advance-step e o Skipped before r r refl refl refl refl refl h
      (λ sum s. rw add-zero s) refl;
}

line-moves : (e : Encoding) (o : Origin) (change : ℤ) (old new : UsualRegisters)
    → new ≡ record old { line = new.line } → pos new.line ≡ pos old.line +ℤ change
    → Executes e o (AdvanceLine change) (machine_of old) (machine_of new) []
line-moves e o change old new rest is = record {
  line = omega (arith, ints, is);
  makes = λ before h. line-step e o change before (machine_of old) (machine_of new) h
      (ap machine_of rest ∙ ap (λ (z : ℤ). record (machine_of old) { line = z }) is);
}

address-moves : (e : Encoding) (o : Origin) (operand : ℕ) (old new : UsualRegisters)
    → new ≡ record old { address = new.address }
    → new.address ≡ old.address + e.minimum_length * operand
    → Executes e o (AdvancePc operand) (machine_of old) (machine_of new) []
address-moves e o operand old new rest is =
    let line : new.line ≡ old.line = ap (λ (u : UsualRegisters). u.line) rest in record {
      line = rw line (omega arith);
      makes = λ before h. advance-step e o (AdvancePc operand) before (machine_of old)
          (machine_of new) refl refl refl refl refl h
          (λ sum s. is ∙ ap (λ (n : ℕ). n + e.minimum_length * operand) s)
          (ap machine_of rest);
    }

file-moves : (e : Encoding) (o : Origin) (old new : UsualRegisters)
    → new ≡ record old { file = new.file }
    → Executes e o (SetFile new.file) (machine_of old) (machine_of new) []
file-moves e o old new rest =
    let line : new.line ≡ old.line = ap (λ (u : UsualRegisters). u.line) rest in record {
      line = rw line (omega arith);
      makes = λ before h. rw (ap machine_of rest)
          (file-step e o new.file before (machine_of old) h);
    }

-- the row of the registers, whatever number their address is equal to
row-at : (o : Origin) (old new : UsualRegisters) (row : Row)
    → BuildsRow o (machine_of old) old.address (Ok (Some row)) (machine_of new)
    → (sum : ℕ) → IsSum (Some old.address) sum
    → BuildsRow o (machine_of old) sum (Ok (Some row)) (machine_of new)
row-at o old new row built sum is = rw (sym is) built

copy-makes : (e : Encoding) (o : Origin) (old new : UsualRegisters) (row : Row)
    → BuildsRow o (machine_of old) old.address (Ok (Some row)) (machine_of new)
    → Executes e o Copy (machine_of old) (machine_of new) (row ∷ [])
copy-makes e o old new row built = record {
  line = let line = ap (λ (r : Registers). r.line) built.2 in omega (arith, ints, line);
  makes = λ before r. let s = copy-sums e before (machine_of old) r in
      row_step e o Copy before (machine_of old) refl refl s.0 s.1 s.2 r.previous r.at_tombstone
      (Ok (Some row)) (machine_of new) (row-at o old new row built);
}

-- the registers after a special opcode has advanced them
pub record Advances (e : Encoding) (adjusted : ℕ) (old mid : UsualRegisters) : Type 0 where
  pub address : mid.address ≡ old.address + address_part e adjusted
  pub line : pos mid.line ≡ pos old.line +ℤ line_change e (Special adjusted)
  pub small : unsigned_abs (line_change e (Special adjusted)) ≤ 2 ^ 10
  pub rest : mid ≡ record old { address = mid.address; line = mid.line }

special-makes : (e : Encoding) (o : Origin) (adjusted : ℕ) (old mid new : UsualRegisters)
    (row : Row) → Advances e adjusted old mid
    → BuildsRow o (machine_of mid) mid.address (Ok (Some row)) (machine_of new)
    → Executes e o (Special adjusted) (machine_of old) (machine_of new) (row ∷ [])
special-makes e o adjusted old mid new row a built = record {
  line = let line = ap (λ (r : Registers). r.line) built.2 in let moved = a.line in
      let small = a.small in omega (arith, ints, line, moved, small);
  makes = λ before r.
      let on : Registers = record (machine_of old) { address = Some mid.address } in
      let moves : machine_of mid
      ≡ record on { line = on.line +ℤ line_change e (Special adjusted) } =
      ap machine_of a.rest ∙ ap (λ (z : ℤ). record on { line = z }) a.line in
      let s = special-sums e adjusted before (machine_of old) on (machine_of mid) r
      (λ sum is. a.address ∙ ap (λ (n : ℕ). n + address_part e adjusted) is) refl moves in
      row_step e o (Special adjusted) before (machine_of mid) refl refl s.0 s.1 s.2
      (λ kept. s.3 ∙ r.previous kept) s.4 (Ok (Some row)) (machine_of new)
      (row-at o mid new row built);
}

-- an instruction leads to the next state
pub goes-on-by : (e : Encoding) (o : Origin) (bytes : List ℕ) (total : Result (List Row) Cause)
    (at : ℕ) (old : Registers) (rows : List Row) (next : ℕ) (new : Registers) (row : List Row)
    → at < length bytes
    → ExecutesAt e o bytes at old next new row → RunsTo e o bytes total at old rows
    → RunsTo e o bytes total next new (rows ++ row)
goes-on-by e o bytes total at old rows next new row lt step so_far =
    let l = one-step e o bytes total so_far.0 so_far.1.0 at old rows lt so_far.1.1 in
    let makes = step.executes.makes so_far.0 l.1.registers in (
      step.instruction ∷ so_far.0,
      (
        l.0,
        goes_on e o bytes total so_far.0 l.0 at next step.instruction old new rows row lt
            step.moves step.read makes.0 makes.1 step.executes.line step.reach l.1,
      ),
    )

-- a run goes on with an instruction
pub runs-on : (e : Encoding) (o : Origin) (bytes : List ℕ) (start : ℕ) (first : Registers)
    (none : List Row) (at : ℕ) (old : Registers) (rows : List Row) (next : ℕ) (new : Registers)
    (row : List Row) → at < length bytes
    → ExecutesAt e o bytes at old next new row → Runs e o bytes start first none at old rows
    → Runs e o bytes start first none next new (rows ++ row)
runs-on e o bytes start first none at old rows next new row lt step runs = λ total begun.
    goes-on-by e o bytes total at old rows next new row lt step (runs total begun)

module _ (e : Encoding) (o : Origin) (bytes : List ℕ) (at : ℕ) (within : at < length bytes) where
  pub column-step : (value next : ℕ) (r : Registers) → slice_index bytes at ≡ 5
      → 5 < e.opcode_base
      → slice_index e.opcode_lengths 4 ≡ 1 → uleb_at bytes (at + 1) ≡ Ok (value, next)
      → at + 1 < next → ExecutesAt e o bytes at r next r []
  column-step value next r is known one operand moves = record {
    instruction = Skipped;
    read = column-read e bytes at within value next is known one operand;
    moves = omega (arith, moves);
    reach = omega arith;
    executes = nothing-happens e o r;
  }

  pub statement-step : (r : Registers) → slice_index bytes at ≡ 6 → 6 < e.opcode_base
      → slice_index e.opcode_lengths 5 ≡ 0 → ExecutesAt e o bytes at r (at + 1) r []
  statement-step r is known none = record {
    instruction = Skipped;
    read = statement-read e bytes at within is known none;
    moves = omega arith;
    reach = omega arith;
    executes = nothing-happens e o r;
  }

  pub lines-step : (next : ℕ) (old new : UsualRegisters) → slice_index bytes at ≡ 3
      → 3 < e.opcode_base
      → AdvancesLine bytes (at + 1) next old.line new.line → new ≡ record old { line = new.line }
      → at + 1 < next → ExecutesAt e o bytes at (machine_of old) next (machine_of new) []
  lines-step next old new is known line rest moves = record {
    instruction = AdvanceLine line.0;
    read = line-read e bytes at within line.0 next is known line.1;
    moves = omega (arith, moves);
    reach = let small = line.2 in omega (arith, small, moves);
    executes = line-moves e o line.0 old new rest line.3;
  }

  pub pc-step : (next : ℕ) (old new : UsualRegisters) → slice_index bytes at ≡ 2
      → 2 < e.opcode_base
      → AdvancesAddress bytes (at + 1) next e.minimum_length old.address new.address
      → new ≡ record old { address = new.address }
      → at + 1 < next → ExecutesAt e o bytes at (machine_of old) next (machine_of new) []
  pc-step next old new is known address rest moves = record {
    instruction = AdvancePc address.0;
    read = pc-read e bytes at within address.0 next is known address.1;
    moves = omega (arith, moves);
    reach = omega arith;
    executes = address-moves e o address.0 old new rest address.2;
  }

  pub files-step : (next : ℕ) (old new : UsualRegisters) → slice_index bytes at ≡ 4
      → 4 < e.opcode_base
      → uleb_at bytes (at + 1) ≡ Ok (new.file, next) → new ≡ record old { file = new.file }
      → at + 1 < next → ExecutesAt e o bytes at (machine_of old) next (machine_of new) []
  files-step next old new is known operand rest moves = record {
    instruction = SetFile new.file;
    read = file-read e bytes at within new.file next is known operand;
    moves = omega (arith, moves);
    reach = omega arith;
    executes = file-moves e o old new rest;
  }

  pub copy-step : (old new : UsualRegisters) (row : Row) → slice_index bytes at ≡ 1
      → 1 < e.opcode_base
      → BuildsRow o (machine_of old) old.address (Ok (Some row)) (machine_of new)
      → ExecutesAt e o bytes at (machine_of old) (at + 1) (machine_of new) (row ∷ [])
  copy-step old new row is known built = record {
    instruction = Copy;
    read = copy-read e bytes at within is known;
    moves = omega arith;
    reach = omega arith;
    executes = copy-makes e o old new row built;
  }

  pub special-step : (old mid new : UsualRegisters) (row : Row)
      → e.opcode_base ≤ slice_index bytes at
      → Advances e (slice_index bytes at - e.opcode_base) old mid
      → BuildsRow o (machine_of mid) mid.address (Ok (Some row)) (machine_of new)
      → ExecutesAt e o bytes at (machine_of old) (at + 1) (machine_of new) (row ∷ [])
  special-step old mid new row known a built = record {
    instruction = Special (slice_index bytes at - e.opcode_base);
    read = special-read e bytes at within known;
    moves = omega arith;
    reach = omega arith;
    executes = special-makes e o (slice_index bytes at - e.opcode_base) old mid new row a built;
  }
