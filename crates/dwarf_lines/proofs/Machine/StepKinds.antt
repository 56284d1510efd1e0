-- The steps for each kind of instruction.
use Rattle.std.proofs.Common.{◌≡◌, ℕ, ◌+◌, List, [], ◌∷◌, Bool, true, false, if◌then◌else◌, Some}
use Rattle.std.proofs.Common.{None, Result, Ok, Err, refl, sym, ap, ◌∙◌, arith}
use Rattle.std.specs.Prelude.{ℤ, pos, ◌+ℤ◌, Option, option_to_list, IfOk}
use Rattle.std.proofs.lemmas.Int.{ints, to_z-of_z}
use mir.Syntax.{w128}
use mir.Val.{SFits, to_z, of_z}
use Rattle.dwarf_bytes.specs.declared.fault.Cause.{Cause}
use Rattle.dwarf_lines.specs.declared.row.Row.{Row}
use Rattle.dwarf_lines.specs.declared.row.Origin.{Origin}
use Rattle.dwarf_lines.specs.declared.registers.Registers.{Registers}
use Rattle.dwarf_lines.specs.declared.instruction.Instruction.{Instruction}
use Rattle.dwarf_lines.specs.declared.instruction.Instruction.TheVariants.{Copy, AdvanceLine}
use Rattle.dwarf_lines.specs.declared.instruction.Instruction.TheVariants.{SetFile, SetAddress}
use Rattle.dwarf_lines.specs.declared.instruction.Instruction.TheVariants.{EndSequence, Special}
use Rattle.dwarf_lines.specs.Instructions.{Encoding}
use Rattle.dwarf_lines.specs.Matrix.{advance, line_change, ends_sequence, sets_address, makes_line}
use Rattle.dwarf_lines.specs.Matrix.{file_set, is_tombstone, address_after, line_after, file_after}
use Rattle.dwarf_lines.specs.Matrix.{starts_at_tombstone, row_before, line_row, end_row, row_after}
use Rattle.dwarf_lines.specs.Matrix.{made}
use Rattle.dwarf_lines.specs.Private.Registers.{IsSum, has_discarded_row, AreRegisters, BuildsRow}
use Rattle.dwarf_lines.specs.Private.Registers.{last_row, Makes}
use Rattle.dwarf_bytes.specs.Bind.{◌>>=◌}
use Rattle.dwarf_lines.proofs.Machine.Steps.{address-goes-on, line-goes-on, file-goes-on}
use Rattle.dwarf_lines.proofs.Machine.Steps.{tombstone-stays, tombstone-set, live-keeps}
use Rattle.dwarf_lines.proofs.Machine.StepRows.{moved, row-unchanged, row-dropped, made-tombstone}
use Rattle.dwarf_lines.proofs.Machine.StepRows.{made-alive}
use Rattle.dwarf_lines.proofs.Machine.StepRows.{made-row, made-nothing}

-- a step over an instruction that makes no row
pub quiet-step : (e : Encoding) (o : Origin) (i : Instruction) (before : List Instruction)
    (old new : Registers) → ends_sequence i ≡ false
    → makes_line i ≡ false → AreRegisters e before old
    → IsSum new.address (address_after e (i ∷ before)) → new.line ≡ old.line +ℤ line_change e i
    → new.file ≡ file_after (i ∷ before)
    → new.previous ≡ old.previous → new.has_row ≡ old.has_row → new.at_tombstone
    ≡ starts_at_tombstone (i ∷ before)
    → (made e o before i ≡ Ok []) × AreRegisters e (i ∷ before) new
quiet-step e o i before old new h m r address line file previous has_row at_tombstone = (
  made-nothing e o i before h m,
  moved e i before old new h m r address line file previous
      has_row at_tombstone,
)

-- a step over an instruction that makes a row from the registers mid
module _ (e : Encoding) (o : Origin) (i : Instruction) (before : List Instruction) (mid : Registers)
    (ends : ends_sequence i ≡ false) (makes : makes_line i ≡ true)
    (address : IsSum mid.address (address_after e (i ∷ before)))
    (line : mid.line ≡ line_after e (i ∷ before)) (file : mid.file ≡ file_after (i ∷ before))
    (previous : has_discarded_row before ≡ false → mid.previous ≡ row_before e before)
    (at_tombstone : mid.at_tombstone ≡ starts_at_tombstone before) where
  outcome_is : starts_at_tombstone before ≡ false → row_after e o (row_before e before) (i ∷ before)
      ≡ (line_row o mid.previous (address_after e (i ∷ before)) mid.line mid.file
      >>= λ row. Ok (row ∷ []))
  outcome_is live = rw (previous (live-keeps before live), line, file) refl

  pub row_step : (result : Result (Option Row) Cause) (new : Registers)
      → ((sum : ℕ) → IsSum mid.address sum → BuildsRow o mid sum result new)
      → Makes e o before i result new
  row_step (Ok (Some row)) new keeps =
      let k = keeps (address_after e (i ∷ before)) address in
      let live : starts_at_tombstone before ≡ false = sym at_tombstone ∙ k.0 in (
        made-row e o i before makes live ∙ outcome_is live
            ∙ ap (λ (r : Result Row Cause). r >>= λ row. Ok (row ∷ [])) k.1,
        row-unchanged e o i before mid new row ends makes address line file at_tombstone k.1 k.2,
      )
  row_step (Ok None) new keeps =
      let k = keeps (address_after e (i ∷ before)) address in
      let is : starts_at_tombstone before ≡ true = sym at_tombstone ∙ k.0 in (
        made-tombstone e o before i is,
        row-dropped e i before mid new ends makes address line file at_tombstone
            is k.1,
      )
  row_step (Err cause) new keeps =
      let k = keeps (address_after e (i ∷ before)) address in
      let live : starts_at_tombstone before ≡ false = sym at_tombstone ∙ k.0 in
      made-row e o i before makes live ∙ outcome_is live
      ∙ ap (λ (r : Result Row Cause). r >>= λ row. Ok (row ∷ [])) k.1

-- the registers for the row of a Copy are those before it
pub copy-sums : (e : Encoding) (before : List Instruction) (r : Registers) → AreRegisters e before r
    → IsSum r.address (address_after e (Copy ∷ before)) × (r.line ≡ line_after e (Copy ∷ before))
    × (r.file ≡ file_after (Copy ∷ before))
copy-sums e before r h =
    let same : address_after e (Copy ∷ before) ≡ address_after e before =
    omega (arith, address-goes-on e Copy before refl refl) in
    let line : line_after e (Copy ∷ before) ≡ line_after e before =
    omega (arith, ints, line-goes-on e Copy before refl) in
    (rw same h.address, h.line ∙ sym line, h.file ∙ sym (file-goes-on Copy before refl refl))

-- a special opcode first advances the registers
pub special-sums : (e : Encoding) (adjusted : ℕ) (before : List Instruction)
    (old on mid : Registers) → AreRegisters e before old
    → ((sum : ℕ) → IsSum old.address sum → IsSum on.address (sum + advance e (Special adjusted)))
    → on ≡ record old { address = on.address }
    → mid ≡ record on { line = on.line +ℤ line_change e (Special adjusted) }
    → IsSum mid.address (address_after e (Special adjusted ∷ before))
    × (mid.line ≡ line_after e (Special adjusted ∷ before))
    × (mid.file ≡ file_after (Special adjusted ∷ before)) × (mid.previous ≡ old.previous)
    × (mid.at_tombstone ≡ starts_at_tombstone before)
special-sums e adjusted before old on mid r address rest moves =
    let sum = address-goes-on e (Special adjusted) before refl refl in
    let line = line-goes-on e (Special adjusted) before refl in (
      rw (moves, sum) (address (address_after e before) r.address),
      ap (λ (r : Registers). r.line) moves
          ∙ ap (λ (r : Registers). r.line +ℤ line_change e (Special adjusted)) rest
          ∙ ap (λ z. z +ℤ line_change e (Special adjusted)) r.line ∙ sym line,
      ap (λ (r : Registers). r.file) moves ∙ ap (λ (r : Registers). r.file) rest ∙ r.file
          ∙ sym (file-goes-on (Special adjusted) before refl refl),
      ap (λ (r : Registers). r.previous) moves ∙ ap (λ (r : Registers). r.previous) rest,
      ap (λ (r : Registers). r.at_tombstone) moves ∙ ap (λ (r : Registers). r.at_tombstone) rest
          ∙ r.at_tombstone,
    )

-- a step over an instruction that changes only the address
pub advance-step : (e : Encoding) (o : Origin) (i : Instruction) (before : List Instruction)
    (old new : Registers) → ends_sequence i ≡ false
    → makes_line i ≡ false → sets_address i ≡ false → file_set i ≡ None → line_change e i ≡ pos 0
    → AreRegisters e before old → ((sum : ℕ) → IsSum old.address sum
    → IsSum new.address (sum + advance e i))
    → new ≡ record old { address = new.address }
    → (made e o before i ≡ Ok []) × AreRegisters e (i ∷ before) new
advance-step e o i before old new ends makes sets file still r address rest =
    let none : old.line +ℤ line_change e i ≡ old.line = rw still (omega (arith, ints)) in
    quiet-step e o i before old new ends makes r
    (rw (address-goes-on e i before ends sets) (address (address_after e before) r.address))
    (ap (λ (r : Registers). r.line) rest ∙ sym none)
    (ap (λ (r : Registers). r.file) rest ∙ r.file ∙ sym (file-goes-on i before ends file))
    (ap (λ (r : Registers). r.previous) rest) (ap (λ (r : Registers). r.has_row) rest)
    (ap (λ (r : Registers). r.at_tombstone) rest ∙ r.at_tombstone
    ∙ sym (tombstone-stays i before ends sets))

-- a step over an instruction that changes only the line
pub line-step : (e : Encoding) (o : Origin) (change : ℤ) (before : List Instruction)
    (old new : Registers) → AreRegisters e before old
    → new ≡ record old { line = old.line +ℤ change }
    → (made e o before (AdvanceLine change) ≡ Ok []) × AreRegisters e (AdvanceLine change ∷ before)
    new
line-step e o change before old new r rest =
    let same : address_after e (AdvanceLine change ∷ before) ≡ address_after e before =
    omega (arith, address-goes-on e (AdvanceLine change) before refl refl) in
    rw rest (quiet-step e o (AdvanceLine change) before old
    (record old { line = old.line +ℤ change }) refl refl r (rw same r.address) refl
    (r.file ∙ sym (file-goes-on (AdvanceLine change) before refl refl)) refl refl
    (r.at_tombstone ∙ sym (tombstone-stays (AdvanceLine change) before refl refl)))

pub file-is : (file : ℕ) (before : List Instruction) → file_after (SetFile file ∷ before) ≡ file
unfolding file_after
file-is file before = refl

pub address-is : (e : Encoding) (address : ℕ) (before : List Instruction)
    → address_after e (SetAddress address ∷ before) ≡ address
unfolding address_after
address-is e address before = omega arith

pub file-step : (e : Encoding) (o : Origin) (file : ℕ) (before : List Instruction) (old : Registers)
    → AreRegisters e before old
    → (made e o before (SetFile file) ≡ Ok []) × AreRegisters e (SetFile file ∷ before)
    (record old { file = file })
file-step e o file before old r =
    let same : address_after e (SetFile file ∷ before) ≡ address_after e before =
    omega (arith, address-goes-on e (SetFile file) before refl refl) in
    quiet-step e o (SetFile file) before old (record old { file = file }) refl refl r
    (rw same r.address) (omega (arith, ints)) (sym (file-is file before)) refl refl
    (r.at_tombstone ∙ sym (tombstone-stays (SetFile file) before refl refl))

-- the registers after an address is set
abbrev pub with_address : ℕ → Registers → Registers
with_address address old = record old {
  address = Some address;
  at_tombstone =
      if old.has_row then old.at_tombstone else is_tombstone address;
}

pub address-step : (e : Encoding) (o : Origin) (address : ℕ) (before : List Instruction)
    (old : Registers) → AreRegisters e before old
    → (made e o before (SetAddress address) ≡ Ok []) × AreRegisters e (SetAddress address ∷ before)
    (with_address address old)
address-step e o address before old r =
    let at_tombstone : (if old.has_row then old.at_tombstone else is_tombstone address)
    ≡ starts_at_tombstone (SetAddress address ∷ before) =
    rw (r.has_row, r.at_tombstone) (sym (tombstone-set address before)) in
    quiet-step e o (SetAddress address) before old (with_address address old) refl refl r
    (sym (address-is e address before)) (omega (arith, ints))
    (r.file ∙ sym (file-goes-on (SetAddress address) before refl refl)) refl refl at_tombstone

-- the row that ends a sequence
end_row-made : (r : Result Row Cause) → (r >>= λ row. Ok (row ∷ []))
    ≡ (last_row false r >>= λ row. Ok (option_to_list row))
end_row-made (Ok row) = refl
end_row-made (Err cause) = refl

pub end-step : (e : Encoding) (o : Origin) (before : List Instruction) (old : Registers)
    → AreRegisters e before old
    → (result : Result (Option Row) Cause)
    → ((sum : ℕ) → IsSum old.address sum → result ≡ last_row old.at_tombstone
    (end_row o old.previous sum))
    → made e o before EndSequence ≡ (result >>= λ row. Ok (option_to_list row))
end-step e o before old r result h = by (starts_at_tombstone before) refl
  where
    found : (b : Bool) → starts_at_tombstone before ≡ b
        → result ≡ last_row b (end_row o old.previous (address_after e before))
    found b is = h (address_after e before) r.address
        ∙ ap (λ (b : Bool). last_row b (end_row o old.previous (address_after e before)))
        (r.at_tombstone ∙ is)

    by : (b : Bool) → starts_at_tombstone before ≡ b → made e o before EndSequence
        ≡ (result >>= λ row. Ok (option_to_list row))
    by true is = made-tombstone e o before EndSequence is
        ∙ ap (λ (r : Result (Option Row) Cause). r >>= λ row. Ok (option_to_list row))
        (sym (found true is))
    by false is =
        let last : end_row o (row_before e before) (address_after e before)
        ≡ end_row o old.previous (address_after e before) =
        ap (λ (n : ℕ). end_row o n (address_after e before))
        (sym (r.previous (live-keeps before is))) in
        made-alive e o before EndSequence is
        ∙ end_row-made (end_row o (row_before e before) (address_after e before))
        ∙ ap (λ (r : Result Row Cause). last_row false r >>= λ row. Ok (option_to_list row))
        last
        ∙ ap (λ (r : Result (Option Row) Cause). r >>= λ row. Ok (option_to_list row))
        (sym (found false is))

-- a line increment, with and without the cast
pub moves-by : (old new : Registers) (change result : ℤ) → SFits w128 result → result ≡ change
    → new ≡ record old { line = old.line +ℤ to_z w128 (of_z w128 result) }
    → new ≡ record old { line = old.line +ℤ change }
moves-by old new change result fits is moves =
    moves ∙ ap (λ z. record old { line = old.line +ℤ z }) (to_z-of_z w128 result fits ∙ is)

-- a property that does not depend on the result
pub where-ok : {A E : Type 0} (r : Result A E) (P : Type 0) → P → IfOk r (λ _. P)
where-ok (Ok x) P h = h
where-ok (Err e) P h = tt
