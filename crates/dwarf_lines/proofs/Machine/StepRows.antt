-- The effect of a step of the machine on its registers and rows.
use Rattle.std.proofs.Common.{◌≡◌, ℕ, ◌+◌, List, [], ◌∷◌, Bool, true, false, if◌then◌else◌, Result}
use Rattle.std.proofs.Common.{Ok, Err, refl, sym, ap, ◌∙◌, arith}
use Rattle.std.specs.Prelude.{ℤ, ◌+ℤ◌}
use Rattle.std.proofs.lemmas.Bool.{false≢true}
use Rattle.std.proofs.lemmas.Grind.{common_steps}
use Rattle.dwarf_bytes.specs.declared.fault.Cause.{Cause}
use Rattle.dwarf_lines.specs.declared.row.Row.{Row}
use Rattle.dwarf_lines.specs.declared.row.Origin.{Origin}
use Rattle.dwarf_lines.specs.declared.registers.Registers.{Registers}
use Rattle.dwarf_lines.specs.declared.instruction.Instruction.{Instruction}
use Rattle.dwarf_lines.specs.declared.instruction.Instruction.TheVariants.{Copy, AdvancePc}
use Rattle.dwarf_lines.specs.declared.instruction.Instruction.TheVariants.{AdvanceLine, SetFile}
use Rattle.dwarf_lines.specs.declared.instruction.Instruction.TheVariants.{ConstAddPc}
use Rattle.dwarf_lines.specs.declared.instruction.Instruction.TheVariants.{FixedAdvancePc}
use Rattle.dwarf_lines.specs.declared.instruction.Instruction.TheVariants.{SetAddress, EndSequence}
use Rattle.dwarf_lines.specs.declared.instruction.Instruction.TheVariants.{Special, Skipped}
use Rattle.dwarf_lines.specs.Instructions.{Encoding}
use Rattle.dwarf_lines.specs.Matrix.{line_change, ends_sequence, makes_line, address_after}
use Rattle.dwarf_lines.specs.Matrix.{line_after, file_after, is_open, starts_at_tombstone}
use Rattle.dwarf_lines.specs.Matrix.{row_before, line_row, row_after, checked_address, checked_line}
use Rattle.dwarf_lines.specs.Matrix.{checked_file, made_live, made}
use Rattle.dwarf_lines.specs.Private.Registers.{IsSum, AreRegisters}
use Rattle.dwarf_bytes.specs.Bind.{◌>>=◌}
use Rattle.dwarf_lines.proofs.Machine.Steps.{line-goes-on, row-stays, open-stays, row-here}
use Rattle.dwarf_lines.proofs.Machine.Steps.{open-here, tombstone-here, dropped-stays, dropped-here}

-- ---- steps

-- the registers after an instruction that makes no row
pub moved : (e : Encoding) (i : Instruction) (before : List Instruction) (old new : Registers)
    → ends_sequence i ≡ false
    → makes_line i ≡ false → AreRegisters e before old
    → IsSum new.address (address_after e (i ∷ before)) → new.line ≡ old.line +ℤ line_change e i
    → new.file ≡ file_after (i ∷ before)
    → new.previous ≡ old.previous → new.has_row ≡ old.has_row → new.at_tombstone
    ≡ starts_at_tombstone (i ∷ before)
    → AreRegisters e (i ∷ before) new
moved e i before old new h m r address line file previous has_row at_tombstone = record {
  address = address;
  line = line ∙ ap (λ z. z +ℤ line_change e i) r.line ∙ sym (line-goes-on e i before h);
  file = file;
  previous = λ kept. previous ∙ r.previous (sym (dropped-stays i before h m) ∙ kept)
      ∙ sym (row-stays e i before h m);
  has_row = has_row ∙ r.has_row ∙ sym (open-stays i before h m);
  at_tombstone = at_tombstone;
}

bind_ok : {A B : Type 0} (r : Result A Cause) (f : A → Result B Cause) (y : B) → (r >>= f) ≡ Ok y
    → (x : A) × (r ≡ Ok x) × (f x ≡ Ok y)
bind_ok (Ok x) f y h = (x, refl, h)
bind_ok (Err cause) f y h = cc

abbrev address_of : Result Row Cause → ℕ
address_of (Ok row) = row.address
address_of (Err _) = 0

checked-is : (previous sum address : ℕ) → checked_address previous sum ≡ Ok address → address ≡ sum
checked-is previous sum address h = grind (arith, common_steps)

-- the address of a row is the given sum
pub row-address : (o : Origin) (previous sum : ℕ) (line : ℤ) (file : ℕ) (row : Row)
    → line_row o previous sum line file ≡ Ok row
    → row.address ≡ sum
row-address o previous sum line file row h =
    let a = bind_ok (checked_address previous sum)
    (λ checked. checked_line line >>= λ l. checked_file o.files file
    >>= λ f. Ok (record {
      address = checked;
      program = o.program;
      file = f;
      line = l;
      «end» =
          false;
    })) row h in
    let b = bind_ok (checked_line line) (λ l. checked_file o.files file
    >>= λ f. Ok (record {
      address = a.0;
      program = o.program;
      file = f;
      line = l;
      «end» =
          false;
    })) row a.2 in
    let d = bind_ok (checked_file o.files file)
    (λ f. Ok (record {
      address = a.0;
      program = o.program;
      file = f;
      line = b.0;
      «end» =
          false;
    })) row b.2 in
    sym (ap (λ (r : Result Row Cause). address_of r) d.2) ∙ checked-is previous sum a.0 a.1

-- the registers after an instruction that makes a row
pub row-unchanged : (e : Encoding) (o : Origin) (i : Instruction) (before : List Instruction)
    (mid new : Registers) (row : Row)
    → ends_sequence i ≡ false → makes_line i ≡ true
    → IsSum mid.address (address_after e (i ∷ before)) → mid.line ≡ line_after e (i ∷ before)
    → mid.file ≡ file_after (i ∷ before)
    → mid.at_tombstone ≡ starts_at_tombstone before
    → line_row o mid.previous (address_after e (i ∷ before)) mid.line mid.file ≡ Ok row
    → new ≡ record mid { previous = row.address; has_row = true }
    → AreRegisters e (i ∷ before) new
row-unchanged e o i before mid new row h m address line file at_tombstone made kept =
    rw kept (record {
      address = address;
      line = line;
      file = file;
      previous = λ _. row-address o mid.previous (address_after e (i ∷ before)) mid.line mid.file
          row
          made ∙ sym (row-here e i before h m);
      has_row = sym (open-here i before h m);
      at_tombstone = at_tombstone ∙ sym (tombstone-here i before h m);
    })

-- .. and if the row is discarded
pub row-dropped : (e : Encoding) (i : Instruction) (before : List Instruction) (mid new : Registers)
    → ends_sequence i ≡ false
    → makes_line i ≡ true
    → IsSum mid.address (address_after e (i ∷ before)) → mid.line ≡ line_after e (i ∷ before)
    → mid.file ≡ file_after (i ∷ before)
    → mid.at_tombstone ≡ starts_at_tombstone before
    → starts_at_tombstone before ≡ true → new ≡ record mid { has_row = true } → AreRegisters e (i
    ∷ before) new
row-dropped e i before mid new h m address line file at_tombstone is kept = rw kept (record {
  address = address;
  line = line;
  file = file;
  previous = λ none. absurd (false≢true (sym none ∙ dropped-here i before h m is));
  has_row = sym (open-here i before h m);
  at_tombstone = at_tombstone ∙ sym (tombstone-here i before h m);
})

-- after the end of a sequence, the registers are those at the start of one
pub starts-again : (e : Encoding) (before : List Instruction) (r : Registers) → AreRegisters e [] r
    → AreRegisters e (EndSequence ∷ before) r
unfolding address_after line_after file_after row_before is_open starts_at_tombstone
starts-again e before r h = record {
  address = h.address;
  line = h.line;
  file = h.file;
  previous =
      h.previous;
  has_row = h.has_row;
  at_tombstone = h.at_tombstone;
}

live-row : (e : Encoding) (o : Origin) (i : Instruction) (before : List Instruction)
    → makes_line i ≡ true
    → made_live e o before i ≡ row_after e o (row_before e before) (i ∷ before)
live-row e o Copy before m = refl
live-row e o (AdvancePc n) before m = cc
live-row e o (AdvanceLine z) before m = cc
live-row e o (SetFile n) before m = cc
live-row e o ConstAddPc before m = cc
live-row e o (FixedAdvancePc n) before m = cc
live-row e o (SetAddress n) before m = cc
live-row e o EndSequence before m = cc
live-row e o (Special n) before m = refl
live-row e o Skipped before m = cc

live-nothing : (e : Encoding) (o : Origin) (i : Instruction) (before : List Instruction)
    → ends_sequence i ≡ false → makes_line i ≡ false
    → made_live e o before i ≡ Ok []
live-nothing e o Copy before h m = cc
live-nothing e o (AdvancePc n) before h m = refl
live-nothing e o (AdvanceLine z) before h m = refl
live-nothing e o (SetFile n) before h m = refl
live-nothing e o ConstAddPc before h m = refl
live-nothing e o (FixedAdvancePc n) before h m = refl
live-nothing e o (SetAddress n) before h m = refl
live-nothing e o EndSequence before h m = cc
live-nothing e o (Special n) before h m = cc
live-nothing e o Skipped before h m = refl

pub made-tombstone : (e : Encoding) (o : Origin) (before : List Instruction) (i : Instruction)
    → starts_at_tombstone before ≡ true
    → made e o before i ≡ Ok []
unfolding made
made-tombstone e o before i d = rw d refl

pub made-alive : (e : Encoding) (o : Origin) (before : List Instruction) (i : Instruction)
    → starts_at_tombstone before ≡ false
    → made e o before i ≡ made_live e o before i
unfolding made
made-alive e o before i d = rw d refl

pub made-row : (e : Encoding) (o : Origin) (i : Instruction) (before : List Instruction)
    → makes_line i ≡ true → starts_at_tombstone before ≡ false
    → made e o before i ≡ row_after e o (row_before e before) (i ∷ before)
made-row e o i before m d = made-alive e o before i d ∙ live-row e o i before m

pub made-nothing : (e : Encoding) (o : Origin) (i : Instruction) (before : List Instruction)
    → ends_sequence i ≡ false
    → makes_line i ≡ false → made e o before i ≡ Ok []
unfolding made
made-nothing e o i before h m = rw (live-nothing e o i before h m)
    (same (starts_at_tombstone before))
  where
    same : (b : Bool) → (let none : Result (List Row) Cause = Ok [] in
        (if b then none else none) ≡ none)
    same true = refl
    same false = refl
