-- The registers of the machine equal the sums over the instructions that it has executed.
use Rattle.std.proofs.Common.{◌≡◌, ℕ, List, [], ◌∷◌, Bool, true, if◌then◌else◌, Result, Ok, refl}
use Rattle.std.proofs.Common.{sym, ap, ◌∙◌, arith}
use Rattle.std.specs.Prelude.{ℤ, pos, ◌+ℤ◌}
use Rattle.std.proofs.lemmas.Int.{ints}
use Rattle.dwarf_bytes.specs.declared.fault.Cause.{Cause}
use Rattle.dwarf_bytes.specs.Bind.{◌>>=◌}
use Rattle.dwarf_lines.specs.declared.row.Row.{Row}
use Rattle.dwarf_lines.specs.declared.row.Origin.{Origin}
use Rattle.dwarf_lines.specs.declared.instruction.Instruction.{Instruction}
use Rattle.dwarf_lines.specs.declared.instruction.Instruction.TheVariants.{Copy, AdvancePc}
use Rattle.dwarf_lines.specs.declared.instruction.Instruction.TheVariants.{AdvanceLine, SetFile}
use Rattle.dwarf_lines.specs.declared.instruction.Instruction.TheVariants.{ConstAddPc}
use Rattle.dwarf_lines.specs.declared.instruction.Instruction.TheVariants.{FixedAdvancePc}
use Rattle.dwarf_lines.specs.declared.instruction.Instruction.TheVariants.{SetAddress, EndSequence}
use Rattle.dwarf_lines.specs.declared.instruction.Instruction.TheVariants.{Special, Skipped}
use Rattle.dwarf_lines.specs.Instructions.{Encoding}
use Rattle.dwarf_lines.specs.Matrix.{address_after, line_after, file_after, is_open}
use Rattle.dwarf_lines.specs.Matrix.{starts_at_tombstone, row_before, line_row, made_live, made}
use Rattle.dwarf_lines.specs.Matrix.{rows_from}
use Rattle.dwarf_lines.specs.Machine.{Machine, at_start, step, appended_live, appended, rows_by}
use Rattle.dwarf_lines.proofs.Machine.Steps.{address-goes-on, line-goes-on, file-goes-on, row-stays}
use Rattle.dwarf_lines.proofs.Machine.Steps.{row-here, open-stays, open-here, tombstone-stays}
use Rattle.dwarf_lines.proofs.Machine.Steps.{tombstone-here}
use Rattle.dwarf_lines.proofs.Machine.Steps.{tombstone-set}
use Rattle.dwarf_lines.proofs.Machine.StepKinds.{file-is, address-is}

-- the registers after these instructions
abbrev pub registers : Encoding → List Instruction → Machine
registers e before = record {
  address = address_after e before;
  file = file_after before;
  line =
      line_after e before;
  previous = row_before e before;
  has_row = is_open before;
  at_tombstone =
      starts_at_tombstone before;
}

same-registers : (a b : ℕ) (f g : ℕ) (l k : ℤ) (p q : ℕ) (u v d c : Bool) → a ≡ b → f ≡ g → l ≡ k
    → p ≡ q → u ≡ v → d ≡ c
    → (let m : Machine = record {
      address = a;
      file = f;
      line = l;
      previous = p;
      has_row = u;
      at_tombstone =
          d;
    } in m ≡ record {
      address = b;
      file = g;
      line = k;
      previous = q;
      has_row = v;
      at_tombstone = c;
    })
same-registers a b f g l k p q u v d c a_is f_is l_is p_is u_is d_is =
    rw (a_is, f_is, l_is, p_is, u_is, d_is) refl

-- adding 0 does not change the line
stays : (z : ℤ) → z +ℤ pos 0 ≡ z
stays z = omega (arith, ints)

after-end : (e : Encoding) (before : List Instruction) → registers e (EndSequence ∷ before)
    ≡ at_start
unfolding address_after file_after line_after row_before is_open starts_at_tombstone
after-end e before = refl

-- a step leads from the registers after some instructions to the registers after one more
step-registers : (e : Encoding) (before : List Instruction) (i : Instruction)
    → step e (registers e before) i ≡ registers e (i ∷ before)
step-registers e before Copy =
    let address = address-goes-on e Copy before refl refl in
    same-registers (address_after e before) (address_after e (Copy ∷ before)) (file_after before)
    (file_after (Copy ∷ before)) (line_after e before) (line_after e (Copy ∷ before))
    (address_after e before) (row_before e (Copy ∷ before)) true (is_open (Copy ∷ before))
    (starts_at_tombstone before) (starts_at_tombstone (Copy ∷ before))
    (omega (arith, address)) (sym (file-goes-on Copy before refl refl))
    (sym (line-goes-on e Copy before refl ∙ stays (line_after e before)))
    (let last = row-here e Copy before refl refl in omega (arith, address, last))
    (sym (open-here Copy before refl refl)) (sym (tombstone-here Copy before refl refl))
step-registers e before (AdvancePc n) =
    same-registers _ (address_after e (AdvancePc n ∷ before)) (file_after before)
    (file_after (AdvancePc n ∷ before)) (line_after e before)
    (line_after e (AdvancePc n ∷ before)) (row_before e before)
    (row_before e (AdvancePc n ∷ before)) (is_open before) (is_open (AdvancePc n ∷ before))
    (starts_at_tombstone before) (starts_at_tombstone (AdvancePc n ∷ before))
    (sym (address-goes-on e (AdvancePc n) before refl refl))
    (sym (file-goes-on (AdvancePc n) before refl refl))
    (sym (line-goes-on e (AdvancePc n) before refl ∙ stays (line_after e before)))
    (sym (row-stays e (AdvancePc n) before refl refl))
    (sym (open-stays (AdvancePc n) before refl refl))
    (sym (tombstone-stays (AdvancePc n) before refl refl))
step-registers e before (AdvanceLine z) =
    same-registers (address_after e before) (address_after e (AdvanceLine z ∷ before))
    (file_after before) (file_after (AdvanceLine z ∷ before)) _
    (line_after e (AdvanceLine z ∷ before)) (row_before e before)
    (row_before e (AdvanceLine z ∷ before)) (is_open before) (is_open (AdvanceLine z ∷ before))
    (starts_at_tombstone before) (starts_at_tombstone (AdvanceLine z ∷ before))
    (let address = address-goes-on e (AdvanceLine z) before refl refl in omega (arith, address))
    (sym (file-goes-on (AdvanceLine z) before refl refl))
    (sym (line-goes-on e (AdvanceLine z) before refl))
    (sym (row-stays e (AdvanceLine z) before refl refl))
    (sym (open-stays (AdvanceLine z) before refl refl))
    (sym (tombstone-stays (AdvanceLine z) before refl refl))
step-registers e before (SetFile file) =
    same-registers (address_after e before) (address_after e (SetFile file ∷ before)) file
    (file_after (SetFile file ∷ before)) (line_after e before)
    (line_after e (SetFile file ∷ before)) (row_before e before)
    (row_before e (SetFile file ∷ before)) (is_open before) (is_open (SetFile file ∷ before))
    (starts_at_tombstone before) (starts_at_tombstone (SetFile file ∷ before))
    (let address = address-goes-on e (SetFile file) before refl refl in omega (arith, address))
    (sym (file-is file before)) (sym
    (line-goes-on e (SetFile file) before refl ∙ stays (line_after e before)))
    (sym (row-stays e (SetFile file) before refl refl))
    (sym (open-stays (SetFile file) before refl refl))
    (sym (tombstone-stays (SetFile file) before refl refl))
step-registers e before ConstAddPc =
    same-registers _ (address_after e (ConstAddPc ∷ before)) (file_after before)
    (file_after (ConstAddPc ∷ before)) (line_after e before)
    (line_after e (ConstAddPc ∷ before)) (row_before e before)
    (row_before e (ConstAddPc ∷ before)) (is_open before) (is_open (ConstAddPc ∷ before))
    (starts_at_tombstone before) (starts_at_tombstone (ConstAddPc ∷ before))
    (sym (address-goes-on e ConstAddPc before refl refl))
    (sym (file-goes-on ConstAddPc before refl refl))
    (sym (line-goes-on e ConstAddPc before refl ∙ stays (line_after e before)))
    (sym (row-stays e ConstAddPc before refl refl))
    (sym (open-stays ConstAddPc before refl refl))
    (sym (tombstone-stays ConstAddPc before refl refl))
step-registers e before (FixedAdvancePc n) =
    same-registers _ (address_after e (FixedAdvancePc n ∷ before)) (file_after before)
    (file_after (FixedAdvancePc n ∷ before)) (line_after e before)
    (line_after e (FixedAdvancePc n ∷ before)) (row_before e before)
    (row_before e (FixedAdvancePc n ∷ before)) (is_open before)
    (is_open (FixedAdvancePc n ∷ before)) (starts_at_tombstone before) (starts_at_tombstone
    (FixedAdvancePc n ∷ before))
    (sym (address-goes-on e (FixedAdvancePc n) before refl refl))
    (sym (file-goes-on (FixedAdvancePc n) before refl refl))
    (sym (line-goes-on e (FixedAdvancePc n) before refl ∙ stays (line_after e before)))
    (sym (row-stays e (FixedAdvancePc n) before refl refl))
    (sym (open-stays (FixedAdvancePc n) before refl refl))
    (sym (tombstone-stays (FixedAdvancePc n) before refl refl))
step-registers e before (SetAddress address) =
    same-registers address (address_after e (SetAddress address ∷ before)) (file_after before)
    (file_after (SetAddress address ∷ before)) (line_after e before)
    (line_after e (SetAddress address ∷ before)) (row_before e before)
    (row_before e (SetAddress address ∷ before)) (is_open before)
    (is_open (SetAddress address ∷ before)) _ (starts_at_tombstone (SetAddress address ∷ before))
    (sym (address-is e address before)) (sym (file-goes-on (SetAddress address) before refl refl))
    (sym (line-goes-on e (SetAddress address) before refl ∙ stays (line_after e before)))
    (sym (row-stays e (SetAddress address) before refl refl))
    (sym (open-stays (SetAddress address) before refl refl)) (sym (tombstone-set address before))
step-registers e before EndSequence = sym (after-end e before)
step-registers e before (Special adjusted) =
    let address = address-goes-on e (Special adjusted) before refl refl in
    same-registers _ (address_after e (Special adjusted ∷ before)) (file_after before)
    (file_after (Special adjusted ∷ before)) _ (line_after e (Special adjusted ∷ before)) _
    (row_before e (Special adjusted ∷ before)) true (is_open (Special adjusted ∷ before))
    (starts_at_tombstone before) (starts_at_tombstone (Special adjusted ∷ before))
    (sym address) (sym (file-goes-on (Special adjusted) before refl refl))
    (sym (line-goes-on e (Special adjusted) before refl))
    (sym (row-here e (Special adjusted) before refl refl ∙ address))
    (sym (open-here (Special adjusted) before refl refl))
    (sym (tombstone-here (Special adjusted) before refl refl))
step-registers e before Skipped =
    same-registers (address_after e before) (address_after e (Skipped ∷ before)) (file_after before)
    (file_after (Skipped ∷ before)) (line_after e before) (line_after e (Skipped ∷ before))
    (row_before e before) (row_before e (Skipped ∷ before)) (is_open before)
    (is_open (Skipped ∷ before)) (starts_at_tombstone before) (starts_at_tombstone (Skipped
    ∷ before))
    (let address = address-goes-on e Skipped before refl refl in omega (arith, address))
    (sym (file-goes-on Skipped before refl refl))
    (sym (line-goes-on e Skipped before refl ∙ stays (line_after e before)))
    (sym (row-stays e Skipped before refl refl))
    (sym (open-stays Skipped before refl refl)) (sym (tombstone-stays Skipped before refl refl))

-- the row of the registers
row-from : Origin → ℕ → Machine → Result (List Row) Cause
row-from o previous m = line_row o previous m.address m.line m.file >>= λ row. Ok (row ∷ [])

-- the rows that the machine appends are the ones defined by the sums
appended-live : (e : Encoding) (o : Origin) (before : List Instruction) (i : Instruction)
    → appended_live e o (registers e before) i ≡ made_live e o before i
unfolding row-from
appended-live e o before Copy = ap (row-from o (row_before e before)) (step-registers e before Copy)
appended-live e o before (AdvancePc n) = refl
appended-live e o before (AdvanceLine z) = refl
appended-live e o before (SetFile file) = refl
appended-live e o before ConstAddPc = refl
appended-live e o before (FixedAdvancePc n) = refl
appended-live e o before (SetAddress address) = refl
appended-live e o before EndSequence = refl
appended-live e o before (Special adjusted) =
    ap (row-from o (row_before e before)) (step-registers e before (Special adjusted))
appended-live e o before Skipped = refl

unless-tombstone : Bool → Result (List Row) Cause → Result (List Row) Cause
unless-tombstone at_tombstone row = if at_tombstone then Ok [] else row

appended-made : (e : Encoding) (o : Origin) (before : List Instruction) (i : Instruction)
    → appended e o (registers e before) i ≡ made e o before i
unfolding made unless-tombstone
appended-made e o before i = ap (unless-tombstone (starts_at_tombstone before))
    (appended-live e o before i)

rows-from-registers : (e : Encoding) (o : Origin) (before rest : List Instruction)
    → rows_from e o before rest ≡ rows_by e o (registers e before) rest
unfolding rows_from rows_by
rows-from-registers e o before [] = refl
rows-from-registers e o before (i ∷ rest) =
    let one = rows-from-registers e o (i ∷ before) rest ∙ ap (λ (m : Machine). rows_by e o m rest)
    (sym (step-registers e before i)) in
    rw (appended-made e o before i, one) refl

at-first : (e : Encoding) → registers e [] ≡ at_start
unfolding address_after file_after line_after row_before is_open starts_at_tombstone
at-first e = refl

pub rows-by-machine : (e : Encoding) (o : Origin) (is : List Instruction)
    → rows_from e o [] is ≡ rows_by e o at_start is
rows-by-machine e o is = rows-from-registers e o [] is ∙ ap (λ (m : Machine). rows_by e o m is)
    (at-first e)
