-- Each row that does not end its sequence is followed by the next row of its sequence.
use Rattle.std.proofs.Common.{◌≡◌, ℕ, ◌≤◌, List, [], ◌∷◌, ◌++◌, Bool, true, false, not}
use Rattle.std.proofs.Common.{if◌then◌else◌, Ok, refl, sym, ap, ◌∙◌, subst, arith}
use Rattle.std.specs.Prelude.{ℤ}
use Rattle.std.proofs.lemmas.Bool.{false≢true}
use Rattle.std.proofs.lemmas.Bool.Decides.{nat_tests}
use Rattle.dwarf_bytes.specs.declared.fault.Cause.{Cause}
use Rattle.dwarf_bytes.proofs.Numbers.Advance.{after-bind}
use Rattle.dwarf_lines.specs.declared.row.Row.{Row}
use Rattle.dwarf_lines.specs.declared.row.ProgramNo.{ProgramNo}
use Rattle.dwarf_lines.specs.declared.row.Origin.{Origin}
use Rattle.dwarf_lines.specs.declared.instruction.Instruction.{Instruction}
use Rattle.dwarf_lines.specs.declared.instruction.Instruction.TheVariants.{Copy, AdvancePc}
use Rattle.dwarf_lines.specs.declared.instruction.Instruction.TheVariants.{AdvanceLine, SetFile}
use Rattle.dwarf_lines.specs.declared.instruction.Instruction.TheVariants.{ConstAddPc}
use Rattle.dwarf_lines.specs.declared.instruction.Instruction.TheVariants.{FixedAdvancePc}
use Rattle.dwarf_lines.specs.declared.instruction.Instruction.TheVariants.{SetAddress, EndSequence}
use Rattle.dwarf_lines.specs.declared.instruction.Instruction.TheVariants.{Special, Skipped}
use Rattle.dwarf_lines.specs.Instructions.{Encoding}
use Rattle.dwarf_lines.specs.Matrix.{address_after, line_after, file_after, ends_sequence}
use Rattle.dwarf_lines.specs.Matrix.{makes_line, is_open, starts_at_tombstone, row_before}
use Rattle.dwarf_lines.specs.Matrix.{checked_address, checked_line, checked_file, line_row, end_row}
use Rattle.dwarf_lines.specs.Matrix.{made}
use Rattle.dwarf_lines.proofs.Headers.BoundsLaws.{ok-is}
use Rattle.dwarf_lines.proofs.Machine.Steps.{open-stays, row-here, open-here, tombstone-here}
use Rattle.dwarf_lines.proofs.Machine.Steps.{tombstone-settled}
use Rattle.dwarf_lines.proofs.Machine.StepRows.{made-row, made-tombstone, made-alive}

-- The rows of a program from some point of a sequence on, up to the end of the last sequence. If
-- has_row, a row at the address previous precedes them in the sequence.
abbrev pub IsChain : ProgramNo → Bool → ℕ → List Row → Type 0
IsChain program has_row previous [] = has_row ≡ false
IsChain program has_row previous (row ∷ rows) =
    (row.program ≡ program) × (has_row ≡ true → previous ≤ row.address)
    × IsChain program (not row.«end») row.address rows

checked-is : (previous sum address : ℕ) → checked_address previous sum ≡ Ok address
    → (address ≡ sum) × (previous ≤ sum)
checked-is previous sum address h = (grind (arith, nat_tests), grind (arith, nat_tests))

pub record IsRowAt (o : Origin) (previous sum : ℕ) (ends : Bool) (row : Row) : Type 0 where
  pub program_is : row.program ≡ o.program
  pub address-is : row.address ≡ sum
  pub rises : previous ≤ sum
  pub end_is : row.«end» ≡ ends

line_row-is : (o : Origin) (previous sum : ℕ) (line : ℤ) (file : ℕ) (row : Row)
    → line_row o previous sum line file ≡ Ok row
    → IsRowAt o previous sum false row
line_row-is o previous sum line file row h =
    let P : Type 0 = IsRowAt o previous sum false row in
    after-bind (checked_address previous sum) _ row h P (λ address address-is h1.
    after-bind (checked_line line) _ row h1 P (λ l l_is h2.
    after-bind (checked_file o.files file) _ row h2 P (λ f f_is h3.
    let same : record { address = address; program = o.program; file = f; line = l; «end» = false }
    ≡ row = ok-is {E = Cause} (record
    { address = address; program = o.program; file = f; line = l; «end» = false }) row h3 in
    let checked = checked-is previous sum address address-is in
    record {
      program_is = sym (ap (λ (r : Row). r.program) same);
      address-is = sym (ap (λ (r : Row). r.address) same) ∙ checked.0;
      rises = checked.1;
      end_is = sym (ap (λ (r : Row). r.«end») same);
    })))

pub end_row-is : (o : Origin) (previous sum : ℕ) (row : Row) → end_row o previous sum ≡ Ok row
    → IsRowAt o previous sum true row
end_row-is o previous sum row h =
    let P : Type 0 = IsRowAt o previous sum true row in
    after-bind (checked_address previous sum) _ row h P (λ address address-is h1.
    let same : record { address = address; program = o.program; file = 0; line = 0; «end» = true }
    ≡ row = ok-is {E = Cause} (record
    { address = address; program = o.program; file = 0; line = 0; «end» = true }) row h1 in
    let checked = checked-is previous sum address address-is in
    record {
      program_is = sym (ap (λ (r : Row). r.program) same);
      address-is = sym (ap (λ (r : Row). r.address) same) ∙ checked.0;
      rises = checked.1;
      end_is = sym (ap (λ (r : Row). r.«end») same);
    })

-- the effect of an instruction on the rows
pub data Kind (i : Instruction) : Type 0 where
  quiet : ends_sequence i ≡ false → makes_line i ≡ false → Kind i
  makes : ends_sequence i ≡ false → makes_line i ≡ true → Kind i
  ends : i ≡ EndSequence → Kind i

pub kind_of : (i : Instruction) → Kind i
kind_of Copy = makes refl refl
kind_of (AdvancePc n) = quiet refl refl
kind_of (AdvanceLine z) = quiet refl refl
kind_of (SetFile n) = quiet refl refl
kind_of ConstAddPc = quiet refl refl
kind_of (FixedAdvancePc n) = quiet refl refl
kind_of (SetAddress n) = quiet refl refl
kind_of EndSequence = ends refl
kind_of (Special n) = makes refl refl
kind_of Skipped = quiet refl refl

-- whether the sequence has a row and is not dead
abbrev pub keeps_row : List Instruction → Bool
keeps_row before = if starts_at_tombstone before then false else is_open before

pub after-end : (e : Encoding) (before : List Instruction)
    → (keeps_row (EndSequence ∷ before) ≡ false) × (row_before e (EndSequence ∷ before) ≡ 0)
unfolding is_open starts_at_tombstone row_before address_after
after-end e before = (refl, refl)

pub at-first : (e : Encoding) → keeps_row [] ≡ false
unfolding is_open starts_at_tombstone
at-first e = refl

shut-by : (b : Bool) → (if b then false else false) ≡ false
shut-by true = refl
shut-by false = refl

pub shut-unchanged : (before : List Instruction) → is_open before ≡ false → keeps_row before ≡ false
shut-unchanged before shut = rw shut (shut-by (starts_at_tombstone before))

pub tombstone-kept : (before : List Instruction) → starts_at_tombstone before ≡ true
    → keeps_row before
    ≡ false
tombstone-kept before d = rw d refl

pub stored-stays : (i : Instruction) (before : List Instruction) → ends_sequence i ≡ false
    → makes_line i ≡ false
    → keeps_row (i ∷ before) ≡ keeps_row before
stored-stays i before h m = by (is_open before) refl
  where
    by : (b : Bool) → is_open before ≡ b → keeps_row (i ∷ before) ≡ keeps_row before
    by true o = rw (open-stays i before h m, tombstone-settled i before h m o) refl
    by false o = shut-unchanged (i ∷ before) (open-stays i before h m ∙ o)
        ∙ sym (shut-unchanged before o)

stored-here : (i : Instruction) (before : List Instruction) → ends_sequence i ≡ false
    → makes_line i ≡ true → starts_at_tombstone before ≡ false
    → keeps_row (i ∷ before) ≡ true
stored-here i before h m d = rw (tombstone-here i before h m, d, open-here i before h m) refl

pub any-address : (program : ProgramNo) (has_row : Bool) (a b : ℕ) (rows : List Row)
    → has_row ≡ false
    → IsChain program has_row a rows
    → IsChain program has_row b rows
any-address program has_row a b [] shut chain = chain
any-address program has_row a b (row ∷ rows) shut chain =
    (chain.0, λ h. absurd (false≢true (sym shut ∙ h)), chain.2)

-- in a dead sequence an instruction makes no row
pub none-more : (e : Encoding) (o : Origin) (before : List Instruction) (i : Instruction)
    (row rest : List Row) → made e o before i ≡ Ok row
    → starts_at_tombstone before ≡ true → keeps_row (i ∷ before) ≡ false
    → IsChain o.program (keeps_row (i ∷ before)) (row_before e (i ∷ before)) rest
    → IsChain o.program (keeps_row before) (row_before e before) (row ++ rest)
none-more e o before i row rest is d shut chain =
    let none : [] ≡ row = ok-is {E = Cause} [] row (sym (made-tombstone e o before i d) ∙ is) in
    let other : IsChain o.program false (row_before e (i ∷ before)) rest =
    subst (λ (b : Bool). IsChain o.program b (row_before e (i ∷ before)) rest) shut chain in
    let here : IsChain o.program (keeps_row before) (row_before e before) rest =
    subst (λ (b : Bool). IsChain o.program b (row_before e before) rest)
    (sym (tombstone-kept before d))
    (any-address o.program false (row_before e (i ∷ before)) (row_before e before) rest refl
    other) in
    subst (λ (r : List Row). IsChain o.program (keeps_row before) (row_before e before) (r ++ rest))
    none here

-- a row in a sequence that is not dead
pub line-more : (e : Encoding) (o : Origin) (before : List Instruction) (i : Instruction)
    (row rest : List Row) → made e o before i ≡ Ok row
    → starts_at_tombstone before ≡ false → ends_sequence i ≡ false → makes_line i ≡ true
    → IsChain o.program (keeps_row (i ∷ before)) (row_before e (i ∷ before)) rest
    → IsChain o.program (keeps_row before) (row_before e before) (row ++ rest)
line-more e o before i row rest is d e_is m_is chain =
    let P : Type 0 = IsChain o.program (keeps_row before) (row_before e before) (row ++ rest) in
    after-bind (line_row o (row_before e before) (address_after e (i ∷ before))
    (line_after e (i ∷ before)) (file_after (i ∷ before))) _ row
    (sym (made-row e o i before m_is d) ∙ is) P (λ found found_is h.
    let at = line_row-is o (row_before e before) (address_after e (i ∷ before))
    (line_after e (i ∷ before)) (file_after (i ∷ before)) found found_is in
    let same : found ∷ [] ≡ row = ok-is {E = Cause} (found ∷ []) row h in
    let opened : keeps_row (i ∷ before) ≡ not found.«end» = stored-here i before e_is m_is d
    ∙ ap not (sym at.end_is) in
    let last : row_before e (i ∷ before) ≡ found.address = row-here e i before e_is m_is
    ∙ sym at.address-is in
    let behind : IsChain o.program (not found.«end») found.address rest =
    subst (λ (n : ℕ). IsChain o.program (not found.«end») n rest) last
    (subst (λ (b : Bool). IsChain o.program b (row_before e (i ∷ before)) rest) opened chain) in
    let rises : row_before e before ≤ found.address =
    subst (λ (n : ℕ). row_before e before ≤ n) (sym at.address-is) at.rises in
    subst (λ (r : List Row). IsChain o.program (keeps_row before) (row_before e before) (r ++ rest))
    same (at.program_is, λ _. rises, behind))

-- .. and the row that ends the sequence
pub end-more : (e : Encoding) (o : Origin) (before : List Instruction) (row rest : List Row)
    → made e o before EndSequence ≡ Ok row
    → starts_at_tombstone before ≡ false
    → IsChain o.program (keeps_row (EndSequence ∷ before)) (row_before e (EndSequence ∷ before))
    rest
    → IsChain o.program (keeps_row before) (row_before e before) (row ++ rest)
end-more e o before row rest is d chain =
    let P : Type 0 = IsChain o.program (keeps_row before) (row_before e before) (row ++ rest) in
    after-bind (end_row o (row_before e before) (address_after e before)) _ row
    (sym (made-alive e o before EndSequence d) ∙ is) P (λ found found_is h.
    let at = end_row-is o (row_before e before) (address_after e before) found found_is in
    let same : found ∷ [] ≡ row = ok-is {E = Cause} (found ∷ []) row h in
    let shut : keeps_row (EndSequence ∷ before) ≡ not found.«end» =
    (after-end e before).0 ∙ ap not (sym at.end_is) in
    let opened : IsChain o.program (not found.«end») (row_before e (EndSequence ∷ before)) rest =
    subst (λ (b : Bool). IsChain o.program b (row_before e (EndSequence ∷ before)) rest) shut
    chain in
    let rises : row_before e before ≤ found.address =
    subst (λ (n : ℕ). row_before e before ≤ n) (sym at.address-is) at.rises in
    subst (λ (r : List Row). IsChain o.program (keeps_row before) (row_before e before) (r ++ rest))
    same (
      at.program_is,
      λ _. rises,
      any-address o.program (not found.«end»)
          (row_before e (EndSequence ∷ before)) found.address rest (ap not at.end_is) opened,
    ))
