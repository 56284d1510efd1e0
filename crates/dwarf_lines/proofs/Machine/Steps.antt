-- The contribution of an instruction to the sums before it.
use Rattle.std.proofs.Common.{◌≡◌, ℕ, ◌+◌, List, ◌∷◌, Bool, true, false, ◌||◌, if◌then◌else◌, None}
use Rattle.std.proofs.Common.{refl, ap, arith}
use Rattle.std.specs.Prelude.{◌+ℤ◌, Option, ◌&&◌}
use Rattle.std.specs.Option.{option_map_or}
use Rattle.std.proofs.lemmas.Int.{ints}
use Rattle.dwarf_lines.specs.declared.instruction.Instruction.{Instruction}
use Rattle.dwarf_lines.specs.declared.instruction.Instruction.TheVariants.{Copy, AdvancePc}
use Rattle.dwarf_lines.specs.declared.instruction.Instruction.TheVariants.{AdvanceLine, SetFile}
use Rattle.dwarf_lines.specs.declared.instruction.Instruction.TheVariants.{ConstAddPc}
use Rattle.dwarf_lines.specs.declared.instruction.Instruction.TheVariants.{FixedAdvancePc}
use Rattle.dwarf_lines.specs.declared.instruction.Instruction.TheVariants.{SetAddress, EndSequence}
use Rattle.dwarf_lines.specs.declared.instruction.Instruction.TheVariants.{Special, Skipped}
use Rattle.dwarf_lines.specs.Instructions.{Encoding}
use Rattle.dwarf_lines.specs.Matrix.{advance, line_change, ends_sequence, sets_address, makes_line}
use Rattle.dwarf_lines.specs.Matrix.{address_set, file_set, latest, before_rows, is_tombstone}
use Rattle.dwarf_lines.specs.Matrix.{address_after, line_after, file_after, is_open}
use Rattle.dwarf_lines.specs.Matrix.{starts_at_tombstone, row_before}
use Rattle.dwarf_lines.specs.Private.Registers.{has_discarded_row}

-- an instruction that sets no address adds its advance
pub address-goes-on : (e : Encoding) (i : Instruction) (before : List Instruction)
    → ends_sequence i ≡ false → sets_address i ≡ false
    → address_after e (i ∷ before) ≡ address_after e before + advance e i
unfolding address_after
address-goes-on e Copy before h s = omega arith
address-goes-on e (AdvancePc n) before h s = omega arith
address-goes-on e (AdvanceLine z) before h s = omega arith
address-goes-on e (SetFile n) before h s = omega arith
address-goes-on e ConstAddPc before h s = omega arith
address-goes-on e (FixedAdvancePc n) before h s = omega arith
address-goes-on e (SetAddress n) before h s = cc
address-goes-on e EndSequence before h s = cc
address-goes-on e (Special n) before h s = omega arith
address-goes-on e Skipped before h s = omega arith

pub line-goes-on : (e : Encoding) (i : Instruction) (before : List Instruction)
    → ends_sequence i ≡ false
    → line_after e (i ∷ before) ≡ line_after e before +ℤ line_change e i
unfolding line_after
line-goes-on e Copy before h = omega (arith, ints)
line-goes-on e (AdvancePc n) before h = omega (arith, ints)
line-goes-on e (AdvanceLine z) before h = omega (arith, ints)
line-goes-on e (SetFile n) before h = omega (arith, ints)
line-goes-on e ConstAddPc before h = omega (arith, ints)
line-goes-on e (FixedAdvancePc n) before h = omega (arith, ints)
line-goes-on e (SetAddress n) before h = omega (arith, ints)
line-goes-on e EndSequence before h = cc
line-goes-on e (Special n) before h = omega (arith, ints)
line-goes-on e Skipped before h = omega (arith, ints)

pub file-goes-on : (i : Instruction) (before : List Instruction) → ends_sequence i ≡ false
    → file_set i ≡ None
    → file_after (i ∷ before) ≡ file_after before
unfolding file_after
file-goes-on Copy before h s = refl
file-goes-on (AdvancePc n) before h s = refl
file-goes-on (AdvanceLine z) before h s = refl
file-goes-on (SetFile n) before h s = cc
file-goes-on ConstAddPc before h s = refl
file-goes-on (FixedAdvancePc n) before h s = refl
file-goes-on (SetAddress n) before h s = refl
file-goes-on EndSequence before h s = cc
file-goes-on (Special n) before h s = refl
file-goes-on Skipped before h s = refl

-- an instruction that makes no row leaves the last row unchanged
pub row-stays : (e : Encoding) (i : Instruction) (before : List Instruction)
    → ends_sequence i ≡ false → makes_line i ≡ false
    → row_before e (i ∷ before) ≡ row_before e before
unfolding row_before
row-stays e i before h m = ap (address_after e) (rw (h, m) refl)

pub open-stays : (i : Instruction) (before : List Instruction) → ends_sequence i ≡ false
    → makes_line i ≡ false
    → is_open (i ∷ before) ≡ is_open before
unfolding is_open
open-stays i before h m = rw (h, m) refl

-- an instruction that makes a row is the last row
pub row-here : (e : Encoding) (i : Instruction) (before : List Instruction)
    → ends_sequence i ≡ false → makes_line i ≡ true
    → row_before e (i ∷ before) ≡ address_after e (i ∷ before)
unfolding row_before
row-here e i before h m = ap (address_after e) (rw (h, m) refl)

pub open-here : (i : Instruction) (before : List Instruction) → ends_sequence i ≡ false
    → makes_line i ≡ true → is_open (i ∷ before) ≡ true
unfolding is_open
open-here i before h m = rw (h, m) refl

-- ---- dead sequences

no-address : (i : Instruction) → sets_address i ≡ false → address_set i ≡ None
no-address Copy s = refl
no-address (AdvancePc n) s = refl
no-address (AdvanceLine z) s = refl
no-address (SetFile n) s = refl
no-address ConstAddPc s = refl
no-address (FixedAdvancePc n) s = refl
no-address (SetAddress n) s = cc
no-address EndSequence s = refl
no-address (Special n) s = refl
no-address Skipped s = refl

-- an instruction that sets no address leaves the last address set before the first row unchanged
start-stays : (i : Instruction) (before : List Instruction) → address_set i ≡ None → (b : Bool)
    → latest address_set (if b then before_rows before else i ∷ before_rows before)
    ≡ latest address_set (before_rows before)
start-stays i before s true = refl
start-stays i before s false = rw s refl

pub tombstone-stays : (i : Instruction) (before : List Instruction) → ends_sequence i ≡ false
    → sets_address i ≡ false
    → starts_at_tombstone (i ∷ before) ≡ starts_at_tombstone before
unfolding starts_at_tombstone
tombstone-stays i before h s =
    let start : latest address_set (before_rows (i ∷ before))
    ≡ latest address_set (before_rows before) =
    rw h (start-stays i before (no-address i s) (makes_line i || is_open before)) in
    ap (λ (o : Option ℕ). option_map_or is_tombstone o false) start

-- an instruction that makes a row does not change whether the sequence is dead
pub tombstone-here : (i : Instruction) (before : List Instruction) → ends_sequence i ≡ false
    → makes_line i ≡ true
    → starts_at_tombstone (i ∷ before) ≡ starts_at_tombstone before
unfolding starts_at_tombstone
tombstone-here i before h m =
    let start : latest address_set (before_rows (i ∷ before))
    ≡ latest address_set (before_rows before) = rw (h, m) refl in
    ap (λ (o : Option ℕ). option_map_or is_tombstone o false) start

pub tombstone-settled : (i : Instruction) (before : List Instruction) → ends_sequence i ≡ false
    → makes_line i ≡ false → is_open before ≡ true
    → starts_at_tombstone (i ∷ before) ≡ starts_at_tombstone before
unfolding starts_at_tombstone
tombstone-settled i before h m o =
    let start : latest address_set (before_rows (i ∷ before))
    ≡ latest address_set (before_rows before) = rw (h, m, o) refl in
    ap (λ (o : Option ℕ). option_map_or is_tombstone o false) start

tombstone-by : (address : ℕ) (before : List Instruction) → (b : Bool)
    → option_map_or is_tombstone (latest address_set
    (if b then before_rows before else SetAddress address ∷ before_rows before)) false
    ≡ (if b then option_map_or is_tombstone (latest address_set (before_rows before)) false else
    is_tombstone address)
tombstone-by address before true = refl
tombstone-by address before false = refl

pub tombstone-set : (address : ℕ) (before : List Instruction)
    → starts_at_tombstone (SetAddress address ∷ before)
    ≡ (if is_open before then starts_at_tombstone before else is_tombstone address)
unfolding starts_at_tombstone
tombstone-set address before = tombstone-by address before (is_open before)

pub dropped-stays : (i : Instruction) (before : List Instruction) → ends_sequence i ≡ false
    → makes_line i ≡ false
    → has_discarded_row (i ∷ before) ≡ has_discarded_row before
dropped-stays i before h m = by (is_open before) refl
  where
    by : (b : Bool) → is_open before ≡ b → has_discarded_row (i ∷ before) ≡ has_discarded_row before
    by true o = rw (open-stays i before h m, tombstone-settled i before h m o) refl
    by false o = rw (open-stays i before h m, o) refl

pub dropped-here : (i : Instruction) (before : List Instruction) → ends_sequence i ≡ false
    → makes_line i ≡ true → starts_at_tombstone before ≡ true
    → has_discarded_row (i ∷ before) ≡ true
dropped-here i before h m d = rw (open-here i before h m, tombstone-here i before h m, d) refl

and_false : (a b : Bool) → b ≡ false → (a && b) ≡ false
and_false true b h = h
and_false false b h = refl

pub live-keeps : (before : List Instruction) → starts_at_tombstone before ≡ false
    → has_discarded_row before ≡ false
live-keeps before h = and_false (is_open before) (starts_at_tombstone before) h
