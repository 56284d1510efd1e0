-- The results of the passes over the elements of all units.
use Rattle.dwarf_bytes.specs.{Items.{At, each}, Refusals.{in_section, memory_fault}}
use Rattle.dwarf_bytes.specs.declared.fault.LoadFault.{LoadFault}
use Rattle.std.specs.Prelude.{Err, List, Ok, Result, length, take, ℕ, ◌≡◌, ◌⊎◌}
use Rattle.dwarf_bytes.specs.declared.fault.Section.TheVariants as names

-- The result of a pass, related to the outcome, or the fault of the outcome or of memory.
abbrev pub PassGives : {X Y : Type 0} → (X → Y → Type 0) → Result X LoadFault → Result Y At → Type 0
PassGives {X} {Y} are (Ok x) outcome = (y : Y) × (outcome ≡ Ok y) × are x y
PassGives are (Err fault) outcome =
    (fault ≡ memory_fault) ⊎ (in_section names.DebugInfo outcome ≡ Err fault)

-- The results for the elements of a list before an index.
pub record PassedTo {X Y : Type 0} (make : List Y → X → Result Y At) (xs : List X) (index : ℕ)
    (made : List Y) : Type 0 where
  pub len : length made ≡ index
  pub read : each make (take index xs) ≡ Ok made
