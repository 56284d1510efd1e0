use Rattle.dwarf_entries.proofs.{List, ◌≡◌, ℕ, map, sections_of, Sections, CompilationUnit}
use Rattle.dwarf_entries.proofs.{AreStored, Bases, PassedTo, bases_of, with_bases}
use Rattle.dwarf_entries.proofs.passes.all_bases.Given as goal

-- The units before the index, and the bases that their roots define.
pub record BasesSoFar (s : Sections) (us : List CompilationUnit) (index : ℕ) (all : List Bases)
    : Type 0 where
  pub made : List CompilationUnit
  pub passed : PassedTo (λ _ u. with_bases s u) us index made
  pub bases_are : all ≡ map bases_of made

abbrev pub invariant-loop-unit : goal.invariant-loop-unit
invariant-loop-unit l =
    (us : List CompilationUnit) → AreStored l.units us
    → BasesSoFar (sections_of l.sections) us l.unit-index l.all.items
