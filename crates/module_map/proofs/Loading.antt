-- The outcome of a load: the tests in order.
use Rattle.std.proofs.Common.{◌≡◌, ◌⊎◌, inl, inr, ℕ, Bool, true, false, List, refl, sym, ap, ◌∙◌}
use Rattle.std.proofs.Common.{subst}
use Rattle.std.specs.Prelude.{Option, None, Some, Result, Ok, Err, MatchResult}
use Rattle.dwarf_bytes.specs.Refusals.{memory_fault}
use Rattle.addr_table.specs.Module.{fault_of}
use Rattle.dwarf_bytes.specs.declared.fault.LoadFault.{LoadFault}
use Rattle.dwarf_bytes.specs.declared.fault.Cause.{Cause}
use Rattle.dwarf_bytes.specs.declared.fault.Cause.TheVariants as causes
use Rattle.module_map.specs.Private.Refusals.{refusal_of, refusal_by}
use Rattle.module_map.specs.World.{World, Loaded}
use Rattle.module_map.specs.Counts.{ModuleMap}
use Rattle.module_map.specs.Changes.{is_taken, is_full, load_fault, place_fault, with_module}
use Rattle.module_map.specs.Changes.{IsExtentOf, Loads}
use Rattle.module_map.specs.declared.faults.Extent.{Extent}
use Rattle.module_map.specs.declared.faults.MapFault.{MapFault}
use Rattle.module_map.specs.declared.faults.MapFault.TheVariants.{NameTaken, Full, Object, Memory}

-- a load, for which memory may have run out
abbrev pub SomeLoad : World → Loaded → Result Extent MapFault → World → Type 0
SomeLoad old m result new = (short : Bool) × Loads old m short result new

either : (fault : LoadFault) (cause : Cause) → (refusal_by fault cause ≡ Memory)
    ⊎ (refusal_by fault cause ≡ Object fault)
either fault causes.Memory = inl refl
either fault _ = inr refl

module _ (w : World) (m : Loaded) where
  pub name_taken : is_taken m.name w ≡ true → SomeLoad w m (Err NameTaken) w
  unfolding load_fault
  name_taken e = (false, (rw e refl, refl))

  module _ (free : is_taken m.name w ≡ false) where
    pub full : is_full w ≡ true → SomeLoad w m (Err Full) w
    unfolding load_fault
    full e = (false, (rw (free, e) refl, refl))

    module _ (capacity : is_full w ≡ false) where
      short_of : load_fault w m true ≡ Some Memory
      unfolding load_fault
      short_of = rw (free, capacity) refl

      object_of : (fault : LoadFault) → fault_of m.bytes ≡ Some fault
          → load_fault w m false ≡ Some (Object fault)
      unfolding load_fault
      object_of fault e = rw (free, capacity, e) refl

      placed_of : (fault : Option MapFault) → fault_of m.bytes ≡ None
          → place_fault m w.modules ≡ fault → load_fault w m false ≡ fault
      unfolding load_fault
      placed_of fault good e = rw (free, capacity, good) e

      -- an object that cannot be decoded
      pub not_decoded : (fault : LoadFault) (result : MapFault)
          → (fault ≡ memory_fault) ⊎ (fault_of m.bytes ≡ Some fault)
          → result ≡ refusal_of fault → SomeLoad w m (Err result) w
      not_decoded fault result (inl memory) is =
          (true, (short_of ∙ ap Some (sym (is ∙ ap refusal_of memory)), refl))
      not_decoded fault result (inr found) is = by (either fault fault.cause)
        where
          by : (refusal_of fault ≡ Memory) ⊎ (refusal_of fault ≡ Object fault)
              → SomeLoad w m (Err result) w
          by (inl memory) = (true, (short_of ∙ ap Some (sym (is ∙ memory)), refl))
          by (inr object) = (false, (object_of fault found ∙ ap Some (sym (is ∙ object)), refl))

      -- a decoded object that is not added
      pub not_added : (fault : MapFault) → fault_of m.bytes ≡ None
          → (fault ≡ Memory) ⊎ (place_fault m w.modules ≡ Some fault)
          → SomeLoad w m (Err fault) w
      not_added fault good (inl memory) = (true, (short_of ∙ ap Some (sym memory), refl))
      not_added fault good (inr found) = (false, (placed_of (Some fault) good found, refl))

      pub added : (extent : Extent) → fault_of m.bytes ≡ None → place_fault m w.modules ≡ None
          → IsExtentOf extent m
          → SomeLoad w m (Ok extent) (with_module w m)
      added extent good none lies = (false, (placed_of None good none, lies, refl))

-- the outcome of adding a decoded object, as contracts see the modules
abbrev pub Adds : ModuleMap → ModuleMap → Loaded → Result Extent MapFault → Type 0
Adds old new m result = MatchResult result
    (λ extent. (place_fault m old.world.modules ≡ None) × IsExtentOf extent m
    × (new ≡ record old { world = with_module old.world m }))
    (λ fault. ((fault ≡ Memory) ⊎ (place_fault m old.world.modules ≡ Some fault)) × (new ≡ old))

pub added-by : (old new : ModuleMap) (m : Loaded) (result : Result Extent MapFault)
    → is_taken m.name old.world ≡ false
    → is_full old.world ≡ false → fault_of m.bytes ≡ None → Adds old new m result
    → SomeLoad old.world m result new.world
added-by old new m (Ok extent) free capacity good k =
    subst (λ (w : World). SomeLoad old.world m (Ok extent) w)
    (sym (ap (λ (x : ModuleMap). x.world) k.2))
    (added old.world m free capacity extent good k.0 k.1)
added-by old new m (Err fault) free capacity good k =
    subst (λ (w : World). SomeLoad old.world m (Err fault) w)
    (sym (ap (λ (x : ModuleMap). x.world) k.1))
    (not_added old.world m free capacity fault good k.0)

-- the same for an object that is given by its bytes
pub added-bytes : (old new : ModuleMap) (name : List ℕ) (base : ℕ) (object bytes : List ℕ)
    (result : Result Extent MapFault)
    → is_taken name old.world ≡ false → is_full old.world ≡ false
    → object ≡ bytes → fault_of bytes ≡ None
    → Adds old new (record { name = name; base = base; bytes = object }) result
    → SomeLoad old.world (record { name = name; base = base; bytes = bytes }) result new.world
added-bytes old new name base object bytes result free capacity same good k =
    added-by old new (record { name = name; base = base; bytes = bytes }) result free capacity good
    (subst (λ (b : List ℕ). Adds old new (record { name = name; base = base; bytes = b })
    result) same k)
