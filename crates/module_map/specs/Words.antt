-- The words of refusals.
use Rattle.std.specs.Prelude.{ℕ, List, codes}
use Rattle.module_map.specs.declared.faults.MapFault.{MapFault}
use Rattle.module_map.specs.declared.faults.MapFault.TheVariants.{NameTaken, NoModule, Full}
use Rattle.module_map.specs.declared.faults.MapFault.TheVariants.{Object, Range, Overlap, Memory}

abbrev pub map_word : MapFault → List ℕ
map_word NameTaken = codes "name-taken"
map_word NoModule = codes "no-module"
map_word Full = codes "full"
map_word (Object fault) = codes "object"
map_word Range = codes "range"
map_word (Overlap index) = codes "overlap"
map_word Memory = codes "memory"
