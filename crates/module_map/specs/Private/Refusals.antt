-- The reason for refusing an object that cannot be decoded.
use Rattle.dwarf_bytes.specs.declared.fault.LoadFault.{LoadFault}
use Rattle.dwarf_bytes.specs.declared.fault.Cause.{Cause}
use Rattle.dwarf_bytes.specs.declared.fault.Cause.TheVariants as causes
use Rattle.module_map.specs.declared.faults.MapFault.{MapFault}
use Rattle.module_map.specs.declared.faults.MapFault.TheVariants.{Object, Memory}

abbrev pub refusal_by : LoadFault → Cause → MapFault
refusal_by fault causes.Memory = Memory
refusal_by fault _ = Object fault

abbrev pub refusal_of : LoadFault → MapFault
refusal_of fault = refusal_by fault fault.cause
