use Rattle.addr_table.proofs.Decoding.FaultLaws.{well-formed-faultless}
use Rattle.addr_table.proofs.laws.well_formed_objects_are_faultless.Goals as goal

pub returns : goal.returns
returns c = well-formed-faultless
