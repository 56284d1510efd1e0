-- The words of refusals.
use Rattle.std.specs.Prelude.{ℕ, List, codes}
use Rattle.io_streams.specs.declared.faults.FetchFault.{FetchFault}
use Rattle.io_streams.specs.declared.faults.FetchFault.TheVariants.{File, TooLarge, Memory}

abbrev pub fetch_word : FetchFault → List ℕ
fetch_word File = codes "file"
fetch_word TooLarge = codes "too-large"
fetch_word Memory = codes "memory"
