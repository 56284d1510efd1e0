-- How a run changes the failure counts of its devices.
use Rattle.std.specs.Prelude.{ℕ, Result, Ok, Err}
use Rattle.io_streams.specs.Streams.{one_more}
use Rattle.io_streams.specs.declared.faults.RunFault.{RunFault}
use Rattle.io_streams.specs.declared.faults.RunFault.TheVariants.{Reading, Writing, Memory, Exe}

-- a run ends at its first failed read or write
abbrev pub read_failures_after : ℕ → Result (Unit {0}) RunFault → ℕ
read_failures_after n (Err Reading) = one_more n
read_failures_after n (Err Writing) = n
read_failures_after n (Err Memory) = n
read_failures_after n (Err (Exe why)) = n
read_failures_after n (Ok done) = n

abbrev pub write_failures_after : ℕ → Result (Unit {0}) RunFault → ℕ
write_failures_after n (Err Writing) = one_more n
write_failures_after n (Err Reading) = n
write_failures_after n (Err Memory) = n
write_failures_after n (Err (Exe why)) = n
write_failures_after n (Ok done) = n
