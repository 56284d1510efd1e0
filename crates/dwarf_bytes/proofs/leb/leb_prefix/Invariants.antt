use Rattle.std.proofs.Common.{◌≡◌, ◌<◌, ◌≤◌, ◌*◌, ◌^◌, take}
use Rattle.std.specs.Prelude.{All}
use Rattle.dwarf_bytes.specs.Numbers.{uleb_value}
use Rattle.dwarf_bytes.proofs.leb.leb_prefix.Given as goal

-- the bytes so far have bit 7 set, and `value` is their decoded value
abbrev pub invariant-loop-i : goal.invariant-loop-i
invariant-loop-i l = record {
  value_is : l.value ≡ uleb_value (take l.i l.low);
  small : l.value < 2 ^ (7 * l.i);
  go_on : All (λ byte. 128 ≤ byte) (take l.i l.low);
}
