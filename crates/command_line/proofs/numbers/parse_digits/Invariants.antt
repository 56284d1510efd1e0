use Rattle.std.proofs.Common.{◌≡◌, ◌<◌, ◌^◌, take, true}
use Rattle.std.specs.List.{list_all}
use Rattle.std.specs.Char.{is_ascii_hexdigit}
use Rattle.command_line.specs.Numbers.{hex_value}
use Rattle.command_line.proofs.numbers.parse_digits.Given as goal

abbrev pub invariant-loop-byte : goal.invariant-loop-byte
invariant-loop-byte l = (l.value ≡ hex_value (take l.byte-index l.digits))
    × (l.value < 16 ^ l.byte-index) × (list_all is_ascii_hexdigit (take l.byte-index l.digits)
    ≡ true)
