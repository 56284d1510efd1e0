use Rattle.std.proofs.Common.{◌≡◌, take}
use Rattle.std.specs.Prelude.{not}
use Rattle.std.specs.List.{list_all}
use Rattle.answer_text.specs.Printable.{is_control}
use Rattle.answer_text.proofs.printable.is_block_printable.Given as goal

abbrev pub invariant-loop-byte : goal.invariant-loop-byte
invariant-loop-byte l =
    l.all ≡ list_all (λ byte. not (is_control byte)) (take l.byte-index l.block)
