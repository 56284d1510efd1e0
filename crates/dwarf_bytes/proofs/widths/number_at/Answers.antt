use Rattle.std.proofs.Common.{arith}
use Rattle.std.proofs.lemmas.Grind.{common_steps}
use Rattle.dwarf_bytes.proofs.Fixed.{masked-field}
use Rattle.dwarf_bytes.proofs.widths.number_at.Goals as goal

pub returns : goal.returns
returns c = grind (
  arith,
  common_steps,
  masked-field c.args.width c.args.bytes.now c.args.at c.u64_at.result c.greatest.result
      (λ i. (c.type_inv.bytes i).fits) c.u64_at.type_inv c.u64_at.ensures c.greatest.ensures,
)
