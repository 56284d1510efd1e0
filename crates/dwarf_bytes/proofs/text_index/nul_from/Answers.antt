use Rattle.std.proofs.Common.{◌∙◌}
use Rattle.dwarf_bytes.proofs.Strings.FirstNuls.{nul-in-block}
use Rattle.dwarf_bytes.proofs.Strings.NulIndex.{nul-from-index}
use Rattle.dwarf_bytes.proofs.text_index.nul_from.Goals as goal

pub returns-in-Some : goal.returns-in-Some
returns-in-Some c = nul-in-block c.args.section.now c.args.at c.in-Some.nul c.in-Some.ensures

pub returns-in-None : goal.returns-in-None
returns-in-None c = c.nul_of.ensures
    ∙ nul-from-index c.args.section.now c.args.nuls.now c.args.at c.requires c.in-None.ensures
