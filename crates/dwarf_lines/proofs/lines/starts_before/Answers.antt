use Rattle.std.proofs.Common.{rules}
use Rattle.dwarf_lines.specs.declared.programs.ProgramFiles.{ProgramFiles}
use Rattle.dwarf_lines.proofs.Lists.Positions.{partition}
use Rattle.dwarf_lines.proofs.lines.starts_before.Goals as goal

pub returns-clause-parts : goal.returns-clause-parts
returns-clause-parts c =
    partition (λ (program : ProgramFiles). program.offset) c.args.programs.now c.args.offset
    c.partition_point.result c.requires c.partition_point.ensures.partitioned
    (λ a r f called. search rules)
