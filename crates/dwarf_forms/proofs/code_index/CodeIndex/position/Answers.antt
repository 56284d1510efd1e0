use Rattle.std.proofs.Common.{arith}
use Rattle.dwarf_forms.proofs.CodeLaws.{code-position}
use Rattle.dwarf_forms.proofs.code_index.CodeIndex.position.Goals as goal

pub returns-then-is_code_at : goal.returns-then-is_code_at
returns-then-is_code_at c =
    let inside = c.self.inside in
    grind (arith, code-position inside.codes.items inside.moved c.args.code c.self.invariant)

pub returns : goal.returns
returns c =
    let inside = c.self.inside in
    grind (arith, code-position inside.codes.items inside.moved c.args.code c.self.invariant)
