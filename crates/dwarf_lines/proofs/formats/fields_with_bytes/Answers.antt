use Rattle.std.proofs.Common.{rules}
use Rattle.std.proofs.lemmas.List.Elements.{filter_from_retain}
use Rattle.dwarf_lines.specs.Private.Readers.{has_bytes}
use Rattle.dwarf_lines.proofs.formats.fields_with_bytes.Goals as goal

pub returns : goal.returns
returns c = filter_from_retain _ has_bytes (λ p x b q r. search rules) _ _ _
    c.retain.ensures.filtered
