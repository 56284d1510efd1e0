use Rattle.dwarf_bytes.proofs.Objects.ValidSections.{section_is_one}
use Rattle.dwarf_bytes.proofs.laws.section_is_one.Goals as goal

pub returns : goal.returns
returns c bytes section good wanted = section_is_one bytes section good wanted
