use Rattle.dwarf_bytes.specs.Forms.{form_of}
use Rattle.dwarf_forms.{proofs.ValueEncodings.value-decoded, specs.Values.value_at}
use Rattle.dwarf_forms.proofs.laws.value_is_encoded.Goals as goal

pub returns : goal.returns
unfolding value_at
returns c form format = value-decoded form format (form_of form)
