use Rattle.dwarf_bytes.specs.Forms.{form_of}
use Rattle.dwarf_forms.specs.Values.{Spells, value_at}
use Rattle.dwarf_forms.proofs.{Encodings.one-encoding, ValueEncodings.value-decoded}
use Rattle.dwarf_forms.proofs.laws.value_is_unique.Goals as goal

pub returns : goal.returns
unfolding value_at
returns c form format constant a b x y v w is js e =
    one-encoding (Spells form format constant) (value_at form format constant)
    (λ bytes value next. (value-decoded form format (form_of form) constant bytes 0 value next).1)
    a b x y v w is js e
