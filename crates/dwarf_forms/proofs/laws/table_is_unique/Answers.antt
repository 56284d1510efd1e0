use Rattle.dwarf_forms.specs.{Declarations.{AreValid, EncodesTable}, Tables.table_at}
use Rattle.std.proofs.Common.{arith, length, ◌+◌, ◌≤◌}
use Rattle.dwarf_forms.proofs.{EncodedTables.table-decoded, Encodings.{again, one-encoding}}
use Rattle.dwarf_forms.proofs.laws.table_is_unique.Goals as goal

pub returns : goal.returns
returns c a b x y s t is good_s js good_t e =
    let budget = length s + length t in
    one-encoding (λ bytes table. EncodesTable bytes table × AreValid table
    × (length table ≤ budget)) (table_at budget) (λ bytes table next s.
    (table-decoded budget bytes 0 table next).1
    (again s s.encoded.0, s.encoded.1, s.encoded.2))
    a b x y s t (is, good_s, omega arith) (js, good_t, omega arith) e
