use Rattle.std.proofs.Common.{◌≡◌, drop}
use Rattle.dwarf_units.specs.Entries.{attributes_at}
use Rattle.plain_scopes.proofs.Fronts.{in_front}
use Rattle.plain_scopes.proofs.attributes.attributes.Given as goal

abbrev pub invariant-loop-specification : goal.invariant-loop-specification
invariant-loop-specification l = record {
  bytes_are : l.cursor.bytes ≡ l.fn.cursor.bytes;
  read : in_front l.all.items (attributes_at l.format (drop l.specification-index
      l.specifications) l.fn.cursor.bytes l.cursor.place)
      ≡ attributes_at l.format l.specifications l.fn.cursor.bytes l.fn.cursor.place;
}
