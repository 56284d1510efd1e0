-- Declarations and tables are read if and only if they are encoded and valid.
use Rattle.dwarf_bytes.specs.{Items.{Item, reading}, Numbers.{IsEncodedAt, IsUleb, uleb_at}}
use Rattle.dwarf_forms.specs.Declarations.{AreValid, Declaration, EncodesDeclaration, EncodesTable}
use Rattle.dwarf_forms.specs.{Declarations.IsValid, Tables.{declaration_at, table_at}}
use Rattle.std.proofs.Common.{List, Ok, [], arith, if◌then◌else◌, length, length-append, refl, ℕ}
use Rattle.std.proofs.Common.{◌++◌, ◌↔◌, ◌∷◌, ◌≡◌, ◌≤◌}
use Rattle.dwarf_forms.proofs.AttributeEncodings.{attributes-decoded, byte-decoded, uleb-decoded}
use Rattle.dwarf_forms.proofs.Encodings.{AreDistinct, IsDecoded, again, both, distinct-front}
use Rattle.dwarf_forms.proofs.Encodings.{distinct-none, distinct-push, encoded, joined, last-new}
use Rattle.dwarf_forms.proofs.{Encodings.{list-decoded, parted, stands}, Moves.declaration-again}
use Rattle.dwarf_forms.proofs.Moves.{declaration-fits, declaration-found, declaration_at-advances}

-- ---- declarations

abbrev code_of : Declaration → ℕ
code_of d = d.code

-- the declarations are valid, their codes are distinct, and there are at most `budget` of them
abbrev FitsBudget : ℕ → List Declaration → Type 0
FitsBudget budget table = AreDistinct IsValid code_of table × (length table ≤ budget)

module _ (budget : ℕ) (section : List ℕ) (before : List Declaration) (at : ℕ) (x : Declaration)
    (next : ℕ) where
  -- a declaration is read after others if and only if it is encoded, and valid after them
  declaration-encoded : FitsBudget budget before
      → declaration_at budget section before at ≡ Ok (Item x next)
      → IsEncodedAt EncodesDeclaration section at x next × FitsBudget budget (before ++ x ∷ [])
  declaration-encoded good h =
      let fits = declaration-fits budget section before at x next h in
      let f = declaration-found budget section before at x next h in
      let code = uleb-decoded.0 f.3 in
      let tag = uleb-decoded.0 f.4 in
      let children = byte-decoded.0 f.5 in
      let all = (attributes-decoded section f.2 x.attributes next).0 f.6 in
      let attributes = all.0.1 in
      let end = all.0.2 in
      let valid : IsValid x = record {
        code = fits.some;
        named = λ k d within. (all.1.0 k d within).0;
        forms = λ k d within. (all.1.0 k d within).1;
        once = all.1.1;
      } in (
        encoded (record {
          code = code.front;
          tag = tag.front;
          attributes = attributes.front;
          end = end.front;
          whole = refl;
          code_is = code.encoded;
          tag_is = tag.encoded;
          attributes_are = attributes.encoded;
          ends = end.encoded;
        }) (joined (joined (stands code) (stands tag))
            (joined children (joined (stands attributes) (stands end)))),
        (
          distinct-push IsValid code_of before x good.0 (valid, fits.new),
          omega (arith, fits.left, length-append before (x ∷ [])),
        ),
      )

  declaration-reads : IsEncodedAt EncodesDeclaration section at x next
      → FitsBudget budget (before ++ x ∷ [])
      → declaration_at budget section before at ≡ Ok (Item x next)
  declaration-reads s good =
      let e = s.encoded in
      let flag : ℕ = if x.children then 1 else 0 in
      let parts = parted (e.code ++ e.tag) (flag ∷ (e.attributes ++ e.end)) e.whole (stands s) in
      let numbers = parted e.code e.tag refl parts.0 in
      let flagged = parted (flag ∷ []) (e.attributes ++ e.end) refl parts.1 in
      let lists = parted e.attributes e.end refl flagged.1 in
      let new = last-new IsValid code_of before x good.0 in
      let valid = new.0 in
      let attributes = (attributes-decoded section _ x.attributes next).1 (
        (_, encoded e.attributes_are lists.0, encoded e.ends lists.1),
        (λ k d within. (valid.named k d within, valid.forms k d within), valid.once),
      ) in
      declaration-again budget section before at x next (record {
        some = valid.code;
        left = omega (arith, good.1, length-append before (x ∷ []));
        new = new.1;
      }) (
        _,
        _,
        _,
        uleb-decoded.1 (encoded e.code_is numbers.0),
        uleb-decoded.1 (encoded e.tag_is numbers.1),
        byte-decoded.1 flagged.0,
        attributes,
      )

declaration-decoded : (budget : ℕ) (section : List ℕ)
    → IsDecoded EncodesDeclaration (λ b. IsUleb b 0) (FitsBudget budget) section
    (declaration_at budget section)
declaration-decoded budget section = record {
  item = λ before at x next good. (
    declaration-encoded budget section before at x next good,
    λ s. declaration-reads budget section before at x next s.0 s.1,
  );
  end = λ before at next. (
    λ h. let zero : reading (uleb_at section at) ≡ Ok (0, next) = grind (arith, h) in
        let s = uleb-decoded.0 zero in
        again s s.encoded,
    λ s. rw (uleb-decoded.1 (again s s.encoded)) refl,
  );
  none = (distinct-none IsValid code_of, omega arith);
  prefix = λ xs ys good. (
    distinct-front IsValid code_of xs ys good.0,
    omega (arith, good.1, length-append xs ys),
  );
  advances = declaration_at-advances budget section;
}

-- ---- tables

-- A table is read if and only if an encoding of it is at the offset, it is valid, and it has at
-- most `budget` declarations.
pub table-decoded : (budget : ℕ) (section : List ℕ) (at : ℕ) (table : List Declaration) (next : ℕ)
    → (table_at budget section at ≡ Ok (table, next))
    ↔ (IsEncodedAt EncodesTable section at table next × AreValid table × (length table ≤ budget))
unfolding table_at
table-decoded budget section at table next =
    let decoded = list-decoded (declaration-decoded budget section) at table next in (
      λ h. let d = decoded.0 h in
          let declarations = d.0.1 in
          let end = d.0.2 in (
            both declarations end (record {
              declarations = declarations.front;
              end = end.front;
              whole = refl;
              declarations_are = declarations.encoded;
              ends = end.encoded;
            }),
            record { each = d.1.0.0; once = d.1.0.1 },
            d.1.1,
          ),
      λ s. let e = s.0.encoded in
          let parts = parted e.declarations e.end e.whole (stands s.0) in
          decoded.1 (
            (_, encoded e.declarations_are parts.0, encoded e.ends parts.1),
            ((s.1.each, s.1.once), s.2),
          ),
    )
