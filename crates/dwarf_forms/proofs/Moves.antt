-- The reads of the parts of a declaration, and the number of bytes that each of them consumes.
use Rattle.dwarf_bytes.proofs.Items.{ItemLaws.Lists-within, Turns.{Ends, Lists-moves}}
use Rattle.dwarf_bytes.proofs.Numbers.Advance.{MovesOn, after-bind, after-test, chosen}
use Rattle.dwarf_bytes.proofs.Numbers.Moves.{same-ok, sleb-moves, u8-moves, uleb-moves}
use Rattle.dwarf_bytes.specs.{Forms.form_of, Items.{Advances, At, End, Item, Lists, Next}}
use Rattle.dwarf_bytes.specs.{Items.{items_from, reading, without_offset}, Numbers.{u8_at, uleb_at}}
use Rattle.dwarf_forms.{proofs.{Elements.any_map, Encodings.IsNew}, specs.Declarations.Declaration}
use Rattle.dwarf_forms.specs.Tables.{attribute_at, attributes_at, constant_at, declaration_at}
use Rattle.dwarf_forms.specs.declared.attribute.AttributeSpecification.{AttributeSpecification}
use Rattle.std.proofs.Common.{Err, IsSome, List, Ok, Option, Result, [], arith, false}
use Rattle.std.proofs.Common.{if◌then◌else◌, is_none, length, refl, suc, true, ℕ, ℤ, ◌&&◌, ◌-◌, ◌<◌}
use Rattle.std.proofs.{Common.{◌==◌, ◌||◌, ◌≡◌, ◌≢◌, ◌≤◌}, lemmas.List.length-map}
use Rattle.std.specs.List.{list_any}
use Rattle.dwarf_bytes.specs.declared.fault.Cause.TheVariants as causes

-- the conditions on an attribute that do not depend on the ones before it
abbrev pub IsUsable : AttributeSpecification → Type 0
IsUsable attribute = (attribute.name ≢ 0) × IsSome (form_of attribute.form)

abbrev pub name_of : AttributeSpecification → ℕ
name_of attribute = attribute.name

-- the fields of an attribute are read one after the other
abbrev pub FieldsAt : List ℕ → ℕ → AttributeSpecification → ℕ → Type 0
FieldsAt section at x next = (mid : ℕ) × (last : ℕ)
    × (reading (uleb_at section at) ≡ Ok (x.name, mid))
    × (reading (uleb_at section mid) ≡ Ok (x.form, last))
    × (constant_at x.form section last ≡ Ok (x.constant, next))

-- a name 0 and a form 0 are read
abbrev pub EndAt : List ℕ → ℕ → ℕ → Type 0
EndAt section at next = (mid : ℕ) × (reading (uleb_at section at) ≡ Ok (0, mid))
    × (reading (uleb_at section mid) ≡ Ok (0, next))

-- what the read of an attribute after other ones has found
abbrev pub Found : List ℕ → List AttributeSpecification → ℕ → Next AttributeSpecification → Type 0
Found section before at (Item x next) = FieldsAt section at x next × IsNew IsUsable name_of before x
Found section before at (End next) = EndAt section at next

-- what an attribute or the end is read from, ..
pub found : (section : List ℕ) (before : List AttributeSpecification) (at : ℕ)
    (next : Next AttributeSpecification) → attribute_at section before at ≡ Ok next
    → Found section before at next
found section before at next h =
    let P : Type 0 = Found section before at next in
    after-bind (reading (uleb_at section at)) _ next h P (λ name name_is h1.
    after-bind (reading (uleb_at section name.1)) _ next h1 P (λ form form_is h2.
    chosen ((name.0 == 0) && (form.0 == 0)) _ _ (Ok next) h2 P (λ zeros is.
    rw (← same-ok (End form.1) next is)
    (name.1, grind arith, grind arith)) (λ _ h3.
    after-test ((name.0 == 0) || is_none (form_of form.0)) causes.Form _ next h3 P (λ usable h4.
    after-test (list_any (λ y. y.name == name.0) before) causes.AttrTwice _ next h4 P (λ once h5.
    after-bind (constant_at form.0 section form.1) _ next h5 P (λ constant constant_is is.
    rw (← same-ok
    (Item (record { name = name.0; form = form.0; constant = constant.0 }) constant.1) next is) (
      (name.1, form.1, name_is, form_is, constant_is),
      (parts name.0 (form_of form.0) usable, once),
    )))))))
  where
    parts : (name : ℕ) {X : Type 0} (form : Option X) → ((name == 0) || is_none form) ≡ false
        → (name ≢ 0) × IsSome form
    parts name form h = grind arith

-- the tests of a name and a form
tests : (name f : ℕ) {X : Type 0} (form : Option X) → name ≢ 0 → IsSome form
    → (((name == 0) && (f == 0)) ≡ false) × (((name == 0) || is_none form) ≡ false)
tests name f form h some = (grind arith, grind arith)

-- .. and the read of it
pub found-again : (section : List ℕ) (before : List AttributeSpecification) (at : ℕ)
    (next : Next AttributeSpecification) → Found section before at next
    → attribute_at section before at ≡ Ok next
found-again section before at (Item x next) f =
    let t = tests x.name x.form (form_of x.form) f.1.0.0 f.1.0.1 in
    rw (f.0.2, f.0.3, f.0.4, f.1.1, t.0, t.1) refl
found-again section before at (End next) f = rw (f.1, f.2) refl

-- an attribute is refused after others if one of them has its name
pub found-twice : (section : List ℕ) (before other : List AttributeSpecification) (at : ℕ)
    (x : AttributeSpecification) (next : ℕ) → Found section before at (Item x next)
    → list_any (λ y. y.name == x.name) other ≡ true
    → attribute_at section other at ≡ Err causes.AttrTwice
found-twice section before other at x next f twice =
    let t = tests x.name x.form (form_of x.form) f.1.0.0 f.1.0.1 in
    rw (f.0.2, f.0.3, twice, t.0, t.1) refl

-- a constant has zero or more bytes, and ends within the section
constant_at-moves : (form : ℕ) (section : List ℕ) (at : ℕ) (read : Option ℤ × ℕ)
    → at ≤ length section → constant_at form section at ≡ Ok read
    → (at ≤ read.1) × (read.1 ≤ length section)
constant_at-moves form section at read le h = grind (arith, sleb-moves section at)

-- each attribute has at least one byte, and so does the end
pub attribute_at-advances : (section : List ℕ) → Advances (length section) (attribute_at section)
attribute_at-advances section before at x after h =
    let f = (found section before at (Item x after) h).0 in
    let name = uleb-moves section at (x.name, f.0) f.2 in
    let form = uleb-moves section f.0 (x.form, f.1) f.3 in
    let moved = constant_at-moves x.form section f.1 (x.constant, after) form.1 f.4 in
    (omega arith, moved.1)

pub attribute_at-ends : (section : List ℕ) → Ends (length section) (attribute_at section)
attribute_at-ends section before at after h =
    let f = found section before at (End after) h in grind (arith, f.1, f.2, uleb-moves section)

-- ---- the attributes of a declaration

pub with-offset : {X : Type 0} (r : Result X At) (x : X) → without_offset r ≡ Ok x → r ≡ Ok x
with-offset r x h = grind arith

module _ (section : List ℕ) (at : ℕ) (read : List AttributeSpecification × ℕ) where
  pub attributes_at-lists : attributes_at section at ≡ Ok read
      → Lists (attribute_at section) [] at read.0 read.1
  unfolding attributes_at
  attributes_at-lists h =
      Lists-within (suc (length section - at)) _ [] at read.0 read.1 (with-offset _ read h)

  pub attributes_at-moves : attributes_at section at ≡ Ok read → MovesOn section at read.1
  attributes_at-moves h =
      Lists-moves (length section) (attribute_at section) (attribute_at-advances section)
      (attribute_at-ends section) [] at read.0 read.1 (attributes_at-lists h)

  -- the attributes that are read, from the list that is read
  pub attributes-ok : items_from (length section) (attribute_at section) [] at ≡ Ok read
      → attributes_at section at ≡ Ok read
  unfolding attributes_at
  attributes-ok h = rw h refl

-- ---- declarations

-- the fields of a declaration are read one after the other
abbrev pub DeclarationAt : List ℕ → ℕ → Declaration → ℕ → Type 0
DeclarationAt section at x next = (mid : ℕ) × (last : ℕ) × (list : ℕ)
    × (reading (uleb_at section at) ≡ Ok (x.code, mid))
    × (reading (uleb_at section mid) ≡ Ok (x.tag, last))
    × (reading (u8_at section last) ≡ Ok (if x.children then 1 else 0, list))
    × (attributes_at section list ≡ Ok (x.attributes, next))

-- the conditions on a declaration that depend on the ones before it
pub record FitsAfter (budget : ℕ) (before : List Declaration) (code : ℕ) : Type 0 where
  pub some : code ≢ 0
  pub left : length before < budget
  pub new : list_any (λ other. other.code == code) before ≡ false

module _ (budget : ℕ) (section : List ℕ) (before : List Declaration) (at : ℕ) (x : Declaration)
    (next : ℕ) where
  -- what a declaration is read from, ..
  pub declaration-found : declaration_at budget section before at ≡ Ok (Item x next)
      → DeclarationAt section at x next
  declaration-found h = grind arith

  pub declaration-fits : declaration_at budget section before at ≡ Ok (Item x next)
      → FitsAfter budget before x.code
  declaration-fits h =
      let same = any_map (λ (d : Declaration). d.code) (λ (code : ℕ). code == x.code) before in
      let len = length-map before (λ d. d.code) in
      record { some = grind arith; left = grind (arith, len); new = grind (arith, same) }

  -- .. and the read of it
  pub declaration-again : FitsAfter budget before x.code → DeclarationAt section at x next
      → declaration_at budget section before at ≡ Ok (Item x next)
  declaration-again fits s =
      let same = any_map (λ (d : Declaration). d.code) (λ (code : ℕ). code == x.code) before in
      grind (arith, same, length-map before (λ d. d.code))

pub declaration_at-advances : (budget : ℕ) (section : List ℕ)
    → Advances (length section) (declaration_at budget section)
declaration_at-advances budget section before at x after h =
    grind (arith, uleb-moves section, u8-moves section, attributes_at-moves section)
