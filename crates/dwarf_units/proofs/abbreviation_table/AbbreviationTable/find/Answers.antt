use Rattle.dwarf_units.proofs
use proofs.{AbbreviationDeclaration, All, IfSome, IsStored, List, None, Option, Some, all-at, arith}
use proofs.{find, find-map, full_declaration, full_declarations, got, map, option_copied}
use proofs.{option_map, refl, slice_get, sym, ℕ, ◌==◌, ◌∙◌, ◌≡◌, Table}
use Rattle.dwarf_forms.proofs.{Codes.find-place, Elements.position_map}
use Rattle.dwarf_units.specs.Private.Declarations.{IsDeclaration}
use Rattle.std.proofs.Common.{Bor, option_and_then, position}
use Rattle.dwarf_units.proofs.abbreviation_table.AbbreviationTable.find.Goals as goal

-- The declaration of a code is found among those with all attributes.
found-full : (section : List ℕ) (code : ℕ) (ds : List AbbreviationDeclaration)
    → find (λ d. d.code == code) (full_declarations section ds)
    ≡ option_map (full_declaration section) (find (λ d. d.head.code == code) ds)
found-full section code ds = find-map (full_declaration section) (λ d. d.head.code == code)
    (λ d. d.code == code) (λ d. refl) ds

-- The declaration of a code is at the position of the code.
at-place : (code : ℕ) (ds : List AbbreviationDeclaration) (codes : List ℕ) (place : Option ℕ)
    → codes ≡ map (λ d. d.head.code) ds → position (λ other. other == code) codes ≡ place
    → find (λ d. d.head.code == code) ds ≡ option_and_then (λ i. slice_get ds i) place
at-place code ds codes place same is = find-place (λ d. d.head.code == code) ds place
    (sym (position_map (λ d. d.head.code) (λ other. other == code) ds) ∙ rw same at is)

declared : (table : Table) (ds : List AbbreviationDeclaration) (code place : ℕ)
    (found : Option (Bor AbbreviationDeclaration))
    → table.declarations ≡ full_declarations table.section ds
    → find (λ d. d.head.code == code) ds ≡ slice_get ds place
    → All (IsStored table.section table.format) ds → option_copied found ≡ slice_get ds place
    → IfSome found (λ d. IsDeclaration table code d.now)
declared table ds code place None same is stored there = tt
declared table ds code place (Some d) same is stored there = record {
  declared = rw (same, found-full table.section code ds, is, ← there) refl;
  stored = all-at (IsStored table.section table.format) ds place d.now stored (sym there);
}

pub returns-in_err-position-clause-none : goal.returns-in_err-position-clause-none
returns-in_err-position-clause-none c =
    let items = c.self.inside.declarations.items in
    let none = at-place c.args.code items c.self.inside.codes None c.self.invariant.1
    (sym c.in_err-position.ensures) in
    rw (← c.self.view_is)
    (grind (arith, none, found-full c.self.inside.section.now c.args.code items))

pub returns-clause-some : goal.returns-clause-some
returns-clause-some c =
    let items = c.self.inside.declarations.items in
    let place = at-place c.args.code items c.self.inside.codes (Some c.in_ok-position.field-0)
    c.self.invariant.1 (sym c.in_ok-position.ensures) in
    rw (← c.self.view_is) (declared _ items c.args.code c.in_ok-position.field-0 c.get.result refl
    place c.self.invariant.0
    (rw c.deref.ensures.value at (got c.deref.result.now c.in_ok-position.field-0 c.get.result
    c.get.ensures.lookup.0 c.get.ensures.lookup.1)))
