use Rattle.dwarf_bytes.specs.Refusals.{in_section}
use Rattle.dwarf_forms.proofs.{Loops.ItemsSoFar, TableTurns.{turn-item, turn_end}}
use Rattle.dwarf_forms.specs.{Declarations.Declaration, Tables.{declaration_at, declarations_of}}
use Rattle.dwarf_units.proofs
use proofs.{AbbreviationDeclaration, All-push, IsStored, Ok, [], arith, count-more, first-unshared}
use proofs.{full_declaration, full_declarations, length, length-append, refl, sym, ◌++◌, ◌<◌, ◌∙◌}
use proofs.{◌∷◌, ◌≡◌, ◌≤◌}
use Rattle.std.proofs.lemmas.{List.map-append, Simd.map-map}
use Rattle.dwarf_units.proofs.abbreviation_table.AbbreviationTable.parse.Goals as goal
use Rattle.dwarf_bytes.specs.declared.fault.Section.TheVariants as sections

abbrev next : goal.In_ok-push-2 → AbbreviationDeclaration
next c = record {
  head = c.in-Some.head;
  attributes = c.place-attributes.result;
  runs = c.in_ok-runs.runs;
  rest = c.in_ok-list.list.rest;
}

-- An iteration that reads a declaration.
turn : (c : goal.In_ok-push-2) → ItemsSoFar (declaration_at c.args.budget) c.args.offset
    c.args.linked.now
    (full_declarations c.args.linked.now (c.loop-first.declarations.items ++ next c ∷ []))
    c.seek-in-Some.new.self
    × (c.loop-first.cursor.place < c.seek-in-Some.new.self.place)
    × (c.seek-in-Some.new.self.place ≤ length c.args.linked.now)
turn c =
    let full = full_declaration c.args.linked.now in
    let items = c.loop-first.declarations.items in
    let inv = c.loop-first.invariant in
    let head = rw c.in-Some.is at c.in_ok-head.ensures.reads in
    turn-item c.args.budget inv.so_far _ c.seek-in-Some.new.self (
      full (next c),
      rw (
        c.in_ok-seek-2.ensures.ok,
        map-map (λ (d : Declaration). d.code) full items,
        ← inv.codes,
        head.0,
        inv.so_far.bytes_are,
        ← c.place-attributes.ensures.place,
        rw inv.section at c.in_ok-list.ensures.reads,
      ) refl,
      map-append full items (next c ∷ []),
      rw c.in_ok-seek-2.ensures.ok head.1,
    )

pub loop-first-smaller : goal.loop-first-smaller
loop-first-smaller c =
    let read = turn c in
    rw (read.0.bytes_are, c.loop-first.invariant.so_far.bytes_are)
    (omega (arith, read.1, read.2))

pub loop-first-preserved : goal.loop-first-preserved
loop-first-preserved c =
    let section = c.args.linked.now in
    let items = c.loop-first.declarations.items in
    let inv = c.loop-first.invariant in
    let starts = rw inv.section at c.in_ok-list.ensures.starts in
    let all = first-unshared section c.place-attributes.result _ _ starts in
    let len = c.len.ensures ∙ c.read_specifications.new.first.ok.0 in
    rw c.in_ok-push-2.ensures.items (record {
      section = c.in_ok-list.ensures.section ∙ inv.section;
      so_far = (turn c).0;
      stored = All-push (IsStored section c.args.format) items (next c) inv.stored (record {
        first = c.read_specifications.new.first.items;
        starts = starts;
        runs = rw c.deref.ensures.value at c.in_ok-runs.ensures;
      });
      codes = rw (c.in_ok-push.ensures.ok, inv.codes)
          (sym (map-append (λ (d : AbbreviationDeclaration). d.head.code) items (next c ∷ [])));
      count = grind (arith, inv.count, len, all, count-more section items (next c));
      small = omega (arith, inv.small, len, all, length-append items (next c ∷ []));
    })

-- The end of the table.
end : (c : goal.After-drop-first-2) → (in_section sections.DebugAbbrev
    (declarations_of c.args.budget c.args.linked.now c.args.offset)
    ≡ Ok (full_declarations c.args.linked.now c.loop-first.declarations.items))
    × (length (full_declarations c.args.linked.now c.loop-first.declarations.items)
    ≤ c.args.budget)
end c =
    let full = full_declaration c.args.linked.now in
    let inv = c.loop-first.invariant in
    let head = rw c.in_default.is at c.in_ok-head.ensures.reads in
    let same = map-map (λ (d : Declaration). d.code) full c.loop-first.declarations.items in
    turn_end c.args.budget inv.so_far _ c.next.new.cursor
    (rw (same, ← inv.codes, head.0) refl, refl, head.1)

pub returns-clause-table : goal.returns-clause-table
returns-clause-table c = rw (c.section-section.ensures, c.shrink_to_fit.ensures.items) (end c).0

pub returns-clause-few : goal.returns-clause-few
returns-clause-few c = rw (c.section-section.ensures, c.shrink_to_fit.ensures.items) (end c).1
