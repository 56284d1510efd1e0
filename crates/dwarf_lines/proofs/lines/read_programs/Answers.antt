use Rattle.std.proofs.Common.{◌≡◌, ◌<◌, ◌≤◌, [], ◌∷◌, ◌++◌, length, map, vec_len, sym, ◌∙◌, subst}
use Rattle.std.proofs.Common.{arith, rules, ℕ, Ok}
use Rattle.std.proofs.lemmas.List.{length-map}
use Rattle.dwarf_bytes.specs.Refusals.{Fails}
use Rattle.dwarf_lines.specs.Sections.{LineSections}
use Rattle.dwarf_lines.specs.Programs.{program_at_place}
use Rattle.dwarf_lines.specs.Private.Readers.{sections_of}
use Rattle.dwarf_lines.specs.Private.Stored.{tables_in}
use Rattle.dwarf_lines.proofs.SectionPrograms.ProgramTurns.{goes_on, refuses, gives, is-done}
use Rattle.dwarf_lines.proofs.SectionPrograms.ProgramTurns.{program_at_place-past}
use Rattle.dwarf_lines.proofs.SectionPrograms.Offsets.{tables-rise}
use Rattle.dwarf_lines.proofs.lines.read_programs.Goals as goal

pub loop-place-smaller : goal.loop-place-smaller
loop-place-smaller c =
    let s : LineSections = sections_of c.args.sections in
    let e = c.in-Ok.ensures in
    let moved = program_at_place-past s _ c.loop-place.place e.0 e.1 in
    let past : c.in-Ok.past ≡ e.0.past = e.2 in
    let lt : c.loop-place.place < length c.args.sections.line.now = omega arith in
    omega (arith, moved.0, moved.1)

pub loop-place-preserved : goal.loop-place-preserved
loop-place-preserved c =
    let s : LineSections = sections_of c.args.sections in
    let e = c.in-Ok.ensures in
    let count : vec_len c.loop-place.programs ≡ length c.loop-place.programs.items = search rules in
    let number = count ∙ sym (length-map c.loop-place.programs.items tables_in) in
    let lt : c.loop-place.place < length c.args.sections.line.now = omega arith in
    let found = subst (λ (n : ℕ). program_at_place s n c.loop-place.place ≡ Ok e.0) number e.1 in (
      c.loop-place.invariant.0 ++ e.0 ∷ [],
      rw (e.2, e.3, e.4) (goes_on s c.loop-place.invariant.0 c.loop-place.place
          c.loop-place.rows.items (map tables_in c.loop-place.programs.items)
          c.loop-place.invariant.1
          e.0 lt found),
    )

pub returns-in-Err : goal.returns-in-Err
returns-in-Err c =
    let s : LineSections = sections_of c.args.sections in
    let count : vec_len c.loop-place.programs ≡ length c.loop-place.programs.items = search rules in
    let number = count ∙ sym (length-map c.loop-place.programs.items tables_in) in
    let lt : c.loop-place.place < length c.args.sections.line.now = omega arith in
    let fails = subst (λ (n : ℕ). Fails c.in-Err.cause (program_at_place s n c.loop-place.place))
    number c.in-Err.ensures in
    rw c.at_item.ensures (refuses s c.loop-place.invariant.0 c.loop-place.place
    c.loop-place.rows.items
    (map tables_in c.loop-place.programs.items) c.loop-place.invariant.1 c.in-Err.cause lt
    fails)

pub returns : goal.returns
returns c =
    let s : LineSections = sections_of c.args.sections in
    let le : length c.args.sections.line.now ≤ c.loop-place.place = omega arith in
    gives s c.loop-place.invariant.0 c.loop-place.place c.loop-place.rows.items
    (map tables_in c.loop-place.programs.items) c.loop-place.invariant.1 le

pub invariant_of-result : goal.invariant_of-result
invariant_of-result c =
    let s : LineSections = sections_of c.args.sections in
    let le : length c.args.sections.line.now ≤ c.loop-place.place = omega arith in
    let reads = c.loop-place.invariant.1 in
    tables-rise s c.loop-place.invariant.0 0 c.loop-place.programs.items c.loop-place.place
    (is-done s c.loop-place.invariant.0 c.loop-place.place c.loop-place.rows.items
    (map tables_in c.loop-place.programs.items) reads le) reads.tables_are
