use Rattle.std.proofs.Common.{◌≡◌, Ok, refl}
use Rattle.abbreviation_memo.specs.Lists.{list_at}
use Rattle.dwarf_forms.specs.Tables.{attributes_at}
use Rattle.abbreviation_memo.proofs.list_end.read_specifications.Goals as goal

-- The list with its memoized rest.
read : (c : goal.After-place-after-2) → attributes_at c.args.lists.now c.args.place
    ≡ Ok (list_at c.args.lists.now c.args.place, c.skip.new.cursor.place)
read c =
    let starts = rw (c.in-Some.is, c.in_ok-seek.ensures.ok, c.new-cursor.ensures, c.section.ensures)
    at c.in_ok-rest.ensures.reads in
    let skip = rw (c.in_ok-memoize.ensures, c.deref.ensures.value) at c.in_ok-skip.ensures in
    let whole = starts (list_at c.args.lists.now c.first_attributes.new.cursor.place)
    c.skip.new.cursor.place skip.list skip.apart in
    rw whole refl

pub returns-clause-reads : goal.returns-clause-reads
returns-clause-reads c = rw c.place-after-2.ensures.place (read c)

pub returns-clause-starts : goal.returns-clause-starts
returns-clause-starts c =
    rw (c.in-Some.is, c.in_ok-seek.ensures.ok, c.new-cursor.ensures, c.section.ensures)
    at c.in_ok-rest.ensures.valid (c.skip.new.cursor.place, read c)
