use Rattle.dwarf_entries.proofs
use proofs.{inl, sym, ◌∙◌, refl, cache-more, seen, unpacked_names, with-parts, exit}
use Rattle.dwarf_entries.proofs.units.Units.target_names.Goals as goal

pub returns-in-Some-get-clause-names : goal.returns-in-Some-get-clause-names
returns-in-Some-get-clause-names c u is =
    let are = seen c.self.invariant c.self.view_is in
    rw (c.in-Some.ensures u is) (are.cache_is _ _ c.in-Some-get.ensures.some)

pub returns-in_err-next-clause-names : goal.returns-in_err-next-clause-names
returns-in_err-next-clause-names c u is =
    let there = c.in-Some-entry_place.ensures in
    rw (exit _ c.from_residual.ensures.1) (inl (c.in_err-next.ensures.member there.0 there.2))

pub invariant_of-self : goal.invariant_of-self
invariant_of-self c =
    let are = c.self-2.invariant in
    with-parts are refl are.reader_is (λ slot packed is. are.cache_is slot packed
    (sym (c.in_err-put.ensures.err slot) ∙ is))

pub invariant_of-self-2 : goal.invariant_of-self-2
invariant_of-self-2 c =
    let same = c.self-2.view_is ∙ (c.in_ok-names.ensures.same ∙ c.in_ok-next.ensures.same) in
    let are = seen c.self-2.invariant same in
    let there = c.in-Some-entry_place.ensures in
    let at = c.in_ok-next.ensures.member there.0 there.2 in
    with-parts c.self-2.invariant same are.reader_is (cache-more c.args.self.now.sections
    c.args.self.now.units
    c.self-2.inside.cache c.put.new.self c.in-Some.offset (unpacked_names c.in_ok-names.names)
    are.cache_is c.in_ok-put.ensures.ok
    (rw there.1 ((rw c.in_ok-next.ensures.same at c.in_ok-names.ensures.names) there.0 at)))
