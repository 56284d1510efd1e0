use Rattle.dwarf_entries.proofs
use proofs.{List, [], length, ap, arith, length-map, each-length, Scope, ParsedScope, roots_from}
use proofs.{parse_scope, all_sites, scopes-length, all-sites-count}
use Rattle.dwarf_entries.proofs.scopes.Scopes.of_units.Goals as goal

pub roots-requires : goal.roots-requires
roots-requires c =
    let us = c.args.units.now.units in
    let lists = c.in_ok-lists.lists in
    let parsed = c.in_ok-lists.ensures.scopes in
    let made = each-length (parse_scope c.args.units.now.sections us) [] (all_sites us) parsed.0
    parsed.1 in
    let mapped = ap (λ (ss : List Scope). length ss) parsed.2 in
    let size = length-map parsed.0 (λ (j : ParsedScope). j.scope) in
    let stored = scopes-length (roots_from 0 us) lists.wide.items lists.ranges.items 0
    lists.scopes.items in
    rw c.in_ok-lists.ensures.same (omega (arith, all-sites-count us, made, mapped, size, stored))
