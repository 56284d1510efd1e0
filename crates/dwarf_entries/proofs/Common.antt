-- The names from elsewhere that the proofs of this crate cite.
use Rattle.dwarf_bytes.specs as bytes
use Rattle.dwarf_entries.specs as entries
use Rattle.dwarf_units.specs as units
use Rattle.dwarf_walk.specs as walk
pub use Rattle.dwarf_bytes.proofs.Items.EachPlaces.{each-append, each-length, each-place}
pub use Rattle.dwarf_bytes.proofs.Items.{ItemLaws.Lists-within, Turns.None-from-no-Some}
pub use Rattle.dwarf_bytes.proofs.Numbers.Advance.{bind_ok, reading-ok}
pub use Rattle.dwarf_bytes.proofs.Numbers.{LengthLaws.initial_length_at-moves, Moves.fixed_at-moves}
pub use Rattle.dwarf_bytes.proofs.Numbers.Moves.{same-ok, uleb-moves}
pub use Rattle.dwarf_bytes.proofs.Strings.SectionNames.{before-all, string-after-end}
pub use Rattle.dwarf_bytes.proofs.Strings.StringLaws.{text-encoded}
pub use Rattle.dwarf_forms.{proofs.Elements.at-front, specs.Declarations.Declaration}
pub use Rattle.dwarf_forms.specs.Tables.{declarations_of}
pub use Rattle.dwarf_ranges.proofs.ScopeBudget.{Fits, budget-left, covers-fits}
pub use Rattle.dwarf_ranges.specs.{Bases.{item_at, no_bases, optional}, Ranges.AddsRanges}
pub use Rattle.dwarf_ranges.specs.{Ranges.covers_by, declared.bases.{Bases.Bases, Table.Table}}
pub use Rattle.dwarf_ranges.specs.declared.range.Range.{Range}
pub use Rattle.dwarf_units.proofs.{EntryAdvances.node_at-advances, EntryOrder.entries-rise}
pub use Rattle.dwarf_units.proofs.EntryOrder.{entries_again, increasing, list-in}
pub use Rattle.dwarf_units.proofs.TableLaws.{in_section-ok, table_for, table_is}
pub use Rattle.dwarf_units.proofs.UnitLaws.{header_in-places, unit_at-moves}
pub use Rattle.dwarf_walk.proofs.{BitmapLaws.{adds-more, adds-none}, RereadLaws.inside-is}
pub use Rattle.dwarf_walk.proofs.StoredNodes.{names_at-stored, value-stored}
pub use Rattle.std.proofs.Common.{All, Bool, Contains, Err, IfSome, List, None, Ok, Option, Result}
pub use Rattle.std.proofs.Common.{Some, Vec, [], add-one, ap, append-nil, append_assoc, arith, cond}
pub use Rattle.std.proofs.Common.{count_by, drop, drop-cons, eq-eqb, false, filter, flat_map}
pub use Rattle.std.proofs.Common.{get_or, if◌then◌else◌, inl, inr, is_some, length, length-append}
pub use Rattle.std.proofs.Common.{length-take, map, min, nat_le, nat_lt, ok_or, option_map}
pub use Rattle.std.proofs.Common.{option_to_list, refl, rules, slice_get, subst, suc, sum_by, sym}
pub use Rattle.std.proofs.Common.{take, take-add, true, zero, zip, ℕ, ◌&&◌, ◌++◌, ◌+◌, ◌-◌, ◌<◌}
pub use Rattle.std.proofs.Common.{◌==◌, ◌^◌, ◌↔◌, ◌∙◌, ◌∷◌, ◌≡◌, ◌≤◌, ◌⊎◌}
pub use Rattle.std.proofs.{Math.Seq.drop-append_seam, lemmas.Bool.{cases_lt, eqb-true, le-ltb}}
pub use Rattle.std.proofs.lemmas.{Bool.{leb-false, leb-true, lt-ltb, ne_eqb}, Grind.common_steps}
pub use Rattle.std.proofs.lemmas.List.{Concat.flat_map-append, Elements.{All-cons, All-contains}}
pub use Rattle.std.proofs.lemmas.List.Elements.{All-filter, All-map, All-nil, All-weaker}
pub use Rattle.std.proofs.lemmas.List.{Elements.recursion_from_All, Folds.{find-append, find_at}}
pub use Rattle.std.proofs.lemmas.List.{Folds.{fold-map, list_any-append}, Kept.AllPairs-filter}
pub use Rattle.std.proofs.lemmas.List.Sorted.{IsPartitionPoint-from_clause, IsPartitionedBy-leb}
pub use Rattle.std.proofs.lemmas.List.Sums.{count_by_more_yes, position_or_len_is}
pub use Rattle.std.proofs.lemmas.List.Sums.{prefix_len-le-length, prefix_len_passes}
pub use Rattle.std.proofs.lemmas.List.Sums.{prefix_len_stops, sum_by-append, sum_by-cons}
pub use Rattle.std.proofs.lemmas.List.Sums.{sum_by-take-le, sum_by_more, sum_by_push}
pub use Rattle.std.proofs.lemmas.List.{drop-append-le, get_or-drop, get_or-map, get_or_append_left}
pub use Rattle.std.proofs.lemmas.List.{length-drop, length-map, map_push, take-append-drop}
pub use Rattle.std.proofs.lemmas.List.{take-append-le, take-take, take_all, take_more}
pub use Rattle.std.proofs.lemmas.Option.{get_or_from_slice_get, same_Some, slice_get-get_or}
pub use Rattle.std.proofs.lemmas.Option.{slice_get-map, slice_get_past, slice_get_read}
pub use Rattle.std.proofs.lemmas.Option.{slice_get_within, unwrap_or-slice_get}
pub use Rattle.std.{proofs.lemmas.Slice.Zip.{get_or-zip, length-zip}, specs.List.AllPairs}
pub use Rattle.std.specs.List.{Sorted.{IsNonDecreasingBy, IsPartitionPoint}, filter_map, find}
pub use Rattle.std.specs.{List.{list_any, prefix_len}, Option.option_or, Result.IsErrAnd}
pub use Rattle.std.specs.declared.alloc.Global.{Global}
pub use bytes.{Bind.◌>>=◌, Items.{At, Lists, each, items_from, reading, with_offset}}
pub use bytes.Refusals.{Fails, at_item, in_section, memory_fault}
pub use bytes.declared.constants.TheConstants.{DW_AT_LINKAGE_NAME, DW_AT_NAME, DW_FORM_REF_ADDR}
pub use bytes.declared.fault.Cause.{Cause, TheVariants.{OriginDepth, Reference}}
pub use bytes.declared.fault.{LoadFault.LoadFault, Section.{Section, TheVariants.DebugAbbrev}}
pub use bytes.declared.fault.Section.TheVariants.{DebugInfo, DebugLineStr, DebugStr}
pub use bytes.declared.{format.Format.Format, tables.TableKind.TheVariants.StrOffsets}
pub use entries.Names.{EntryNames, Member, first_on, member_at, members_of, name_on, names_of}
pub use entries.{Names.{of_member, references_limit, target_of, text_in, text_of}, Order.AreInOrder}
pub use entries.{Order.{AreNested, AreNumbered, HasDataOf}, Passes.PassedTo}
pub use entries.Private.EntryOffsets.{AreStored, all_offsets, scope_count, stored_unit_of}
pub use entries.Private.Members.{AreFirst, Finds, FindsFirst, IsFirst, IsMember, IsPlaceOf, LeadsTo}
pub use entries.Private.{Members.member_in, NameCache.{IsCacheOf, second_names, slot_at, slot_of}}
pub use entries.Private.{NameCache.target_names, ObjectUnits.{AreUnitsOf, ObjectUnits}}
pub use entries.Private.{ObjectUnits.{units_of_object, units_or_none}, PackedNames.unpacked_names}
pub use entries.Private.{PackedNames.unpacked_text, Passes.{AreParsedTo, IsScopeSite, IsSiteRead}}
pub use entries.Private.Passes.{bases_in, bases_of, first_number, number_of_scopes, scope_facts}
pub use entries.Private.Shared.{AddsFacts, AreConsecutive, IsInList, IsPushed, facts_of}
pub use entries.{Private.Shared.ranges_start, Scopes.{Own, ParsedScope, Scope, ScopeSite, Tree}}
pub use entries.Scopes.{all_scopes, all_sites, call_site, covers_there, items_limit, own, own_of}
pub use entries.Scopes.{parse_scope, root_of, roots_from, scope_at, scope_of, scope_of_site}
pub use entries.Scopes.{scopes_from, scopes_of, sites_in, stmt_list_by_number, stmt_list_of}
pub use entries.{Scopes.wide_index, TreeLaws.{AreContiguous, ArePartsFrom, FillsUnit, IsEntry}}
pub use entries.{TreeLaws.{IsTextOf, section_bytes}, Units.{CompilationUnit, all_bases}}
pub use entries.Units.{all_entries, bases_of_first, unit_of, with_bases}
pub use entries.declared.{calls.{CallSite.CallSite, Calls.Calls}, name_cache.NameCache.NameCache}
pub use entries.declared.origin_chains.{FirstNames.FirstNames, PackedNames.PackedNames}
pub use entries.declared.origin_chains.{UnitAttribute.UnitAttribute, UnitEntry.UnitEntry}
pub use entries.declared.{references.UnitPlace.UnitPlace, scope.{Root.Root, ScopeFacts.ScopeFacts}}
pub use entries.declared.{scope_lists.ScopeLists.ScopeLists, text_offset.TextOffset.TextOffset}
pub use entries.declared.{unit_scopes.ScopeNumbers.ScopeNumbers, units.Units.TheInside.Inside}
pub use units.Entries.{Die, IsBelow, LocatedNode, attribute, below, die_of, node_at}
pub use units.{Rising.RiseWithin, StoredAttributes.stored_attributes, Units.declarations_limit}
pub use units.Units.{header_at, header_in, is_read}
pub use units.declared.attributes.AttributeValue.{AttributeValue}
pub use units.declared.unit_headers.UnitHeader.{UnitHeader}
pub use walk.{EntryBitmap.{AddsOffsets, offsets_of}, NamedEntries.{named_entry_at, used_at}}
pub use walk.{References.{next_of, or_else}, Rereading.{IsReaderOf, scope_entry_at}}
pub use walk.{ScopeEntries.{is_scope, kind_of}, Sections.{Sections, sections_of}}
pub use walk.Stored.{named_entry, root_in, scope_entry, scope_places, stored_entries, stored_of}
pub use walk.{Stored.stored_unit, declared.entry_bitmap.EntryBitmap.EntryBitmap}
pub use walk.declared.{entry_reader.EntryReader.EntryReader, scope_kind.ScopeKind.ScopeKind}
pub use walk.declared.unit_entries.{NamedEntry.NamedEntry, RootEntry.RootEntry}
pub use walk.declared.unit_entries.{ScopeEntry.ScopeEntry, ScopePlace.ScopePlace}
pub use walk.declared.unit_entries.UnitEntries.{UnitEntries}
unfoldable pub use Rattle.dwarf_ranges.specs.Ranges.{covers_of}
unfoldable pub use bytes.{Items.each_from, Numbers.{cstr_at, text_at}}
unfoldable pub use entries.{Names.chain_within, Scopes.tree_of, Units.units_read}
unfoldable pub use units.{Entries.{entries_of, entry_at}, Units.{headers_of, tables_of, unit_at}}
unfoldable pub use units.Units.{units_of}
