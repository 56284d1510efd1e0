-- The names from elsewhere that the proofs of this crate cite.
pub use Rattle.abbreviation_memo.specs.Lists.{IsListAt, StartsWith, list_at, rest_attributes}
pub use Rattle.dwarf_bytes.proofs.{Items.Turns.{None-from-no-Some, SoFar}, Numbers.Advance.MovesOn}
pub use Rattle.dwarf_bytes.{proofs.Numbers.Advance.after-bind, specs.{Bind.◌>>=◌, Contents.Content}}
pub use Rattle.dwarf_bytes.specs.{Contents.Signed, Forms.form_of, Items.{Advances, Item, Lists}}
pub use Rattle.dwarf_bytes.specs.{Items.reading, Numbers.uleb_at, Refusals.in_section}
pub use Rattle.dwarf_bytes.specs.declared.{fault.{Cause.Cause, ReadFault.ReadFault}, form.Form.Form}
pub use Rattle.dwarf_bytes.specs.declared.form.Form.TheVariants.{Direct, ImplicitConst, Indirect}
pub use Rattle.dwarf_bytes.specs.declared.{form.ValueLayout.ValueLayout, format.Format.Format}
pub use Rattle.dwarf_forms.{proofs.{Codes.got, Elements.at-last}, specs.Declarations.Declaration}
pub use Rattle.dwarf_forms.specs.Values.{Value}
pub use Rattle.dwarf_forms.specs.declared.attribute.AttributeSpecification.{AttributeSpecification}
pub use Rattle.dwarf_forms.specs.declared.values.ValueFault.{ValueFault}
pub use Rattle.dwarf_units.specs.AbbreviationTables.{Table, table_size, unshared_count}
pub use Rattle.dwarf_units.specs.Attributes.{accepts, is_negative, is_negative_count, is_used}
pub use Rattle.dwarf_units.specs.{Attributes.number_of, Entries.{Die, Entry, LocatedNode, Node}}
pub use Rattle.dwarf_units.specs.Entries.{Null, attribute_at, depth_after, die_of, is_root, node_at}
pub use Rattle.dwarf_units.specs.{Entries.{reading_value, value_of}, NodeShapes.shape_at}
pub use Rattle.dwarf_units.specs.Private.Declarations.{AbbreviationDeclaration, IsStored}
pub use Rattle.dwarf_units.specs.Private.Declarations.{full_declaration, full_declarations}
pub use Rattle.dwarf_units.specs.Private.FixedSizes.{attribute_in, attributes_in, end_of}
pub use Rattle.dwarf_units.specs.Private.FixedSizes.{layout_len, number_in, used_position, value_in}
pub use Rattle.dwarf_units.specs.Private.{FixedSizes.{value_len, width_in}, Links.IsLink}
pub use Rattle.dwarf_units.specs.Private.{Names.{named_attribute, slot_of, used_name}, Runs.Run}
pub use Rattle.dwarf_units.specs.Private.Runs.{Stretch, all_at, last_at, named_by, run_at}
pub use Rattle.dwarf_units.specs.Private.Runs.{run_before, runs_at, runs_of, stretch_at, then_read}
pub use Rattle.dwarf_units.specs.Private.{Tables.AreCached, Used.used_after}
pub use Rattle.dwarf_units.specs.StoredAttributes.{stored_attributes, stored_attributes_at}
pub use Rattle.dwarf_units.specs.{StoredAttributes.used_attributes_at, Tables.CachedTables}
pub use Rattle.dwarf_units.specs.Tables.{IsCachedOrTooLarge, IsParsedFrom, with_table}
pub use Rattle.dwarf_units.specs.{Units.{declarations_limit, header_at, is_read}, Used.Used}
pub use Rattle.dwarf_units.specs.Used.{name_of, used_among, value_named}
pub use Rattle.dwarf_units.specs.declared.attribute_run.LastAttribute.TheVariants.{Checked}
pub use Rattle.dwarf_units.specs.declared.attribute_run.LastAttribute.TheVariants.{Unchecked}
pub use Rattle.dwarf_units.specs.declared.attributes.Attribute.{Attribute}
pub use Rattle.dwarf_units.specs.declared.attributes.AttributeValue.{AttributeValue}
pub use Rattle.dwarf_units.specs.declared.unit_headers.UnitHeader.{UnitHeader}
pub use Rattle.dwarf_units.specs.declared.used_name.UsedName.{UsedName}
pub use Rattle.dwarf_units.specs.declared.used_position.UsedPosition.{UsedPosition}
pub use Rattle.std.proofs.Common.{Bool, Err, IfSome, List, None, Ok, Option, Result, Some, []}
pub use Rattle.std.proofs.Common.{add-one, ap, append-nil, append_assoc, arith, cond, drop, false}
pub use Rattle.std.proofs.Common.{filter, find, get_or, inl, inr, length, length-append}
pub use Rattle.std.proofs.Common.{length-take, length-take-le, map, nat_le, option_copied}
pub use Rattle.std.proofs.Common.{option_map, refl, slice_get, suc, sum_by, sym, take, take_all}
pub use Rattle.std.proofs.Common.{true, zero, ℕ, ℤ, ◌*◌, ◌++◌, ◌+◌, ◌-◌, ◌<◌, ◌==◌, ◌∙◌, ◌∷◌, ◌≡◌}
pub use Rattle.std.proofs.{Common.{◌≤◌, ◌⊎◌}, Math.Seq.{take-append_seam, take-length}}
pub use Rattle.std.proofs.lemmas.{Bool.{cases_lt, le-ltb, ne_eqb}, Grind.common_steps}
pub use Rattle.std.proofs.lemmas.List.{Elements.All-push, Sums.{sum_by-append, sum_by_push}}
pub use Rattle.std.proofs.lemmas.List.{drop_all, drop_more, get_or-take}
pub use Rattle.std.proofs.lemmas.Option.{get_or_from_slice_get, option_and_then_some, same_Some}
pub use Rattle.std.proofs.lemmas.{Option.slice_get_within, Result.err_from_is_err_and}
pub use Rattle.std.specs.{List.{All, filter_map, list_any}, Option.{option_map_or, option_to_list}}
unfoldable pub use Rattle.dwarf_bytes.specs.{Contents.content_at, Numbers.{block_at, fixed_at}}
unfoldable pub use Rattle.dwarf_forms.specs.Values.{direct_at, value_at}
unfoldable pub use Rattle.dwarf_units.specs.Entries.{attributes_at, entries_of}
unfoldable pub use Rattle.dwarf_units.specs.Private.FixedSizes.{fixed_len, used_value}
unfoldable pub use Rattle.dwarf_units.specs.Private.Runs.{runs_from, unchecked_layout}
unfoldable pub use Rattle.dwarf_units.specs.Private.Used.{with_used}
