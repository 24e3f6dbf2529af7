-- What the proofs of this crate cite from elsewhere, passed on.
pub use Rattle.least.proofs.NextLemmas.{same_test}
pub use Rattle.least.proofs.PaddedLemmas.{padded_at, padded_length, padded_long, padded_push}
pub use Rattle.least.specs.Padded.{padded}
pub use Rattle.ob_arena.proofs.Phasing.{map-replicate}
pub use Rattle.ob_arena.specs.Slots.{is_vacant_at, Slots, least_vacant, vacant_count}
pub use Rattle.ob_body.specs.Body.{owner_of, is_signaled, after_set, after_reset, after_post, after_unlock, after_arm, after_disarm}
pub use Rattle.ob_body.specs.Mutex.{is_owner}
pub use Rattle.ob_body.specs.declared.body.Body.{Body}
pub use Rattle.ob_codec.proofs.AtPlace.{at_place}
pub use Rattle.ob_codec.proofs.SavingLaws.{list_behind, two_behind, five_behind, six_behind}
pub use Rattle.ob_codec.specs.Codecs.{where_codec, as_codec, both_codec, flag_codec, items_again, items_take, list_codec, option_codec, some_codec, u32_codec, u64_codec}
pub use Rattle.ob_codec.specs.Laws.{IsCodec, Takes}
pub use Rattle.ob_codec.specs.Reading.{◌>>=◌, items_at, Fails, Read, as_at, given_at, number_at, both_at, some_at, has_at}
pub use Rattle.ob_codec.specs.Spelling.{AreBytes, OptionFits, FewFit, option}
pub use Rattle.ob_codec.specs.Steps.{bind_ok, ok_is, guard_passed}
pub use Rattle.ob_codec.specs.declared.fault.TextFault.TheVariants.{Value}
pub use Rattle.ob_name.specs.Listing.{Rows, find_name, AreDistinct, same_name, without_name}
pub use Rattle.ob_name.specs.Names.{ObjectName}
pub use Rattle.ob_name.specs.Order.{Row}
pub use Rattle.ob_name.specs.Same.{same_name_equiv, same_name-Decides}
pub use Rattle.ob_rights.specs.declared.handle_flags.HandleFlags.{HandleFlags}
pub use Rattle.ob_store.specs.Agreement.{IsAgreed, ObjectsInvariant, made_in, AreBorn, Agrees, made_by, Listed, IsListed}
pub use Rattle.ob_store.specs.Closing.{is_open}
pub use Rattle.ob_store.specs.Consistent.{IsConsistent}
pub use Rattle.ob_store.specs.Counting.{counting_all, counting_in, is_its, uncounted, may_count, counting}
pub use Rattle.ob_store.specs.Directory.{rows_of, row_of}
pub use Rattle.ob_store.specs.Ends.{slot_left_by, thread_ended, threads_ended, after_thread_end, exited, process_ended}
pub use Rattle.ob_store.specs.Kept.{StoreInvariant, IsCounted, IsListing, form_in, AreFormed, AreOfLive, Yields, IsNamed, IsThere, id_in, IsSound, IsPopulated, IsQuiet, unset}
pub use Rattle.ob_store.specs.Objects.{ObjectsState, ObjectAttributes, places_in, vacancy, Object, with_keeper, without_header, opened, with_blocks_of, Tag, objects_in, header_body, Places, with_handle, name_in, without_handle, KeptRest, kept_rest, places_of, object_of, vacant_places, no_tag, tag_of, tags_in, object_in, header_blocks, rest_of, seen_in, object_at, header_handles, header_handle_left, header_block_left, with_header_of, with_block, is_last_handle, no_label, changed_at, with_header, with_handles_of}
pub use Rattle.ob_store.specs.Parts.{PartsState, state_of, whole_of, parts_of}
pub use Rattle.ob_store.specs.SavedBirths.{Births, births_from}
pub use Rattle.ob_store.specs.SavedNames.{names_in, named_from, slot_row, with_row}
pub use Rattle.ob_store.specs.SavedObjects.{with_slots, object_saved, slot_saved, slots_saved, objects_at, objects_text, whole_at, begun_over, are_bodied, is_bodied, saved_of}
pub use Rattle.ob_store.specs.SavedSlots.{SlotFits, ends_used, fresh_slot, used, body_from, keeper_slot, objects_from, places_from, slots_at, slot_at, slot_text, filled, object_from, with_fresh, body_in, is_retired, rows_at, ObjectFits, object_text, rows_text, slots_from, begun_with, count_at, with_saved, any_slot_at, content_at, object_stands, slot_stands, AnySlotFits, is_fresh, with_used}
pub use Rattle.ob_store.specs.SavedWaits.{with_blocks_at, with_blocks, owner_stands, wait_stands, all_stand, may_wait_for, object_blocks, owners_stand, wait_of, waits_stand}
pub use Rattle.ob_store.specs.Signaled.{SignaledState, KeepsEnough}
pub use Rattle.ob_store.specs.State.{State, generation_of, settled, by_slot, Whole, objects_of, with_body, shape_of, last_wait, hold_of}
pub use Rattle.ob_store.specs.Stored.{IsOpenByName, MatchesState, hold_in}
pub use Rattle.ob_store.specs.Ticks.{slot_is_due, timed_out}
pub use Rattle.ob_store.specs.Timers.{header_due}
pub use Rattle.ob_store.specs.UnderWay.{IsEnding, tables_left, with_left, AreLeft, IsUnderWay}
pub use Rattle.ob_store.specs.Waiting.{with_wait}
pub use Rattle.ob_store.specs.declared.label.Label.{Label}
pub use Rattle.ob_store.specs.declared.object_header.ObjectHeader.{ObjectHeader}
pub use Rattle.ob_store.specs.declared.saved_slot.SavedObject.{SavedObject}
pub use Rattle.ob_store.specs.declared.saved_slot.SavedSlot.{SavedSlot}
pub use Rattle.ob_tables.proofs.Counting.{handles_among-with_table, one_id, some_within, same_id-same, found_counts, handles_among-with_entry, handles_among-with_flags, handles_among-without_entry, handles_in-among, handles_in-inherited, one_of}
pub use Rattle.ob_tables.proofs.GivenLaws.{IsFree, any_put, get_or-put}
pub use Rattle.ob_tables.proofs.Inheriting.{none_of}
pub use Rattle.ob_tables.proofs.SlotCounts.{slot_handles-few, one_in-same}
pub use Rattle.ob_tables.specs.Counts.{slot_handles, slot_handles_in, handles_in, handles_among, names, names_slot}
pub use Rattle.ob_tables.specs.Processes.{IsLive, ProcessesState, ProcessesKept, is_of}
pub use Rattle.ob_tables.specs.SavedLimits.{limits_at, limits_text}
pub use Rattle.ob_tables.specs.SavedProcesses.{processes_text, AreWithin, ListsFit, ProcessesFit, are_numbers, is_of_live, numbers_at, numbers_text, processes_at, are_populated, is_populated}
pub use Rattle.ob_tables.specs.Spelling.{TablesFit, tables_at, tables_text}
pub use Rattle.ob_tables.specs.Table.{entry_at}
pub use Rattle.ob_tables.specs.Tables.{with_entry_of, HandleTables, IsBounded, table_of, with_table, with_flags_of, without_entry_of, new_table, put}
pub use Rattle.ob_tables.specs.declared.entry.Entry.{Entry}
pub use Rattle.ob_tables.specs.declared.limits.Limits.{Limits}
pub use Rattle.ob_waits.proofs.Settled.{settled_less}
pub use Rattle.ob_waits.specs.CountedBodies.{CountedBodies, slot_acquired, without_blocks, without_block}
pub use Rattle.ob_waits.specs.Deadlines.{is_overdue}
pub use Rattle.ob_waits.specs.Ends.{ended}
pub use Rattle.ob_waits.specs.Form.{form_of, slot_owner, slot_due}
pub use Rattle.ob_waits.specs.Rules.{thread_of, HasBodies, IsSettled, HasRoom, WaitHasRoom, WaitsInvariant}
pub use Rattle.ob_waits.specs.Spelling.{WaitsFit, are_below, are_within, is_within, waits_at, waits_text}
pub use Rattle.ob_waits.specs.Waits.{Scene, slot_blocks, new_wait, WaitList, nowhere, ids_of, blocks_among, blocks_in, is_ready}
pub use Rattle.ob_waits.specs.declared.wait.Mode.{Mode}
pub use Rattle.ob_waits.specs.declared.wait.Mode.TheVariants.{Any}
pub use Rattle.ob_waits.specs.declared.wait.State.TheVariants.{Pending}
pub use Rattle.ob_waits.specs.declared.wait.Wait.{Wait}
pub use Rattle.pin_core.specs.Holds.{same_id}
pub use Rattle.pin_core.specs.Spelling.{descr_at, descr_text}
pub use Rattle.pin_core.specs.Worlds.{opening_slot, slot_of}
pub use Rattle.pin_core.specs.declared.descr.Descr.{Descr}
pub use Rattle.pin_core.specs.declared.id.Id.{Id}
pub use Rattle.pin_core.specs.declared.shape.Shape.{Shape}
pub use Rattle.pin_core.specs.declared.world.Slot.{Slot}
pub use Rattle.pin_words.specs.Keepers.{KeeperState, stored, published, closed, IsFreshWith, Reclaims}
pub use Rattle.pin_words.specs.Views.{id_of}
pub use Rattle.std.proofs.Common.{◌≡◌, ℕ, ◌+◌, ◌<◌, List, [], ◌∷◌, ◌++◌, length, Some, None, refl, subst, arith, get_or, map, true, ◌≢◌, Option, set, Bool, false, ◌≤◌, ◌⊎◌, ap, ◌∙◌, cond, zero, suc, replicate, sym, eqb, not, ltb, ◌-◌, Ok, ◌&&◌, inl, inr, ◌*◌, take, drop, Err, leb, append_assoc, rules, eq-eqb, ne_eqb, length-append, ◌^◌, slice_index_or, ◌||◌, vec_capacity}
pub use Rattle.std.proofs.Math.Seq.{map-set_same}
pub use Rattle.std.proofs.lemmas.Bool.{and_parts, cases_eq, cases_lt, le-leb, and_from, leb-true, lt-ltb, ltb-true}
pub use Rattle.std.proofs.lemmas.Bool.Decides.{nat_tests}
pub use Rattle.std.proofs.lemmas.List.{length-set, get_or-map, get_or_past, get_or-replicate, length-replicate, get_or-set_same, get_or-set_other, ext_get_or, length-map, set-get_or, append-nil, map-append, map-set, get_or_default, drop_all, length-drop, get_or-drop, replicate_more, set_past, flat_map_more}
pub use Rattle.std.proofs.lemmas.List.Elements.{All-from_get_or, All-from_recursion, All-tail, Contains-get_or}
pub use Rattle.std.proofs.lemmas.List.FromFn.{get_or-map-range_with_len, length-map-range_with_len, map-range_with_len_more, get_or-range_with_len, length-range_with_len}
pub use Rattle.std.proofs.lemmas.List.Quantifiers.{position-Some}
pub use Rattle.std.proofs.lemmas.List.Sums.{sum_by-cons, get_or-le-sum_by, AllPass-from_list_all, sum_by-take-drop, sum_by_more, sum_by_more_le, sum_by-set, sum_by-le, list_all-from_AllPass}
pub use Rattle.std.proofs.lemmas.Map.Keys.{IsDistinct-head, IsDistinct-tail, IsDistinct-push}
pub use Rattle.std.proofs.lemmas.Option.{cond_some, same_Some}
pub use Rattle.std.proofs.lemmas.Result.{on_ok_weaker, err_from_is_err_and}
pub use Rattle.std.specs.BTreeMap.{insert_entry, is_at}
pub use Rattle.std.specs.Cmp.{unsigned_tied, both_ways}
pub use Rattle.std.specs.Int.{w64, to_le_bytes, w32}
pub use Rattle.std.specs.List.{AllByRecursion, list_all, range_with_len, Contains, flat_map, cons_option, filter_map, All, filter, list_any}
pub use Rattle.std.specs.Map.{lookup, keys_of, values_of}
pub use Rattle.std.specs.Ordering.{nat_cmp}
pub use Rattle.std.specs.Prelude.{is_some, sum_by, IfSome, IsSome, count_by, is_none, ◌↔◌}
pub use Rattle.std.specs.declared.cmp.Ordering.TheVariants.{Less, Greater}
