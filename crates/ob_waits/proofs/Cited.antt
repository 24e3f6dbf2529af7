-- What the proofs of this crate cite from elsewhere, passed on.
pub use Rattle.least.specs.From.{IsAtMost, IsLeastFrom}
pub use Rattle.ob_body.specs.declared.body.Body.{Body}
pub use Rattle.ob_codec.proofs.AtPlace.{at_place}
pub use Rattle.ob_codec.specs.Reading.{◌>>=◌, Fails, Gives, Read}
pub use Rattle.ob_codec.specs.Sparse.{fits_from, spread, spread_from, SparseFits, entries_from}
pub use Rattle.ob_codec.specs.declared.fault.TextFault.{TextFault}
pub use Rattle.ob_codec.specs.declared.fault.TextFault.TheVariants.{Value}
pub use Rattle.ob_waits.specs.Answers.{is_answered, AnsweredNumbers, IsAnswered, AreToldBut, AreTold, ThinsAnswered}
pub use Rattle.ob_waits.specs.ByThread.{AreByThread, IsOfThread, answered_at, found, number_at, wait_of_thread, wait_at, home, thread_or, thread_in, IsPlaced, AreApart, IsSpread, thread_at}
pub use Rattle.ob_waits.specs.CountedBodies.{CountedBodies, slot_acquired, without_block, without_blocks, bodies_left, blocks_left, slot_signaled, slot_room}
pub use Rattle.ob_waits.specs.Deadlines.{AreListed, AreTimely, deadline_of, is_overdue, timed_out}
pub use Rattle.ob_waits.specs.Ends.{HasBlocks, all_blocks_left, plain_effect, plain_effect_of, plain_effect_at, settled_plainly, settled_plainly_within, slot_ended, body_ended, ended, with_ends}
pub use Rattle.ob_waits.specs.Form.{IsAfter, slot_form, slot_owner, HasWait}
pub use Rattle.ob_waits.specs.Listed.{listed, IsSparse}
pub use Rattle.ob_waits.specs.PendingIndex.{PendingIndex, IsRight, HasPlace, IsTracked, AreIndexed, ThinsIndex}
pub use Rattle.ob_waits.specs.RisingNumbers.{IsOrdered, numbers_of, AreOrdered, KeepsPending, KeepsEach, Thins, ThinsEach, IsNext, IsNextOf, ends_with, has_pending}
pub use Rattle.ob_waits.specs.Rows.{built, rows_within, tested, come, may_come, with_row, row_of}
pub use Rattle.ob_waits.specs.Rules.{thread_of, IsWaitable, WaitWaitable, Within, IsRising, IsSettled, IsReadyAt, WaitsInvariant, HasBodies, WaitHasRoom, WaitsHaveRoom, Fits, IsReadyBy, Covers, IsOnlyIn, IsSpent, HasRoom}
pub use Rattle.ob_waits.specs.Spelling.{are_within, numbered_at, numbered_of, numbered_parts, is_within, row_at, waits_at, with_rest, can_be, may_stand, one_each, may_list, names_twice, RowFits, WaitFits, row_text, WaitsFit}
pub use Rattle.ob_waits.specs.Waits.{new_wait, nowhere, is_code, is_pending, names_slot, number_of, is_ready, first_signaled, blocks_in, ids_of, answered, slot_places, slot_blocks, blocks_among, Scene, effect, settled, numbered_ids, thread_ids, is_waits_of, unless_of, with_acquired, with_all_acquired, bodies_after, effect_of, effect_at, is_abandoned, list_ready, state_ready, first_ready, code_of, state_ids, settled_within, answered_wait, passed, has_slot, is_signaled, WaitList, renewed, standing, is_full, skipped, objects_now}
pub use Rattle.ob_waits.specs.declared.number_map.NumberedThread.{NumberedThread}
pub use Rattle.ob_waits.specs.declared.numbered_wait.NumberedWait.{NumberedWait}
pub use Rattle.ob_waits.specs.declared.wait.Mode.{Mode}
pub use Rattle.ob_waits.specs.declared.wait.State.{State}
pub use Rattle.ob_waits.specs.declared.wait.State.TheVariants.{Answered, Pending}
pub use Rattle.ob_waits.specs.declared.wait.Wait.{Wait}
pub use Rattle.pin_core.specs.declared.id.Id.{Id}
pub use Rattle.std.proofs.Common.{◌≡◌, ℕ, zero, suc, ◌<◌, ◌≤◌, List, [], ◌∷◌, ◌++◌, length, Option, Some, None, refl, ◌∙◌, sym, arith, get_or, Bool, true, false, inl, inr, ◌⊎◌, ◌≢◌, ◌+◌, ◌-◌, ap, subst, set, eqb, cond, ◌*◌, map, ltb, leb, take, drop, ◌&&◌, not, ◌%◌, ◌^◌, Global, Vec, Result, Ok, Err, replicate, append_assoc, ◌||◌, rules, nat_eq, OnOk}
pub use Rattle.std.proofs.Math.ListN.{get_or-map}
pub use Rattle.std.proofs.lemmas.Bool.{cases_eq, false_from_ne_true, cases_lt, lt-ltb, le-ltb, cond-false, cond-true, eq-eqb, ne_eqb, true_from_ne_false, and_parts, leb-true, ltb-true, lt-leb, and_from, le-leb, or_parts}
pub use Rattle.std.proofs.lemmas.Bool.Decides.{nat_tests}
pub use Rattle.std.proofs.lemmas.List.{get_or_past, get_or_append_left, get_or_push, length_push, length-set, get_or-set_same, get_or-set_other, set_past, length-map, ext_get_or, get_or_read, get_or_default, drop-append-le, drop-set, drop-take, drop_more, length-drop, length-take, take_more, take_more_set, drop_all, append-nil, get_or-take, take_all, length-append, length-replicate, drop-drop}
pub use Rattle.std.proofs.lemmas.List.Folds.{list_any_at, list_all-append}
pub use Rattle.std.proofs.lemmas.List.Sums.{sum_by-cons, sum_by-set, sum_by-append, sum_by-le, get_or-le-sum_by, count_by-le-length, passes_at_first, fails_before_first, position_or_len_is, length-filter}
pub use Rattle.std.specs.List.{list_any, position_or_len, list_all, AllByRecursion, flat_map}
pub use Rattle.std.specs.Prelude.{◌==◌, IfSome, sum_by, count_by, is_some, filter}
