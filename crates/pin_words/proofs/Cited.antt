-- What the proofs of this crate cite from elsewhere, passed on.
pub use Rattle.atomic_table.proofs.Lists.{exchanged, set_here, set_else, set_again, at_longer, at_last, at_set}
pub use Rattle.atomic_table.specs.Table.{step, Allows, Act, keeps, stepped, carried_after, Valid, Splits, Joins, opening}
pub use Rattle.ob_codec.proofs.AtPlace.{at_place}
pub use Rattle.pin_core.proofs.Counts.{count-snoc, count-drop_last-le, count-drop_last, count-with_hold, tally-count, drop_last-absent, none-at, some-at, remove-last}
pub use Rattle.pin_core.proofs.Moves.{copies-le-pins, moved, given_as-le}
pub use Rattle.pin_core.proofs.Schedules.{safe_kept, may_publish, may_store, opening_at, times-le-copies, kept_while_held, may_read, may_close, may_release}
pub use Rattle.pin_core.specs.Events.{reclaimed, refusal, after, in_phase, with_descr, Transition, with_holders}
pub use Rattle.pin_core.specs.Holds.{tally, drop_last, same_id, weight, is_copy, is_hold, hold_of, with_hold, drop_first, is_at_slot}
pub use Rattle.pin_core.specs.Opened.{opened_with, Opens, shown_from}
pub use Rattle.pin_core.specs.Safety.{IsSafe, age, may_be_held}
pub use Rattle.pin_core.specs.Shapes.{IsWithinLimits}
pub use Rattle.pin_core.specs.Words.{packed, decoded, encoded, code_of}
pub use Rattle.pin_core.specs.Worlds.{slot_of, WorldState, at, id_at, pins, copies, last_copy, is_of, is_with, given_as, opening_slot, word_at, times, next_copy, given}
pub use Rattle.pin_core.specs.declared.descr.Descr.{Descr}
pub use Rattle.pin_core.specs.declared.event.Event.{Event}
pub use Rattle.pin_core.specs.declared.event.Event.TheVariants.{StoreDescr, Publish, CloseSlot, Reclaim, Pin, Release, Load, ReadDescr}
pub use Rattle.pin_core.specs.declared.holders.Hold.{Hold}
pub use Rattle.pin_core.specs.declared.id.Id.{Id}
pub use Rattle.pin_core.specs.declared.shape.Shape.{Shape}
pub use Rattle.pin_core.specs.declared.word.Phase.TheVariants.{Free, Live, Closing}
pub use Rattle.pin_core.specs.declared.word.Word.{Word}
pub use Rattle.pin_core.specs.declared.world.Slot.{Slot}
pub use Rattle.pin_words.specs.Laws.{StaleStays, after_step, closing_word, next_word, word, ArePublished, CloseSteps, CopiesStay, FailedReclaimSteps, GivesReader, KeeperAt, LoadSteps, NotesArePublished, PinSteps, PublishSteps, ReadSteps, ReaderAt, ReclaimSteps, ReleaseSteps, ShowsOneWorld, ShowsOpening, StoreSteps, with_keeper, with_reader, LostSeesNoEarlier, descr_word, with_views, TriesPin}
pub use Rattle.pin_words.specs.Places.{descr_place, pin_word, AreLaid, IsPlace, place_of, AtSlot, words_of}
pub use Rattle.pin_words.specs.Plays.{Behind, TellsReader, got_view, released, noted, stored, KeptAs, TellsKeeper, published, closed, ReclaimedAt, reclaiming, NoLater, looked_view, released_view, LookedAt, looked, PinnedAt, pinned, ReleasedAt, gave, spent, joined, keeper_part, reader_part, AreListed, Show, MeetsBoth}
pub use Rattle.pin_words.specs.Shown.{Shown, HoldsJust, AreNoted, Table, NotAhead, OfKeeper, OfReader, IsShown, HasReader, Agrees, HasKeeper, word_age, IsPast}
pub use Rattle.pin_words.specs.Stepped.{Stands, StepsBy, Stepped, LoadStep, PinStep, ReleaseStep, DescrStep, Pinned, IsHold}
pub use Rattle.pin_words.specs.Tries.{HasOnlyLooked, WasStale, Tries, FollowsLook, AreBusy}
pub use Rattle.pin_words.specs.Verdicts.{verdict_of}
pub use Rattle.pin_words.specs.Views.{M, view, look, id_in, reader_with, reader_got, reader_released, keeper_with, keeper_stored, reader_of, keeper_of, IsReaders, IsKeepers, is_of_slot, notes_of, keeper_looked, keeper_published, keeper_closed, keeper_reclaimed, reader_looked, keeper_gave, opening_keeper, reader_noted, keeper_with_slots, view_with_slots}
pub use Rattle.pin_words.specs.declared.fault.Verdict.TheVariants.{Stale, Go, Unborn, PinsFull}
pub use Rattle.pin_words.specs.declared.view.KeeperView.{KeeperView}
pub use Rattle.pin_words.specs.declared.view.Look.{Look}
pub use Rattle.pin_words.specs.declared.view.Note.{Note}
pub use Rattle.pin_words.specs.declared.view.ReaderView.{ReaderView}
pub use Rattle.pin_words.specs.declared.view.View.{View}
pub use Rattle.std.proofs.Common.{cond, eqb, ◌≡◌, ◌≢◌, ℕ, ◌+◌, ◌<◌, ◌≤◌, List, length, get_or, set, length-set, get_or-set_other, sym, ◌∙◌, subst, arith, ◌-◌, ◌*◌, ◌%◌, ◌^◌, refl, ⊎_elim, [], ◌∷◌, ◌++◌, Some, None, ap, Err, IfSome, Bool, true, false, inl, Option, nat_le, ◌&&◌, nat_lt, replicate, Global, inr, ◌==◌, eq-eqb, ne_eqb, zero, suc, take, length-take-le, ◌⊎◌, rules, ◌↔◌, IsTrue, is_some}
pub use Rattle.std.proofs.lemmas.Bool.{eqb-true, cases_lt}
pub use Rattle.std.proofs.lemmas.Bool.Decides.{nat_tests}
pub use Rattle.std.proofs.lemmas.List.{append_assoc, get_or_read, length-replicate, take_more, drop_all, append-nil}
pub use Rattle.std.proofs.lemmas.Option.{IfSome_then, same_Some}
pub use Rattle.std.specs.Prelude.{bit_or, option_map, slice_index, Ok}
pub use denote.RattleType.{RattleType, Valss, owns}
pub use denote.Steps.{nothing}
pub use lib.ListN.{get_elem?}
pub use mathlib.Core.Logic.{dite}
pub use mathlib.Core.Option.{none, some, some-ne-none, some-injective}
pub use mir.Val.{Val, vstruct, vnil, vptr}
pub use native.Mathlib.Decide.{ℕ_discrete}
pub use seplogic.Ra.Ura.{Ura}
pub use types.Kit.{Goal, Step, Item, ‵, ◌$◌, fjoin, fpack, feq_i, raw, ◌⊛◌, prop, ◌∵◌, !, qed, move, keep, drop, split, fsplit, feq_l, regoal, suffices, done}
pub use types.Logic.{Logic}
