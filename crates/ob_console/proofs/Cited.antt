-- What the proofs of this crate cite from elsewhere, passed on.
pub use Rattle.ob_console.specs.Pinning.{Finds, IsWord, Judged, Pins, phase_in, phase_at, SparesHeld}
pub use Rattle.ob_console.specs.Retelling.{AnswersOtherwise, FitsEntry, Retells, RetellsTo, answer, is_line, script_of}
pub use Rattle.ob_console.specs.Runs.{Point, Prints, Run, IsWithin, AnswersLines, AnswersPart, last_line, Looks, Spares, with_ends, Splits, AnswersTo, IsCut, IsEnded, IsOpening, IsWholeEnded, AnswersAll, IsLooked, point}
pub use Rattle.ob_console.specs.Sessions.{ConsoleState, IsReady, Session, Advances, Finishes, IsFed, IsCutShort, Ends, Enacts, Evaluation}
pub use Rattle.ob_manager.specs.Outcomes.{Outcome, ◌>>=◌, refuse_if}
pub use Rattle.ob_manager.specs.Reaping.{IfReap, if_ended, reap, IfReaped}
pub use Rattle.ob_manager.specs.Steps.{Step, outcome_of, takes_memory, final, KeeperAfter, is_lack, reclaim_in}
pub use Rattle.ob_manager.specs.declared.reply.Reply.{Reply}
pub use Rattle.ob_manager.specs.declared.reply.Reply.TheVariants.{Reaped, Refused}
pub use Rattle.ob_script.proofs.Written.{writes_on, begins_on, begins_more, put_written}
pub use Rattle.ob_script.specs.Commands.{Command, Nothing, Asks, Pin, Unpin, ShowCard, shortened}
pub use Rattle.ob_script.specs.Devices.{Writes, Begins}
pub use Rattle.ob_script.specs.Grammar.{command_of, command_of_text}
pub use Rattle.ob_script.specs.Pending.{Spends}
pub use Rattle.ob_script.specs.Printed.{line_end, printed_reply, printed, printed_names, printed_pin, printed_unpin, printed_count, printed_row}
pub use Rattle.ob_script.specs.Telling.{comment, is_repeatable, lines_for, asking, is_held, is_held_slot, text_for}
pub use Rattle.ob_shared.specs.declared.book.Entry.{Entry}
pub use Rattle.ob_store.specs.Consistent.{IsConsistent}
pub use Rattle.ob_store.specs.Directory.{directory_of}
pub use Rattle.ob_store.specs.Meetings.{IsMet, IsFound}
pub use Rattle.ob_store.specs.State.{Whole, settled, State, generation_of, shape_of, opening}
pub use Rattle.pin_core.specs.Holds.{tally, same_id}
pub use Rattle.pin_core.specs.Words.{decoded, encoded}
pub use Rattle.pin_core.specs.Worlds.{slot_of, opening_slot}
pub use Rattle.pin_core.specs.declared.id.Id.{Id}
pub use Rattle.pin_words.specs.Views.{look, reader_looked, is_of_slot}
pub use Rattle.pin_words.specs.declared.pin_keeper.Reclaim.{Reclaim}
pub use Rattle.pin_words.specs.declared.view.ReaderView.{ReaderView}
pub use Rattle.std.proofs.Common.{◌≡◌, ℕ, ◌+◌, List, [], ◌∷◌, ◌++◌, length, Some, refl, subst, arith, ◌⊎◌, inl, inr, ◌<◌, true, None, Result, Ok, Err, ap, ◌≤◌, Bool, Option, sym, ◌∙◌, get_or, All, suc, ◌-◌, take, false, ◌==◌, true≢false, position, ◌*◌}
pub use Rattle.std.proofs.lemmas.Bool.{cases_Bool, cases_eq, eqb-false, not-true, cases_lt, and_right, or_parts}
pub use Rattle.std.proofs.lemmas.Grind.{flat_map-append}
pub use Rattle.std.proofs.lemmas.List.{append_assoc, append-nil, length-append, take-append-drop, drop_more, length-take, length-drop, get_or-take, length-take-le, take_all, take_more}
pub use Rattle.std.proofs.lemmas.List.Elements.{All-cons, All-nil, All-tail, All-append, All-head, All-more}
pub use Rattle.std.proofs.lemmas.List.Sums.{AllPass-from_list_all, fails_before_first, passes_at_first, count_by-le-length}
pub use Rattle.std.specs.List.{concat, flat_map, position_or_len, before_first, after_first}
pub use Rattle.std.specs.Prelude.{nat_le, slice_index_or, ◌≢◌, IsErrOf, slice_index, ◌||◌, OnErr, replicate}
