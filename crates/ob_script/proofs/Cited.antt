-- What the proofs of this crate cite from elsewhere, passed on.
pub use Rattle.memchr.specs.Find.{is_byte, IsFirstByte}
pub use Rattle.ob_manager.specs.Calls.{Call}
pub use Rattle.ob_manager.specs.Makings.{Making}
pub use Rattle.ob_manager.specs.declared.reply.Reply.{Reply}
pub use Rattle.ob_manager.specs.declared.waiting.Timeout.{Timeout}
pub use Rattle.ob_manager.specs.declared.waiting.Timeout.TheVariants.{Zero, Infinite, Millis, Until}
pub use Rattle.ob_rights.specs.declared.kind.Kind.{Kind}
pub use Rattle.ob_rights.specs.declared.rights.Rights.{Rights}
pub use Rattle.ob_script.specs.Commands.{Command, Bad, Asks}
pub use Rattle.ob_script.specs.Devices.{Writes, Begins}
pub use Rattle.ob_script.specs.Fitting.{FitsMake, FitHandles, FitsKind, FitsTarget, FitsTimeout, Fits, FitsSign, Small, FitsMask}
pub use Rattle.ob_script.specs.Grammar.{command_of, command_of_words, limit_of, mode_of, timeout_of, text_of, asked, open_of, wait_of, text_of_words, name_of, make_of, target_of, access_of, command_of_text}
pub use Rattle.ob_script.specs.Words.{words_of, number_of, value_of, ◌>>=◌, joined, labelled, value_after, kind_of, id_of, are_handles, handles_in, type_of, signed_of, up_to, long_of, moment_of, due_of, mask_of}
pub use Rattle.ob_script.specs.Writing.{label, mask_word, line_of, either_word, make_words, kind_word, words_for, can_be_said, as_said, id_word, word_if, mask_words, mode_word, timeout_word, target_word, name_words, ended, said, text_words, text_for, is_line}
pub use Rattle.pin_core.specs.declared.id.Id.{Id}
pub use Rattle.std.proofs.Common.{arith, ◌≡◌, ℕ, List, [], ◌∷◌, ◌++◌, ◌≤◌, ◌<◌, refl, length, true, false, take, Bool, ◌-◌, ◌+◌, Some, None, Option, ◌∙◌, drop, ◌^◌, suc, ap, sym, ◌*◌, zero, inl, inr, ◌≢◌, decimal, ◌%◌, not, rules, if◌then◌else◌, map, codes, nat_lt, Result, ◌/◌, get_or, cond, All, Ok, Err, IfSome, ◌&&◌, ℤ, pos, negsuc, ◌==◌, ◌⊎◌, ◌↔◌, min, is_ok, replicate, eqb, w8, w64, bit_or}
pub use Rattle.std.proofs.Math.Nat.{pow-le-pow_right, pow-suc}
pub use Rattle.std.proofs.lemmas.Bool.{cases_lt, cases_eq, ne_eqb, true≢false, false_from_ne_true, and_from, cond_both, not-true}
pub use Rattle.std.proofs.lemmas.Bool.Decides.{nat_tests}
pub use Rattle.std.proofs.lemmas.Fmt.{decimal_is_IsNumeral, length-decimal-le, digits_is_IsNumeral, decimal_digit, decimal_step}
pub use Rattle.std.proofs.lemmas.Grind.{common_steps, pow_more}
pub use Rattle.std.proofs.lemmas.List.{take_rest, append-nil, take_all, length-map, append_assoc, take_at, drop-drop, take_more, get_or-map, get_or_past, get_or-take, length-take-le, drop_all, length-append, length-take, take-append-drop}
pub use Rattle.std.proofs.lemmas.List.Folds.{list_all-append, list_all_at, flat_map-map}
pub use Rattle.std.proofs.lemmas.List.Sums.{position_or_len_is, prefix_len-le-length, fails_before_first, passes_at_first, AllPass-from_list_all}
pub use Rattle.std.specs.Char.{is_ascii_digit, is_ascii_hexdigit, digit_value}
pub use Rattle.std.specs.Fmt.{digits, signed_decimal, digit_glyph, digits_onto}
pub use Rattle.std.specs.List.{list_all, position_or_len, before_first, after_first, flat_map}
pub use Rattle.std.specs.Prelude.{OnOk, OnErr, MatchOption, nat_le}
pub use Rattle.std.specs.Str.Parse.{IsNumeral, digits_value_after, AllDigits, digits_value}
