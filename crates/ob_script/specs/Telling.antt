-- A call with its answer, as lines of a script.
use Rattle.std.specs.Prelude.{ℕ, ◌||◌, Bool, true, false, not, List, [], ◌∷◌, ◌++◌, Option, Some, None, codes, take}
use Rattle.std.specs.List.{flat_map}
use Rattle.pin_words.specs.declared.pin_keeper.Reclaim.{Reclaim}
use Rattle.pin_words.specs.declared.pin_keeper.Reclaim.TheVariants.{Freed, Retired, Held}
use Rattle.ob_manager.specs.Calls.{Call}
use Rattle.ob_manager.specs.declared.call.CallOf.TheVariants.{Reap}
use Rattle.ob_manager.specs.declared.reply.Reply.{Reply}
use Rattle.ob_manager.specs.Steps.{is_lack, reclaim_in}
use Rattle.ob_script.specs.Printed.{line_end, printed_reply}
use Rattle.ob_script.specs.Writing.{line_of}

-- whether a slot stayed as it was, since there are pins
abbrev pub is_held_slot : Reclaim → Bool
is_held_slot Freed = false
is_held_slot Retired = false
is_held_slot (Held pins) = true

abbrev pub is_held : Call → Reply → Bool
is_held (Reap slot) reply = is_held_slot (reclaim_in reply)
is_held call reply = false

-- Whether a call can be made again for this answer: not where memory was wanting, which comes from without, nor where a
-- slot was held, by pins that no call has. Neither changed anything.
abbrev pub is_repeatable : Call → Reply → Bool
is_repeatable call reply = not (is_lack reply || is_held call reply)

-- a comment, which has 4,096 bytes at most, as each line
abbrev pub comment : List ℕ → List ℕ
comment text = 35 ∷ 32 ∷ take 4094 text

-- the line that asks for a call, where it can be made again, else a comment
abbrev pub asking : Bool → Option (List ℕ) → List ℕ
asking again None = comment (codes "a call that no line asks for")
asking true (Some line) = line
asking false (Some line) = comment line

-- and behind it what it was answered, as a comment
abbrev pub lines_for : Call → Reply → List (List ℕ)
lines_for call reply = asking (is_repeatable call reply) (line_of call) ∷ comment (printed_reply reply) ∷ []

abbrev pub text_for : Call → Reply → List ℕ
text_for call reply = flat_map (λ line. line ++ line_end) (lines_for call reply)
