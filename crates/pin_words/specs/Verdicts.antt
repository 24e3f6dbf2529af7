-- What a word says of an Id that is to be pinned.
use Rattle.std.specs.Prelude.{ℕ, ◌==◌, ◌&&◌, ◌||◌, nat_lt, not, if◌then◌else◌}
use Rattle.pin_core.specs.declared.word.Word.{Word}
use Rattle.pin_core.specs.declared.id.Id.{Id}
use Rattle.pin_core.specs.declared.word.Phase.TheVariants.{Free, Retired, Closing}
use Rattle.pin_core.specs.Events.{is_phase}
use Rattle.pin_words.specs.declared.fault.Verdict.{Verdict}
use Rattle.pin_words.specs.declared.fault.Verdict.TheVariants.{Unborn, Stale, PinsFull, Go}

-- the slot is live at the Id's generation with room for a pin, or why not
abbrev pub verdict_of : ℕ → Id → Word → Verdict
verdict_of max_pins id w =
    if (not (is_phase w.phase Retired) && nat_lt w.generation id.generation)
    || (is_phase w.phase Free && (w.generation == id.generation))
    then Unborn
    else (if nat_lt id.generation w.generation || (is_phase w.phase Closing || is_phase w.phase Retired)
    then Stale
    else (if w.pins == max_pins then PinsFull else Go))
