-- Time passes: timers that are due fire, the waits settle, and then each wait whose time is up is answered.
use Rattle.std.specs.Prelude.{ℕ, Bool, Option, Some, None, map}
use Rattle.ob_body.specs.declared.body.Body.{Body}
use Rattle.ob_body.specs.Body.{after_fire}
use Rattle.ob_body.specs.Timer.{is_due}
use Rattle.ob_waits.specs.Deadlines as waits
use Rattle.ob_waits.specs.Form.{slot_due}
use Rattle.ob_waits.specs.CountedBodies.{CountedBodies}
use Rattle.ob_store.specs.State.{State, settled}

-- the greatest moment that it can be
abbrev pub last_moment : ℕ
last_moment = 9223372036854775807

-- whether a slot has a timer that is due, which becomes signaled
abbrev pub slot_is_due : ℕ → Option Body → Bool
slot_is_due now x = is_due now (slot_due x)

abbrev pub slot_fired : ℕ → Option Body → Option Body
slot_fired now None = None
slot_fired now (Some b) = Some (after_fire now b)

abbrev pub timers_fired : ℕ → CountedBodies → CountedBodies
timers_fired now o = record o { bodies = map (slot_fired now) o.bodies }

-- it is the moment now, and the timers that are due have fired
abbrev pub fired : ℕ → State → State
fired now s = record s { clock = now; bodies = map (slot_fired now) s.bodies }

-- each pending wait whose deadline isn't after the moment is answered with 258
abbrev pub timed_out : ℕ → State → State
timed_out now s = record s { clock = now; waits = map (waits.timed_out now) s.waits }

-- it is the moment now: what is due fires, the waits settle, and then each wait whose time is up is answered; so a
-- signal goes before a deadline of the same moment. What lost its last wait ends.
abbrev pub ticked : ℕ → State → State
ticked now s = settled (timed_out now (settled (fired now s)))
