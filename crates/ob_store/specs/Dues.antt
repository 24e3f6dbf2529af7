-- When something is due next.
use Rattle.std.specs.Prelude.{ℕ, nat_le, if◌then◌else◌, List, ◌++◌, Option, Some, None, map}
use Rattle.ob_waits.specs.Deadlines.{deadline_of}
use Rattle.ob_waits.specs.Form.{slot_due}
use Rattle.ob_store.specs.State.{State}
use Rattle.ob_store.specs.Ticks.{last_moment}

-- a moment that a tick can reach, or none
abbrev pub reached : Option ℕ → Option ℕ
reached None = None
reached (Some moment) = if nat_le moment last_moment then Some moment else None

-- the moment at which the timer in each slot is due, and that at which the time of each pending wait is up, where a tick
-- can reach it: what is due later never comes
abbrev pub dues_of : State → List (Option ℕ)
dues_of s = map reached (map slot_due s.bodies ++ map deadline_of s.waits)
