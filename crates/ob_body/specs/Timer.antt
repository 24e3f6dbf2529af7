-- A waitable timer, and what calls, waits and time make of it.
use Rattle.std.specs.Prelude.{ℕ, ◌+◌, ◌-◌, ◌*◌, ◌/◌, ◌==◌, Bool, true, false, ◌&&◌, nat_le, Option, Some, None, if◌then◌else◌}
use Rattle.ob_body.specs.TimerState.{TimerState}

-- a period in units of 100 ns
abbrev pub units_of : ℕ → ℕ
units_of period = 10000 * period

-- the first moment after now that lies a whole number of so many units behind one that isn't after now
abbrev pub next_moment : ℕ → ℕ → ℕ → ℕ
next_moment now due units = due + ((now - due) / units + 1) * units

-- whether a due moment isn't after now
abbrev pub is_due : ℕ → Option ℕ → Bool
is_due now None = false
is_due now (Some due) = nat_le due now

-- when it is due again by its period, if it has one, once its moment has come
abbrev pub due_again : ℕ → Option ℕ → ℕ → Option ℕ
due_again now None period = None
due_again now (Some due) period = if period == 0 then None else Some (next_moment now due (units_of period))

-- at a moment: where it is due it becomes signaled, and is due again by its period, or is set no longer
abbrev pub after_fire : ℕ → TimerState → TimerState
after_fire now t =
    if is_due now t.due then record t { signaled = true; due = due_again now t.due t.period } else t

-- set to a moment, with a period: nonsignaled until then, and signaled at once where the moment isn't after now
abbrev pub after_arm : ℕ → ℕ → ℕ → TimerState → TimerState
after_arm due now period t = after_fire now (record t { signaled = false; due = Some due; period = period })

-- cancelled: no moment is left and no period, and it stays as signaled as it was
abbrev pub after_disarm : TimerState → TimerState
after_disarm t = record t { due = None; period = 0 }

-- a satisfied wait resets a synchronization timer
abbrev pub after_acquire : TimerState → TimerState
after_acquire t = record t { signaled = t.signaled && t.manual }
