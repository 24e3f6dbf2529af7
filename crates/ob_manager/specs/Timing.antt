-- Timers, and time, which passes only by ticks. A moment counts units of 100 ns.
use Rattle.std.specs.Prelude.{ℕ, suc, ◌+◌, ◌||◌, nat_lt, Result, Ok, ℤ, pos, negsuc}
use Rattle.ob_rights.specs.declared.fault.Fault.{Fault}
use Rattle.ob_rights.specs.declared.fault.Fault.TheVariants as fault
use Rattle.ob_rights.specs.declared.kind.Kind.TheVariants as kind
use Rattle.ob_body.specs.Body.{after_arm, after_disarm}
use Rattle.ob_manager.specs.declared.reply.Reply.TheVariants.{Ticked}
use Rattle.ob_store.specs.State.{State}
use Rattle.ob_store.specs.Ticks.{last_moment, ticked}
use Rattle.ob_manager.specs.Outcomes.{Outcome, ◌>>=◌, or_refuse, refuse_if}
use Rattle.ob_manager.specs.Checks.{caller, natural}
use Rattle.ob_manager.specs.Signaling.{modify}

-- the moment that a caller means: below 0 so many units after now
abbrev pub moment_of : ℕ → ℤ → ℕ
moment_of now (pos n) = n
moment_of now (negsuc n) = now + suc n

-- a timer is set to a moment, with a period in milliseconds, 0 for none
abbrev pub arm_timer : State → ℕ → ℕ → ℤ → ℕ → Result Outcome Fault
arm_timer s thread handle due period =
    modify s thread handle kind.Timer (λ timer. after_arm (moment_of s.clock due) s.clock period timer)

abbrev pub set_timer : State → ℕ → ℕ → ℤ → Result Outcome Fault
set_timer s thread handle due = arm_timer s thread handle due 0

-- the caller, a period that isn't below 0, and then as to set a timer
abbrev pub set_periodic_timer : State → ℕ → ℕ → ℤ → ℤ → Result Outcome Fault
set_periodic_timer s thread handle due period = do
  _ ← caller s thread
  millis ← or_refuse (natural period) fault.Parameter
  arm_timer s thread handle due millis

abbrev pub cancel_timer : State → ℕ → ℕ → Result Outcome Fault
cancel_timer s thread handle = modify s thread handle kind.Timer after_disarm

-- time doesn't go back, and not past the last moment
abbrev pub tick : State → ℕ → Result Outcome Fault
tick s now = do
  _ ← refuse_if (nat_lt now s.clock || nat_lt last_moment now) fault.Parameter
  Ok (record { reply = Ticked now; state = ticked now s })
