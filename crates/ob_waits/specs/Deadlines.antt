-- The deadlines of waits, and how the code finds those that are over.
use Rattle.std.specs.Prelude.{◌≡◌, ℕ, ◌≤◌, Bool, List, Option, Some, None, if◌then◌else◌, slice_index_or}
use Rattle.ob_body.specs.Timer.{is_due}
use Rattle.ob_waits.specs.declared.wait.Wait.{Wait}
use Rattle.ob_waits.specs.declared.wait.State.{State}
use Rattle.ob_waits.specs.declared.wait.State.TheVariants.{Pending, Answered}
use Rattle.ob_waits.specs.Form.{IsAfter}
use Rattle.ob_waits.specs.Rules.{thread_of}
use Rattle.ob_waits.specs.Waits.{answered}

-- the moment at which a pending wait's time is up, if it has one
abbrev pub state_deadline : Option ℕ → State → Option ℕ
state_deadline deadline (Pending mode ids) = deadline
state_deadline deadline (Answered code) = None

abbrev pub deadline_of : Option Wait → Option ℕ
deadline_of None = None
deadline_of (Some wait) = state_deadline wait.deadline wait.state

-- whether a wait is pending, and its time is up
abbrev pub is_overdue : ℕ → Option Wait → Bool
is_overdue now wait = is_due now (deadline_of wait)

-- then it is answered with 258, `WAIT_TIMEOUT`
abbrev pub timed_out : ℕ → Option Wait → Option Wait
timed_out now wait = if is_overdue now wait then answered wait 258 else wait

-- each deadline of a pending wait is after now
pub record AreAhead (clock : ℕ) (waits : List (Option Wait)) : Type 0 where
  pub each : (n : ℕ) → IsAfter clock (deadline_of (slice_index_or waits n None))

-- and is listed at its thread, where a deadline of a wait that was answered may stand too
pub record AreListed (waits : List (Option Wait)) (dues : List (Option ℕ)) : Type 0 where
  pub each : (n t d : ℕ) → thread_of (slice_index_or waits n None) ≡ Some t
      → deadline_of (slice_index_or waits n None) ≡ Some d → slice_index_or dues t None ≡ Some d

-- what the waits keep of time
pub record AreTimely (clock : ℕ) (waits : List (Option Wait)) (dues : List (Option ℕ)) : Type 0 where
  pub moment : clock ≤ 9223372036854775807
  pub ahead : AreAhead clock waits
  pub listed : AreListed waits dues
