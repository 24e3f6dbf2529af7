-- The waits that are answered: what is told of them, and how the code finds them in order.
use Rattle.std.specs.Prelude.{◌≡◌, ◌≢◌, ◌⊎◌, ℕ, ◌<◌, Bool, true, is_some, List, Option, Some, None, length, slice_index_or}
use Rattle.ob_waits.specs.declared.answer.Answer.{Answer}
use Rattle.ob_waits.specs.declared.wait.Wait.{Wait}
use Rattle.ob_waits.specs.declared.wait.State.{State}
use Rattle.ob_waits.specs.declared.wait.State.TheVariants.{Pending, Answered}
use Rattle.ob_waits.specs.Rules.{thread_of, Within, IsRising}
use Rattle.ob_waits.specs.Waits.{code_at}

-- whether a wait is answered
abbrev pub is_answered : Option Wait → Bool
is_answered wait = is_some (code_at wait)

-- what is told of the wait of a number, once it is answered
abbrev pub state_answer : ℕ → ℕ → State → Option Answer
state_answer number thread (Pending mode ids) = None
state_answer number thread (Answered code) = Some (record { wait = number; thread = thread; code = code })

abbrev pub answer_of : ℕ → Option Wait → Option Answer
answer_of number None = None
answer_of number (Some wait) = state_answer number wait.thread wait.state

-- numbers that rose as their waits were answered; and for each thread the number of its answered wait, where that one
-- did not
pub record AnsweredNumbers : Type 0 where
  pub queue : List ℕ
  pub out_of_order : List (Option ℕ)

-- a wait of the thread, answered
abbrev pub IsAnswered : ℕ → Option Wait → Type 0
IsAnswered thread wait = (thread_of wait ≡ Some thread) × (is_answered wait ≡ true)

-- each answered wait, but for that of one number, has its number here; its thread has a place
pub record AreToldBut (but : Option ℕ) (waits : List (Option Wait)) (answered_numbers : AnsweredNumbers) : Type 0 where
  pub rising : IsRising answered_numbers.queue
  pub out_of_order : (t n : ℕ) → slice_index_or answered_numbers.out_of_order t None ≡ Some n
      → IsAnswered t (slice_index_or waits n None)
  pub each : (t n : ℕ) → Some n ≢ but → IsAnswered t (slice_index_or waits n None)
      → Within n answered_numbers.queue ⊎ (slice_index_or answered_numbers.out_of_order t None ≡ Some n)
  pub placed : (t n : ℕ) → thread_of (slice_index_or waits n None) ≡ Some t → t < length answered_numbers.out_of_order

abbrev pub AreTold : List (Option Wait) → AnsweredNumbers → Type 0
AreTold waits answered_numbers = AreToldBut None waits answered_numbers

-- a list without some numbers, none of them of a wait that is answered
pub record ThinsAnswered (waits : List (Option Wait)) (old new : List ℕ) : Type 0 where
  pub rising : IsRising old → IsRising new
  pub keeps : (k : ℕ) → is_answered (slice_index_or waits k None) ≡ true → Within k old → Within k new
