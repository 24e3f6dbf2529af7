-- What calls on waits make of the state.
use Rattle.std.specs.Prelude.{◌≡◌, ℕ, ◌+◌, ◌&&◌, Bool, if◌then◌else◌, List, [], ◌∷◌, ◌++◌, Option, Some, None, IfSome, slice_index_or, slice_set}
use Rattle.std.specs.Option.{option_and_then, option_map, unwrap_or}
use Rattle.least.specs.From.{IsLeastFrom}
use Rattle.pin_core.specs.declared.id.Id.{Id}
use Rattle.ob_body.specs.declared.body.Body.{Body}
use Rattle.ob_waits.specs.declared.wait.Mode.{Mode}
use Rattle.ob_waits.specs.declared.wait.Mode.TheVariants.{Any}
use Rattle.ob_waits.specs.declared.wait.Wait.{Wait}
use Rattle.ob_waits.specs.declared.answer.Answer.{Answer}
use Rattle.ob_waits.specs.Answers.{answer_of, is_answered}
use Rattle.ob_waits.specs.Waits.{WaitList, answered, bodies_after, is_answer, is_full, is_pending, new_wait, number_of, state_at, with_renewed}
use Rattle.ob_waits.specs.declared.wait.WaitState.TheVariants.{Answered}
use Rattle.ob_store.specs.State.{State, last_wait, settled, with_body}

-- a thread takes at once what it waits for
abbrev pub with_taken : State → ℕ → Mode → List Id → State
with_taken s thread mode ids = record s { bodies = bodies_after mode thread s.bodies ids }

-- the waits to which one comes: where numbers come back and each up to the last is given, those that aren't over begin
-- them anew, in their order
abbrev pub opened : Bool → WaitList → WaitList
opened reuse list = if reuse && is_full list then with_renewed list else list

abbrev pub list_of : State → WaitList
list_of s = record { limit = last_wait s.limits; waits = s.waits; clock = s.clock }

abbrev pub open_waits : State → List (Option Wait)
open_waits s = (opened s.limits.reuse (list_of s)).waits

-- or its wait becomes pending, with the next number, until a moment or for good
abbrev pub joined : State → ℕ → Mode → List Id → Option ℕ → State
joined s thread mode ids deadline = record s { waits = s.waits ++ Some (new_wait thread mode ids deadline) ∷ [] }

abbrev pub with_wait : State → ℕ → Mode → List Id → Option ℕ → State
with_wait s = joined (record s { waits = open_waits s })

-- whether no number is left for it
abbrev pub are_waits_given : State → Bool
are_waits_given s = is_full (opened s.limits.reuse (list_of s))

-- what a wait is called: its number or, where numbers come back, that of its thread, which has no other wait
abbrev pub wait_name : State → ℕ → ℕ → ℕ
wait_name s thread number = if s.limits.reuse then thread else number

-- the number of the wait that is called so; 0, which no wait has, where the thread has none
abbrev pub wait_number : State → ℕ → ℕ
wait_number s name = if s.limits.reuse then unwrap_or (number_of name s.waits) 0 else name

-- what is told of a wait of this number that is answered
abbrev pub told_of : State → ℕ → Option Answer
told_of s number = option_map (λ (a : Answer). record a { wait = wait_name s a.thread number })
    (answer_of number (slice_index_or s.waits number None))

-- the answer of the next wait that is answered, by the order in which waits began, behind the wait that is called so
pub record IsNextAnswered (s : State) (after : ℕ) (result : Option Answer) : Type 0 where
  pub number : Option ℕ
  pub least : IsLeastFrom (wait_number s after + 1) (λ n. is_answered (slice_index_or s.waits n None)) number
  pub told : result ≡ option_and_then (told_of s) number
  -- and it is found by what it is called
  pub found : IfSome result (λ a. state_at (slice_index_or s.waits (wait_number s a.wait) None) ≡ Some (Answered a.code))

-- the wait of a number is answered
abbrev pub with_answer : State → ℕ → ℕ → State
with_answer s wait code = record s { waits = slice_set s.waits wait (answered (slice_index_or s.waits wait None) code) }

-- the wait of a number is over
abbrev pub without_wait : State → ℕ → State
without_wait s wait = record s { waits = slice_set s.waits wait None }

-- a thread's wait for an object comes as an object, perhaps the same, gets this body; then the waits settle
abbrev pub met : State → ℕ → Id → Option ℕ → Id → Body → State
met s thread waited deadline id after =
    settled (with_body (with_wait s thread Any (waited ∷ []) deadline) id after)

-- a wait that may not last is answered with 258 where it is still pending
abbrev pub cut_short : Bool → State → ℕ → State
cut_short at_once s number =
    if at_once && is_pending (slice_index_or s.waits number None) then settled (with_answer s number 258) else s

-- what is answered is taken, and over
abbrev pub taken_at : State → ℕ → State
taken_at s number =
    if is_answer (state_at (slice_index_or s.waits number None)) then settled (without_wait s number) else s
