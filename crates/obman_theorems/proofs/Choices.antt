-- What a manager may answer each time.
use Rattle.std.proofs.Common.{◌≡◌, ℕ, ◌<◌, ◌≤◌, Bool, false, Option, Some, None, Result, Ok, arith}
use Rattle.std.proofs.lemmas.Bool.Decides.{nat_tests}
use Rattle.std.specs.Prelude.{nat_le, slice_index_or}
use Rattle.pin_core.specs.declared.id.Id.{Id}
use Rattle.pin_words.specs.declared.pin_keeper.Reclaim.TheVariants.{Held}
use Rattle.ob_rights.specs.declared.fault.Fault.{Fault}
use Rattle.ob_rights.specs.declared.fault.Fault.TheVariants as fault
use Rattle.ob_body.specs.declared.body.Body.{Body}
use Rattle.ob_store.specs.Consistent.{IsConsistent}
use Rattle.ob_store.specs.Objects.{Object}
use Rattle.ob_store.specs.State.{Whole, settled}
use Rattle.ob_manager.specs.declared.call.CallOf.TheVariants as calls
use Rattle.ob_manager.specs.declared.reply.Reply.TheVariants.{Reaped}
use Rattle.ob_manager.specs.Outcomes.{Outcome, ◌>>=◌, refuse_if}
use Rattle.ob_manager.specs.Reaping.{if_ended}
use Rattle.ob_manager.specs.Steps.{Step, does, lacks, final}
use Rattle.obman_theorems.specs.Theorems.{IsLeftOpen}

past : (n slot : ℕ) → slot < n → nat_le n slot ≡ false
past n slot within = grind (arith, nat_tests)

module _ (w : Whole) (kept : IsConsistent w) (slot pins : ℕ) (o : Object) where
  -- what the reap of an ended object comes to that is held
  abbrev come : Result Id Fault → Result Outcome Fault
  come ended = ended >>= (λ id. Ok (record { reply = Reaped id (Held pins); state = settled w.state }))

  abbrev reaped : Bool → Option Object → Option Body → Outcome
  reaped out object body = final w.state (refuse_if out fault.Parameter >>= (λ _. come (if_ended object body)))

  stays_held : slot < w.state.limits.slots → slice_index_or w.state.objects slot None ≡ Some o
      → slice_index_or w.state.bodies slot None ≡ None → 0 < pins → pins ≤ w.keeper.shape.max_pins
      → Step w (calls.Reap slot) (Reaped o.id (Held pins)) w
  stays_held within is none some few = search (arith, does, past)

pub left_open : (w : Whole) → IsConsistent w → IsLeftOpen w
left_open w kept = search (arith, lacks, stays_held)
