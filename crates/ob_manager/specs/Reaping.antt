-- Taking slots back.
use Rattle.std.specs.Prelude.{ℕ, nat_le, Option, Some, None, Result, Ok, Err, slice_index_or}
use Rattle.pin_core.specs.declared.id.Id.{Id}
use Rattle.pin_words.specs.declared.pin_keeper.Reclaim.{Reclaim}
use Rattle.ob_rights.specs.declared.fault.Fault.{Fault}
use Rattle.ob_rights.specs.declared.fault.Fault.TheVariants as fault
use Rattle.ob_body.specs.declared.body.Body.{Body}
use Rattle.ob_manager.specs.declared.call.CallOf.{CallOf}
use Rattle.ob_manager.specs.declared.call.CallOf.TheVariants as calls
use Rattle.ob_manager.specs.declared.reply.Reply.{Reply}
use Rattle.ob_manager.specs.declared.reply.Reply.TheVariants.{Reaped}
use Rattle.ob_store.specs.Objects.{Object}
use Rattle.ob_store.specs.State.{State, settled}
use Rattle.ob_store.specs.Moves.{after_reclaim}
use Rattle.ob_manager.specs.Outcomes.{Outcome, ◌>>=◌, refuse_if}

-- the Id of an ended object, else 6
abbrev pub if_ended : Option Object → Option Body → Result Id Fault
if_ended None body = Err fault.Handle
if_ended (Some o) None = Ok o.id
if_ended (Some o) (Some body) = Err fault.Handle

-- what a reap comes to, by what became of the slot: that is the keeper's choice
abbrev pub reap : State → ℕ → Reclaim → Result Outcome Fault
reap s slot outcome = do
  _ ← refuse_if (nat_le s.limits.slots slot) fault.Parameter
  id ← if_ended (slice_index_or s.objects slot None) (slice_index_or s.bodies slot None)
  Ok (record { reply = Reaped id outcome; state = settled (after_reclaim s slot outcome) })

-- where a slot is asked for, and where the reply says what became of it
abbrev pub IfReap : {M T H : Type 0} → CallOf M T H → (ℕ → Type 0) → Type 0
IfReap (calls.Reap slot) P = P slot
IfReap call P = Unit {0}

abbrev pub IfReaped : Reply → (Reclaim → Type 0) → Type 0
IfReaped (Reaped id outcome) P = P outcome
IfReaped reply P = Unit {0}
