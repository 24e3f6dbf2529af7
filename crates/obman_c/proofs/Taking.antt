-- What a wait that is answered, and a slot whose object has ended, are told as.
use Rattle.std.proofs.Common.{◌≡◌, ◌∙◌, ℕ, true, Some, None, slice_index_or, ap, arith}
use Rattle.std.proofs.lemmas.Bool.Decides.{nat_tests}
use Rattle.pin_core.specs.declared.id.Id.{Id}
use Rattle.pin_words.specs.declared.pin_keeper.Reclaim.{Reclaim}
use Rattle.ob_waits.specs.declared.wait.WaitState.TheVariants.{Answered}
use Rattle.ob_waits.specs.Waits.{state_at}
use Rattle.ob_store.specs.Closing.{is_closing_at}
use Rattle.ob_store.specs.Consistent.{IsConsistent}
use Rattle.ob_store.specs.Kept.{IsThere}
use Rattle.ob_store.specs.State.{Whole}
use Rattle.ob_store.specs.Waiting.{wait_number}
use Rattle.ob_store.proofs.NamedLaws.{there_within}
use Rattle.ob_manager.specs.declared.call.CallOf.TheVariants as calls
use Rattle.ob_manager.specs.declared.reply.Reply.{Reply}
use Rattle.ob_manager.specs.declared.reply.Reply.TheVariants.{Code, Reaped}
use Rattle.ob_manager.specs.Steps.{Step, reclaim_in}
use Rattle.obman_c.specs.declared.values.Reaping.{Reaping}
use Rattle.obman_c.specs.Telling.{reaping_in}

-- an answer that is there is what wait_result tells
pub answered : (w v : Whole) (wait code : ℕ) (reply : Reply)
    → state_at (slice_index_or w.state.waits (wait_number w.state wait) None) ≡ Some (Answered code)
    → Step w (calls.WaitResult wait) reply v → reply ≡ Code code
answered w v wait code reply is step = grind arith

-- an object that has ended is reaped
pub reaped : (w v : Whole) (id : Id) (reply : Reply) → IsConsistent w → IsThere w.state.objects id
    → is_closing_at w.state id.slot ≡ true → Step w (calls.Reap id.slot) reply v
    → reply ≡ Reaped id (reclaim_in reply)
reaped w v id reply consistent there ended step =
    grind (arith, nat_tests, there_within w.state.objects id there, consistent.sizes.0)

-- and so it is told, whatever stood at the place
pub told_as : {reply : Reply} {id : Id} {outcome : Reclaim} {told : Reaping} (before : Reaping)
    → reply ≡ Reaped id outcome → told ≡ reaping_in reply before
    → told ≡ reaping_in (Reaped id outcome) told
told_as before is value = value ∙ ap (λ (r : Reply). reaping_in r before) is
