-- What is due is still to come, and a tick to it is made.
use Rattle.std.proofs.Common.{◌≡◌, ◌<◌, ◌≤◌, ◌∙◌, ℕ, List, [], ◌∷◌, Option, Some, None, ◌++◌, map, get_or, sym, ap, arith, inl, inr, refl}
use Rattle.std.specs.Prelude.{◌⊎◌}
use Rattle.std.proofs.Math.ListN.{get_or-map}
use Rattle.std.proofs.lemmas.Bool.Decides.{nat_tests}
use Rattle.least.specs.Dues.{IsLeast}
use Rattle.ob_waits.specs.Form.{slot_due}
use Rattle.ob_waits.specs.Deadlines.{deadline_of}
use Rattle.ob_store.specs.Consistent.{IsConsistent}
use Rattle.ob_store.specs.Dues.{dues_of, reached}
use Rattle.ob_store.specs.State.{Whole}
use Rattle.ob_store.specs.Ticks.{last_moment}
use Rattle.ob_rights.specs.declared.fault.Fault.TheVariants as fault
use Rattle.ob_manager.specs.declared.call.CallOf.TheVariants as calls
use Rattle.ob_manager.specs.declared.reply.Reply.{Reply}
use Rattle.ob_manager.specs.declared.reply.Reply.TheVariants.{Ticked, Refused}
use Rattle.ob_manager.specs.Steps.{Step}
use Rattle.obman_c_base.specs.Made.{Makes}
use Rattle.obman_c_base.specs.declared.owned.OwnedManager.{OwnedManager}
use Rattle.obman_c.specs.Telling.{status_of}
use Rattle.obman_c.specs.Timing.{Advances, Serves, none}
use Rattle.obman_c.proofs.Told.{tells}

-- what can be reached is due by then
reached_here : (x : Option ℕ) (due : ℕ) → reached x ≡ Some due → (x ≡ Some due) × (due ≤ last_moment)
reached_here x due is = grind (arith, nat_tests)

either : (xs ys : List (Option ℕ)) (place due : ℕ) → get_or (xs ++ ys) place None ≡ Some due
    → (get_or xs place None ≡ Some due) ⊎ ((k : ℕ) × (get_or ys k None ≡ Some due))
either [] ys place due is = inr (place, is)
either (x ∷ xs) ys place due is = grind (arith, either xs ys)

-- a moment that is due is after now
pub due_after : (w : Whole) (due : ℕ) → IsConsistent w → IsLeast (dues_of w.state) (Some due)
    → (w.state.clock < due) × (due ≤ last_moment)
due_after w due consistent least =
    let timers = map slot_due w.state.bodies in
    let waits = map deadline_of w.state.waits in
    let here = reached_here _ due (sym (get_or-map reached (timers ++ waits) least.stands.0 None) ∙ least.stands.1) in (
      elim (either timers waits least.stands.0 due here.0) [
        | inl e ↦ rw (← get_or-map slot_due w.state.bodies least.stands.0 None, e) at (consistent.formed.later least.stands.0)
        | inr e ↦ rw (← get_or-map deadline_of w.state.waits e.0 None, e.1) at (consistent.ahead.each e.0)
      ],
      here.1,
    )

-- a tick that goes neither back nor past the last moment is made
pub goes : (w v : Whole) (now : ℕ) (reply : Reply) → w.state.clock ≤ now → now ≤ last_moment
    → Step w (calls.Tick now) reply v → (reply ≡ Ticked now) × (v.state.clock ≡ now)
goes w v now reply later last step = grind (arith, nat_tests)

-- a tick past the last moment is refused
pub past_last : (w v : Whole) (now : ℕ) (reply : Reply) → last_moment < now → Step w (calls.Tick now) reply v
    → reply ≡ Refused fault.Parameter
past_last w v now reply past step = grind (arith, nat_tests)

pub advances : {old between new : OwnedManager} {moment status : ℕ} {reply : Reply} → moment ≤ last_moment
    → Serves moment old between
    → ((due : ℕ) → IsLeast (dues_of between.manager.state) (Some due) → moment ≤ due)
    → (between ≡ old) ⊎ (between.manager.state.clock < moment) → Makes between (calls.Tick moment) reply new
    → status ≡ status_of reply → Advances old moment status new
advances {between = between} last served all still made told = record {
  between = between;
  served = served;
  told = tells made told;
  all = λ _. all;
  refused = λ fails. grind (arith, goes, made.step);
}

pub advances_none : {old new : OwnedManager} {moment status : ℕ} {reply : Reply} → last_moment < moment
    → Makes old (calls.Tick moment) reply new → status ≡ status_of reply → Advances old moment status new
advances_none {old = old} past made told = record {
  between = old;
  served = none;
  told = tells made told;
  all = λ done. absurd (cc (sym done ∙ told ∙ ap status_of (past_last _ _ _ _ past made.step)));
  refused = λ _. refl;
}
