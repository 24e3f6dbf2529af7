-- A timer that fires is due again after now, if at all, and no later than a period after now.
use Rattle.std.proofs.Common.{◌≡◌, ℕ, ◌+◌, ◌-◌, ◌<◌, ◌≤◌, Option, arith, true, false}
use Rattle.std.proofs.lemmas.Bool.Decides.{nat_tests}
use Rattle.std.proofs.Math.Nat.{div-mul-le_self, lt-div-mul-add}
use Rattle.ob_body.specs.TimerState.{TimerState}
use Rattle.ob_body.specs.Timer.{after_fire, due_again, is_due, next_moment}

pub next_later : (now due units : ℕ) → due ≤ now → 0 < units → now < next_moment now due units
next_later now due units past some = omega (arith, lt-div-mul-add {a = now - due} {b = units} some)

pub next_within : (now due units : ℕ) → due ≤ now → next_moment now due units ≤ now + units
next_within now due units past = omega (arith, div-mul-le_self (now - due) units)

pub again_undue : (now : ℕ) (due : Option ℕ) (period : ℕ) → is_due now due ≡ true
    → is_due now (due_again now due period) ≡ false
again_undue now due period is = grind (arith, nat_tests, next_later)

-- what fired isn't due at that moment
pub fired_undue : (now : ℕ) (t : TimerState) → is_due now (after_fire now t).due ≡ false
fired_undue = grind (arith, again_undue)

-- and is as it was fired again
pub fired_twice : (now : ℕ) (t : TimerState) → after_fire now (after_fire now t) ≡ after_fire now t
fired_twice = search (arith, fired_undue)
