-- What calls do to bodies takes nothing for a thread.
use Rattle.ob_store.proofs.Cited.{◌≡◌, ℕ, arith, true, Body, Yields, is_signaled, after_set, after_reset, after_post, after_unlock, after_arm, after_disarm}
use Rattle.ob_store.proofs.TimerLaws.{fired_later}

pub set_yields : (clock : ℕ) (b : Body) → Yields clock b (after_set b)
set_yields clock b = search arith

pub reset_yields : (clock : ℕ) (b : Body) → Yields clock b (after_reset b)
reset_yields clock b = search arith

-- nothing is signaled by a reset
pub reset_less : (b : Body) (t : ℕ) → is_signaled t (after_reset b) ≡ true → is_signaled t b ≡ true
reset_less = search arith

pub post_yields : (clock count : ℕ) (b : Body) → Yields clock b (after_post count b)
post_yields clock count b = search arith

pub unlock_yields : (clock u : ℕ) (b : Body) → Yields clock b (after_unlock u b)
unlock_yields clock u b = search arith

pub arm_yields : (clock due period : ℕ) (b : Body) → Yields clock b (after_arm due clock period b)
arm_yields = search (arith, fired_later)

-- or cancelled
pub disarm_yields : (clock : ℕ) (b : Body) → Yields clock b (after_disarm b)
disarm_yields = search arith

-- nothing is signaled by it
pub disarm_less : (b : Body) (t : ℕ) → is_signaled t (after_disarm b) ≡ true → is_signaled t b ≡ true
disarm_less = search arith
