-- When a semaphore is signaled, and what calls make of it.
use Rattle.std.specs.Prelude.{ℕ, ◌+◌, ◌-◌, nat_lt, Bool, Result, Ok, Err, if◌then◌else◌}
use Rattle.ob_rights.specs.declared.fault.Fault.{Fault}
use Rattle.ob_rights.specs.declared.fault.Fault.TheVariants.{Posts}
use Rattle.ob_body.specs.SemaphoreState.{SemaphoreState}

-- while its count is above 0
abbrev pub is_signaled : SemaphoreState → Bool
is_signaled s = nat_lt 0 s.count

abbrev pub after_acquire : SemaphoreState → SemaphoreState
after_acquire s = record s { count = s.count - 1 }

-- whether a release by this count passes the maximum
abbrev pub is_past : ℕ → SemaphoreState → Bool
is_past count s = nat_lt s.maximum (s.count + count)

-- the count before the release
abbrev pub post_answer : ℕ → SemaphoreState → Result ℕ Fault
post_answer count s = if is_past count s then Err Posts else Ok s.count

abbrev pub after_post : ℕ → SemaphoreState → SemaphoreState
after_post count s = if is_past count s then s else record s { count = s.count + count }
