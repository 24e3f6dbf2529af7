-- When a mutex is signaled, and what calls make of it.
use Rattle.std.specs.Prelude.{ℕ, ◌+◌, ◌-◌, ◌==◌, nat_lt, nat_le, Bool, true, false, ◌||◌, not, Option, Some, None, Result, Ok, Err, if◌then◌else◌}
use Rattle.ob_rights.specs.declared.fault.Fault.{Fault}
use Rattle.ob_rights.specs.declared.fault.Fault.TheVariants.{NotOwner}
use Rattle.ob_body.specs.MutexState.{MutexState}

abbrev pub is_owner : ℕ → Option ℕ → Bool
is_owner thread None = false
is_owner thread (Some owner) = owner == thread

abbrev pub is_free : Option ℕ → Bool
is_free None = true
is_free (Some owner) = false

abbrev pub free_mutex : Bool → MutexState
free_mutex abandoned = record { owner = None; recursion = 0; abandoned = abandoned }

abbrev pub owned_mutex : ℕ → ℕ → MutexState
owned_mutex thread recursion = record { owner = Some thread; recursion = recursion; abandoned = false }

-- a new mutex belongs to its creator once, or to nobody
abbrev pub opening : Option ℕ → MutexState
opening None = free_mutex false
opening (Some owner) = owned_mutex owner 1

-- nobody owns it, or this thread does
abbrev pub is_signaled : ℕ → MutexState → Bool
is_signaled thread m = is_free m.owner || is_owner thread m.owner

-- no room is only where the thread owns it as often as the limit lets
abbrev pub has_room : ℕ → ℕ → MutexState → Bool
has_room limit thread m = not (is_owner thread m.owner) || nat_lt m.recursion limit

-- the thread owns it once more, and it is no longer abandoned; another's mutex stays
abbrev pub after_acquire : ℕ → MutexState → MutexState
after_acquire thread m =
    if is_free m.owner then owned_mutex thread 1 else
    (if is_owner thread m.owner then owned_mutex thread (m.recursion + 1) else m)

-- only the owner may release it
abbrev pub unlock_answer : ℕ → MutexState → Result (Unit {0}) Fault
unlock_answer thread m = if is_owner thread m.owner then Ok tt else Err NotOwner

-- its owner owns it once less, and at last nobody does
abbrev pub after_unlock : ℕ → MutexState → MutexState
after_unlock thread m =
    if is_owner thread m.owner
    then (if nat_le m.recursion 1 then free_mutex m.abandoned else record m { recursion = m.recursion - 1 })
    else m

-- its owner ended
abbrev pub after_abandon : ℕ → MutexState → MutexState
after_abandon thread m = if is_owner thread m.owner then free_mutex true else m

abbrev pub after_clear_owner : MutexState → MutexState
after_clear_owner m = free_mutex m.abandoned
