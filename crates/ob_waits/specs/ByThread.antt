-- Waits by number: each stands at its thread, and the thread is found by the number, at a place or in a map.
use Rattle.std.specs.Prelude.{◌≡◌, ℕ, ◌==◌, ◌<◌, ◌≤◌, ◌-◌, ◌^◌, List, Option, Some, None, if◌then◌else◌, nat_eq, slice_index_or}
use Rattle.std.specs.Int.Bits.{bit_and}
use Rattle.std.specs.HashMap.{get}
use Rattle.ob_waits.specs.declared.wait.Wait.{Wait}
use Rattle.ob_waits.specs.declared.wait.State.TheVariants.{Answered}
use Rattle.ob_waits.specs.declared.numbered_wait.NumberedWait.{NumberedWait}
use Rattle.ob_waits.specs.declared.number_map.NumberedThread.{NumberedThread}
use Rattle.ob_waits.specs.declared.number_map.NumberMap.{NumberMap}

-- the place of a number
abbrev pub home : ℕ → ℕ → ℕ
home mask number = bit_and number mask

-- the thread of a number, where it stands at a place; else another
abbrev pub thread_or : ℕ → Option NumberedThread → Option ℕ → Option ℕ
thread_or number None other = other
thread_or number (Some entry) other = if entry.number == number then Some entry.thread else other

-- the thread of a number, wherever that stands
abbrev pub thread_in : ℕ → List (Option NumberedThread) → (ℕ → Option ℕ) → ℕ → Option ℕ
thread_in mask places overflow number = thread_or number (slice_index_or places (home mask number) None) (overflow number)

abbrev pub thread_at : NumberMap → ℕ → Option ℕ
thread_at number_map number = thread_in number_map.mask number_map.places.items (get nat_eq number_map.overflow) number

-- a number stands at its own place, and then it is not in the overflow
pub record IsPlaced (mask : ℕ) (places : List (Option NumberedThread)) (overflow : ℕ → Option ℕ) : Type 0 where
  pub each : (i : ℕ) (entry : NumberedThread) → slice_index_or places i None ≡ Some entry
      → (home mask entry.number ≡ i) × (overflow entry.number ≡ None)

-- and the mask is that of some low bits
pub record IsNumberMap (number_map : NumberMap) : Type 0 where
  pub placed : IsPlaced number_map.mask number_map.places.items (get nat_eq number_map.overflow)
  pub bits : ℕ
  pub mask : number_map.mask ≡ 2 ^ bits - 1

-- no two of some numbers have one place under another mask
pub record AreApart (mask : ℕ) (places : List (Option NumberedThread)) : Type 0 where
  pub apart : (i j : ℕ) (a b : NumberedThread) → slice_index_or places i None ≡ Some a
      → slice_index_or places j None ≡ Some b
      → home mask a.number ≡ home mask b.number → i ≡ j

-- what stands at some places stands at others, at those that it has under another mask, and nothing else does
pub record IsSpread (mask : ℕ) (from to : List (Option NumberedThread)) : Type 0 where
  pub all : (i : ℕ) (entry : NumberedThread) → slice_index_or from i None ≡ Some entry
      → slice_index_or to (home mask entry.number) None ≡ Some entry
  pub only : (i : ℕ) (entry : NumberedThread) → slice_index_or to i None ≡ Some entry
      → (home mask entry.number ≡ i) × ((j : ℕ) × (slice_index_or from j None ≡ Some entry))

-- the number and the wait that stand at a thread
abbrev pub number_at : Option NumberedWait → Option ℕ
number_at None = None
number_at (Some held) = Some held.number

abbrev pub wait_at : Option NumberedWait → Option Wait
wait_at None = None
wait_at (Some held) = Some held.wait

-- the same with the wait answered
abbrev pub answered_at : ℕ → Option NumberedWait → Option NumberedWait
answered_at code None = None
answered_at code (Some held) = Some (record held { wait = record held.wait { state = Answered code } })

-- what stands at a thread, if that is known
abbrev pub wait_of_thread : List (Option NumberedWait) → Option ℕ → Option NumberedWait
wait_of_thread by_thread None = None
wait_of_thread by_thread (Some thread) = slice_index_or by_thread thread None

-- the wait of a number, which stands at the number's thread
abbrev pub found : List (Option NumberedWait) → (ℕ → Option ℕ) → ℕ → Option Wait
found by_thread threads number = wait_at (wait_of_thread by_thread (threads number))

-- a wait that stands at a thread is the thread's, its number was given, and it is found by it
pub record IsOfThread (given : ℕ) (threads : ℕ → Option ℕ) (thread : ℕ) (held : NumberedWait) : Type 0 where
  pub own : held.wait.thread ≡ thread
  pub above_zero : 0 < held.number
  pub fits : held.number ≤ given
  pub known : threads held.number ≡ Some thread

-- and a number whose thread is known has its wait there
pub record AreByThread (given : ℕ) (by_thread : List (Option NumberedWait)) (threads : ℕ → Option ℕ) : Type 0 where
  pub each : (t : ℕ) (held : NumberedWait) → slice_index_or by_thread t None ≡ Some held
      → IsOfThread given threads t held
  pub is_there : (n t : ℕ) → threads n ≡ Some t → number_at (slice_index_or by_thread t None) ≡ Some n
