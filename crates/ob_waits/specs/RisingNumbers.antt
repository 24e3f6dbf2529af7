-- Lists of numbers in order, among which are the numbers of some waits.
use Rattle.std.specs.Prelude.{◌≡◌, ℕ, ◌-◌, ◌<◌, ◌≤◌, ◌⊎◌, IfSome, ◌==◌, ◌&&◌, nat_lt, length, Bool, true, List, [], Option, None, slice_index_or}
use Rattle.least.specs.From.{IsAtMost}
use Rattle.ob_waits.specs.declared.wait.Wait.{Wait}
use Rattle.ob_waits.specs.Rules.{Within, IsRising, IsSpent}
use Rattle.pin_core.specs.declared.id.Id.{Id}
use Rattle.ob_waits.specs.Waits.{nowhere, Scene, is_pending}

-- the numbers rise, and none is above the last
pub record IsOrdered (last : ℕ) (numbers : List ℕ) : Type 0 where
  pub rising : IsRising numbers
  pub below : (k : ℕ) → Within k numbers → k ≤ last

-- the numbers of all waits that pass the test are there
pub record HasAll (test : Option Wait → Bool) (numbers : List ℕ) (waits : List (Option Wait)) : Type 0 where
  pub each : (n : ℕ) → test (slice_index_or waits n None) ≡ true → Within n numbers

-- the same of the numbers of each slot
abbrev pub numbers_of : List (List ℕ) → ℕ → List ℕ
numbers_of lists slot = slice_index_or lists slot []

pub record AreOrdered (last : ℕ) (lists : List (List ℕ)) : Type 0 where
  pub each : (slot : ℕ) → IsOrdered last (numbers_of lists slot)

-- the numbers of pending waits that were there are there
pub record KeepsPending (waits : List (Option Wait)) (old new : List ℕ) : Type 0 where
  pub each : (k : ℕ) → is_pending (slice_index_or waits k None) ≡ true → Within k old → Within k new

pub record KeepsEach (waits : List (Option Wait)) (old new : List (List ℕ)) : Type 0 where
  pub each : (slot : ℕ) → KeepsPending waits (numbers_of old slot) (numbers_of new slot)

-- a number above the last, such that none of these is between; and none where none of these is above
pub record IsNext (last : ℕ) (numbers : List ℕ) (next : Option ℕ) : Type 0 where
  pub above : IfSome next (λ n. last < n)
  pub least : (k : ℕ) → Within k numbers → last < k → IsAtMost next k

-- the same of the numbers of some objects' slots, but of those that have nothing for who waits
pub record IsNextOf (last : ℕ) (lists : List (List ℕ)) (scene : Scene) (ids : List Id) (next : Option ℕ) : Type 0 where
  pub above : IfSome next (λ n. last < n)
  pub least : (i k : ℕ) → i < length ids → Within k (numbers_of lists (slice_index_or ids i nowhere).slot) → last < k
      → IsAtMost next k ⊎ IsSpent scene.objects.bodies scene.waits (slice_index_or ids i nowhere).slot

-- whether a number is the last of a list
abbrev pub ends_with : ℕ → List ℕ → Bool
ends_with number numbers = nat_lt 0 (length numbers) && (slice_index_or numbers (length numbers - 1) 0 == number)

-- whether the wait of a number is pending
abbrev pub has_pending : List (Option Wait) → ℕ → Bool
has_pending waits number = is_pending (slice_index_or waits number None)

-- a list without some numbers, none of them of a wait that is pending
pub record Thins (waits : List (Option Wait)) (old new : List ℕ) : Type 0 where
  pub rising : IsRising old → IsRising new
  pub only : (k : ℕ) → Within k new → Within k old
  pub keeps : (k : ℕ) → is_pending (slice_index_or waits k None) ≡ true → Within k old → Within k new

pub record ThinsEach (waits : List (Option Wait)) (old new : List (List ℕ)) : Type 0 where
  pub each : (slot : ℕ) → Thins waits (numbers_of old slot) (numbers_of new slot)
