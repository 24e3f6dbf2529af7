-- What waits keep, and what settling asks of them.
use Rattle.std.specs.Prelude.{◌≡◌, ℕ, ◌+◌, ◌⊎◌, ◌<◌, ◌≤◌, ◌==◌, Bool, nat_lt, is_some, true, false, List, [], ◌∷◌, Option, Some, None, length, slice_index_or}
use Rattle.pin_core.specs.declared.id.Id.{Id}
use Rattle.ob_body.specs.declared.body.Body.{Body}
use Rattle.ob_waits.specs.declared.wait.Mode.{Mode}
use Rattle.ob_waits.specs.declared.wait.Mode.TheVariants.{All}
use Rattle.ob_waits.specs.declared.wait.Wait.{Wait}
use Rattle.ob_waits.specs.declared.wait.State.{State}
use Rattle.ob_waits.specs.declared.wait.State.TheVariants.{Pending, Answered}
use Rattle.ob_waits.specs.CountedBodies.{CountedBodies, slot_room, slot_signaled}
use Rattle.ob_waits.specs.Waits.{nowhere, Scene, has_slot, is_code, is_pending, is_ready, ids_of}

-- each object of a list has room for the thread
pub record HasRoom (limit thread : ℕ) (bodies : List (Option Body)) (ids : List Id) : Type 0 where
  pub each : (i : ℕ) → i < length ids → slot_room limit thread
      (slice_index_or bodies (slice_index_or ids i nowhere).slot None) ≡ true

-- no two places of a list name one slot
pub record IsDistinct (ids : List Id) : Type 0 where
  pub apart : (i j : ℕ) → i < j → j < length ids →
      ((slice_index_or ids i nowhere).slot ≡ (slice_index_or ids j nowhere).slot → ⊥)

-- a list that a thread may wait for, of 64 objects at most: for any of them, which may be none, or for all, each once
pub record IsWaitable (mode : Mode) (ids : List Id) : Type 0 where
  pub not_empty : mode ≡ All → 0 < length ids
  pub at_most : length ids ≤ 64
  pub once : mode ≡ All → IsDistinct ids

abbrev pub StateWaitable : State → Type 0
StateWaitable (Pending mode ids) = IsWaitable mode ids
StateWaitable (Answered code) = is_code code ≡ true

abbrev pub WaitWaitable : Option Wait → Type 0
WaitWaitable None = Unit {0}
WaitWaitable (Some wait) = StateWaitable wait.state

abbrev pub thread_of : Option Wait → Option ℕ
thread_of None = None
thread_of (Some wait) = Some wait.thread

-- every pending wait may be waited for, each answered one has a code that can be, and a thread has one wait
pub record WaitsInvariant (waits : List (Option Wait)) : Type 0 where
  pub each : (n : ℕ) → WaitWaitable (slice_index_or waits n None)
  pub one_each : (n m t : ℕ) → thread_of (slice_index_or waits n None) ≡ Some t
      → thread_of (slice_index_or waits m None) ≡ Some t → n ≡ m

abbrev pub WaitHasRoom : ℕ → List (Option Body) → Option Wait → Type 0
WaitHasRoom limit bodies None = Unit {0}
WaitHasRoom limit bodies (Some wait) = HasRoom limit wait.thread bodies (ids_of (Some wait))

-- no pending wait is for a mutex that its thread owns as often as the limit lets
pub record WaitsHaveRoom (limit : ℕ) (bodies : List (Option Body)) (waits : List (Option Wait)) : Type 0 where
  pub each : (n : ℕ) → WaitHasRoom limit bodies (slice_index_or waits n None)

-- what settling needs of the waits and the bodies, and keeps
pub record Fits (limit : ℕ) (bodies : List (Option Body)) (waits : List (Option Wait)) : Type 0 where
  pub kept : WaitsInvariant waits
  pub room : WaitsHaveRoom limit bodies waits

-- no pending wait is ready
pub record IsSettled (bodies : List (Option Body)) (waits : List (Option Wait)) : Type 0 where
  pub each : (n : ℕ) → is_ready bodies (slice_index_or waits n None) ≡ false

-- no wait was ready at some bodies, and since then only slots that pass the test came to be signaled for a thread
pub record IsReadyBy (changed : ℕ → Bool) (bodies : List (Option Body)) (waits : List (Option Wait)) : Type 0 where
  pub before : List (Option Body)
  pub settled : IsSettled before waits
  pub less : (t k : ℕ) → changed k ≡ false
      → slot_signaled t (slice_index_or bodies k None) ≡ true → slot_signaled t (slice_index_or before k None) ≡ true

-- each wait that is ready is so by the slot
abbrev pub IsReadyAt : ℕ → List (Option Body) → List (Option Wait) → Type 0
IsReadyAt slot bodies waits = IsReadyBy (λ k. k == slot) bodies waits

-- of these objects, none that is outside of a slot is signaled for the thread, where the slot is given
pub record IsOnlyIn (slot : Option ℕ) (thread : ℕ) (bodies : List (Option Body)) (ids : List Id) : Type 0 where
  pub others : (s i : ℕ) → slot ≡ Some s → i < length ids → ((slice_index_or ids i nowhere).slot ≡ s → ⊥)
      → slot_signaled thread (slice_index_or bodies (slice_index_or ids i nowhere).slot None) ≡ false

-- or by the slot of one of some objects
abbrev pub IsReadyAtOne : List Id → List (Option Body) → List (Option Wait) → Type 0
IsReadyAtOne ids bodies waits = IsReadyBy (has_slot ids) bodies waits

-- what is in the slot is signaled for no thread that has a pending wait
abbrev pub IsSpent : List (Option Body) → List (Option Wait) → ℕ → Type 0
IsSpent bodies waits slot = (n t : ℕ) → thread_of (slice_index_or waits n None) ≡ Some t
    → is_pending (slice_index_or waits n None) ≡ true → slot_signaled t (slice_index_or bodies slot None) ≡ false

-- a list of numbers has this one
abbrev pub Within : ℕ → List ℕ → Type 0
Within n [] = ⊥
Within n (m ∷ ns) = (n ≡ m) ⊎ Within n ns

-- the numbers rise
abbrev pub IsRising : List ℕ → Type 0
IsRising [] = Unit {0}
IsRising (m ∷ ns) = ((k : ℕ) → Within k ns → m < k) × IsRising ns

-- the numbers of all waits that are ready are there
pub record Covers (ns : List ℕ) (scene : Scene) : Type 0 where
  pub each : (n : ℕ) → is_ready scene.objects.bodies (slice_index_or scene.waits n None) ≡ true → Within n ns

-- a slot has a body exactly where something refers to its object
pub record HasBodies (objects : CountedBodies) : Type 0 where
  pub each : (k : ℕ) → is_some (slice_index_or objects.bodies k None)
      ≡ nat_lt 0 (slice_index_or objects.handles k 0 + slice_index_or objects.blocks k 0)
