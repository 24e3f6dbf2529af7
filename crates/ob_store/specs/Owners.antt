-- How many mutexes each thread owns, of the threads that are counted.
use Rattle.std.specs.Prelude.{◌≡◌, ℕ, ◌+◌, ◌-◌, ◌≤◌, Bool, List, Option, Some, None, slice_index_or, slice_set, length, count_by}
use Rattle.ob_body.specs.declared.body.Body.{Body}
use Rattle.ob_body.specs.Mutex.{is_owner}
use Rattle.ob_waits.specs.Form.{slot_owner}
use Rattle.ob_store.specs.declared.object_header.ObjectHeader.{ObjectHeader}
use Rattle.ob_store.specs.Objects.{header_body}
use Rattle.ob_store.specs.State.{by_slot}

abbrev pub header_owner : Option ObjectHeader → Option ℕ
header_owner x = slot_owner (header_body x)

abbrev pub is_header_of : ℕ → Option ObjectHeader → Bool
is_header_of thread x = is_owner thread (header_owner x)

-- whether a thread owns the mutex in a slot
abbrev pub owns_at : ℕ → List (Option Body) → ℕ → Bool
owns_at thread bodies slot = is_owner thread (slot_owner (slice_index_or bodies slot None))

abbrev pub owned_left : List ℕ → Option ℕ → List ℕ
owned_left counts None = counts
owned_left counts (Some t) = slice_set counts t (slice_index_or counts t 0 - 1)

abbrev pub owned_came : List ℕ → Option ℕ → List ℕ
owned_came counts None = counts
owned_came counts (Some t) = slice_set counts t (slice_index_or counts t 0 + 1)

-- a mutex had one owner, and has another
abbrev pub owned_moved : List ℕ → Option ℕ → Option ℕ → List ℕ
owned_moved counts before after = owned_came (owned_left counts before) after

pub record IsOwned (headers : List (Option ObjectHeader)) (counts : List ℕ) : Type 0 where
  pub counted : counts ≡ by_slot (length counts) (λ t. count_by (is_header_of t) headers)
  pub at_most : length headers ≤ 65536
