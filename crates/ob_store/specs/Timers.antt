-- When the timer in each slot is due, and what is kept beside the objects.
use Rattle.std.specs.Prelude.{◌≡◌, ◌<◌, ◌≤◌, ℕ, Bool, List, Option, Some, None, IsSome, length, map, slice_index_or, slice_set}
use Rattle.ob_name.specs.Names.{ObjectName}
use Rattle.ob_waits.specs.Form.{slot_due}
use Rattle.ob_store.specs.declared.label.Label.{Label}
use Rattle.ob_store.specs.declared.object_header.ObjectHeader.{ObjectHeader}
use Rattle.ob_store.specs.Objects.{header_body}
use Rattle.ob_store.specs.Closing.{is_open}
use Rattle.ob_store.specs.Owners.{IsOwned}

abbrev pub header_due : Option ObjectHeader → Option ℕ
header_due x = slot_due (header_body x)

-- a body that was due then went
abbrev pub due_left : List (Option ℕ) → ℕ → Option ℕ → List (Option ℕ)
due_left dues slot None = dues
due_left dues slot (Some due) = slice_set dues slot None

-- the mutexes of each thread are counted, each slot's due moment is known and whether its object ended; each slot with
-- an object has a label and a place for a name, and there is room for those of all slots
pub record AreNoted (headers : List (Option ObjectHeader)) (counts : List ℕ) (dues : List (Option ℕ))
    (opens : List Bool)
    (labels : List Label) (names : List (Option ObjectName)) (places : ℕ) : Type 0 where
  pub owned : IsOwned headers counts
  pub timed : dues ≡ map header_due headers
  pub opened : opens ≡ map is_open headers
  pub labelled : (k : ℕ) → IsSome (slice_index_or headers k None) → k < length labels
  pub named : length names ≡ length labels
  pub room : length headers ≤ places
