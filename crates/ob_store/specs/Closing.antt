-- The slots whose objects ended: such an object is in its slot, without a body, until the slot is taken back.
use Rattle.std.specs.Prelude.{ℕ, Bool, true, false, List, Option, Some, None, is_none, is_some, slice_index_or}
use Rattle.ob_body.specs.declared.body.Body.{Body}
use Rattle.ob_store.specs.declared.object_header.ObjectHeader.{ObjectHeader}
use Rattle.ob_store.specs.Objects.{Object}
use Rattle.ob_store.specs.State.{State}

abbrev pub is_closing : Option Object → Option Body → Bool
is_closing None body = false
is_closing (Some object) body = is_none body

-- whether the object in a slot ended
abbrev pub is_closing_in : List (Option Object) → List (Option Body) → ℕ → Bool
is_closing_in objects bodies slot = is_closing (slice_index_or objects slot None) (slice_index_or bodies slot None)

abbrev pub is_closing_at : State → ℕ → Bool
is_closing_at s slot = is_closing_in s.objects s.bodies slot

-- whether no ended object is in the slot
abbrev pub is_open : Option ObjectHeader → Bool
is_open None = true
is_open (Some header) = is_some header.body
