-- A slot of which something is held isn't taken back.
use Rattle.ob_console.proofs.Cited.{◌≡◌, ℕ, ◌<◌, List, None, Some, get_or, position, arith, Id, tally, same_id, Reclaim, ReaderView, is_of_slot, IsConsistent, IsMet, Whole, settled, Reply, Reaped, IfReaped, Step, SparesHeld, IsLooked}
use Rattle.std.proofs.lemmas.List.Quantifiers.{position-Some}
use Rattle.std.proofs.lemmas.Option.{none-some}
use Rattle.pin_core.proofs.Counts.{none-found, some-at}
use Rattle.pin_core.proofs.Moves.{same_id-same}
use Rattle.pin_words.specs.Keepers.{ReclaimsFound}
use Rattle.ob_waits.proofs.Writes.{set_none}
use Rattle.ob_store.specs.Moves.{after_reclaim}
use Rattle.ob_manager.specs.declared.call.CallOf.TheVariants as calls
use Rattle.ob_console.proofs.Found.{met_found}

pub there : (slot : ℕ) (held : List Id) (at : ℕ) (d : Id) → position (is_of_slot slot) held ≡ Some at
    → ((get_or held at d).slot ≡ slot) × (0 < tally (same_id (get_or held at d)) held)
there slot held at d found = search (arith, position-Some, same_id-same, some-at)

pub nowhere : (slot : ℕ) (held : List Id) → position (is_of_slot slot) held ≡ None → tally (is_of_slot slot) held ≡ 0
nowhere slot held none = none-found (is_of_slot slot) held none

-- what a reap leaves
after : (w v : Whole) (slot : ℕ) (id : Id) (outcome : Reclaim) → Step w (calls.Reap slot) (Reaped id outcome) v
    → v.state ≡ settled (after_reclaim w.state slot outcome)
after w v slot id outcome step = grind arith

-- a reap tells of the slot that it was asked for
pub looked : (w v : Whole) (slot : ℕ) (reply : Reply) → IsConsistent w → Step w (calls.Reap slot) reply v
    → IfReaped reply (λ outcome. ReclaimsFound w.keeper slot outcome v.keeper) → IsLooked w.keeper reply v.keeper
looked w v slot reply consistent step exact = grind arith

-- no reply takes back a slot of which something is held: who meets the keeper there finds its object
pub spares : (w v : Whole) (r r' : ReaderView) (id : Id) (reply : Reply) → Step w (calls.Reap id.slot) reply v
    → IsConsistent v → id.slot < v.state.limits.slots → 0 < tally (same_id id) r.held → IsMet v.keeper r id.slot r'
    → IfReaped reply (SparesHeld r.held id.slot)
spares w v r r' id reply step consistent inside held met =
    grind (arith, after, met_found v r r' id consistent inside held met, none-some, set_none)

-- where nothing is held
pub spares_none : (held : List Id) (slot : ℕ) (reply : Reply) → tally (is_of_slot slot) held ≡ 0
    → IfReaped reply (SparesHeld held slot)
spares_none held slot reply none = grind arith
