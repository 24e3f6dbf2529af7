-- The same settling told in two steps: first waits are satisfied and only their blocks leave; then each object to which
-- nothing refers ends.
use Rattle.std.specs.Prelude.{◌≡◌, ℕ, zero, suc, ◌+◌, ◌==◌, nat_lt, List, [], ◌∷◌, Option, Some, None, if◌then◌else◌, slice_index_or, slice_set, length, map}
use Rattle.std.specs.List.{range_with_len}
use Rattle.pin_core.specs.declared.id.Id.{Id}
use Rattle.ob_body.specs.declared.body.Body.{Body}
use Rattle.ob_waits.specs.declared.wait.Wait.{Wait}
use Rattle.ob_waits.specs.declared.wait.State.{State}
use Rattle.ob_waits.specs.declared.wait.State.TheVariants.{Pending, Answered}
use Rattle.ob_waits.specs.CountedBodies.{CountedBodies, blocks_left}
use Rattle.ob_waits.specs.Waits.{Scene, bodies_after, code_of, answered_wait, first_ready, slot_blocks}

-- each slot counts the places of pending waits that name it
pub record HasBlocks (scene : Scene) : Type 0 where
  pub each : (k : ℕ) → slice_index_or scene.objects.blocks k 0 ≡ slot_blocks k scene.waits

-- the counts once the blocks of a list have left
abbrev pub all_blocks_left : List ℕ → List Id → List ℕ
all_blocks_left blocks [] = blocks
all_blocks_left blocks (id ∷ ids) = all_blocks_left (blocks_left blocks id) ids

-- a wait takes effect, and no object ends by it
abbrev pub plain_effect_of : Scene → ℕ → Wait → State → Scene
plain_effect_of scene number wait (Pending mode ids) = record {
  objects = record scene.objects {
    bodies = bodies_after mode wait.thread scene.objects.bodies ids;
    blocks = all_blocks_left scene.objects.blocks ids;
  };
  waits = slice_set scene.waits number (answered_wait wait (code_of mode wait.thread scene.objects.bodies ids));
}
plain_effect_of scene number wait (Answered code) = scene

abbrev pub plain_effect_at : Scene → ℕ → Option Wait → Scene
plain_effect_at scene number None = scene
plain_effect_at scene number (Some wait) = plain_effect_of scene number wait wait.state

abbrev pub plain_effect : Scene → ℕ → Scene
plain_effect scene number = plain_effect_at scene number (slice_index_or scene.waits number None)

-- as long as a wait is ready, and at most this often, the one of least number takes effect
abbrev pub settled_plainly_within : ℕ → Scene → Scene
settled_plainly_within zero scene = scene
settled_plainly_within (suc n) scene =
    let number = first_ready scene.objects.bodies scene.waits in
    if nat_lt number (length scene.waits) then settled_plainly_within n (plain_effect scene number) else scene

abbrev pub settled_plainly : Scene → Scene
settled_plainly scene = settled_plainly_within (length scene.waits) scene

-- no body where nothing refers to the slot's object
abbrev pub slot_ended : ℕ → ℕ → Option Body → Option Body
slot_ended handles blocks body = if handles + blocks == 0 then None else body

abbrev pub body_ended : CountedBodies → ℕ → Option Body
body_ended objects k = slot_ended (slice_index_or objects.handles k 0) (slice_index_or objects.blocks k 0)
    (slice_index_or objects.bodies k None)

-- each object to which nothing refers has ended
abbrev pub ended : CountedBodies → CountedBodies
ended objects = record objects { bodies = map (body_ended objects) (range_with_len 0 (length objects.bodies)) }

abbrev pub with_ends : Scene → Scene
with_ends scene = record scene { objects = ended scene.objects }
