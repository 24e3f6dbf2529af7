-- The counts that are told of each block that leaves go on counting the blocks.
use Rattle.ob_waits.proofs.Cited.{◌≡◌, ℕ, ◌-◌, ◌+◌, ◌<◌, ◌≤◌, List, [], ◌∷◌, length, Option, None, arith, get_or, cond, ◌==◌, length-set, get_or_past, get_or-set_same, get_or-set_other, sum_by-set, sum_by-cons, Id, Wait, CountedBodies, blocks_left, without_block, without_blocks, slot_places, slot_blocks, Scene, effect_at, settled, HasBlocks}
use Rattle.ob_waits.proofs.Settling.{settled_by_effects, ready_within}

pub left_one : (blocks : List ℕ) (id : Id) (k : ℕ)
    → get_or (blocks_left blocks id) k 0 ≡ get_or blocks k 0 - cond (id.slot == k) 1 0
left_one blocks id k = search (arith, get_or-set_other, get_or-set_same, get_or_past, length-set)

pub left_all : (ids : List Id) (objects : CountedBodies) (k : ℕ)
    → get_or (without_blocks objects ids).blocks k 0 ≡ get_or objects.blocks k 0 - slot_places k ids
left_all [] objects k = omega arith
left_all (id ∷ ids) objects k = search (arith, left_one, sum_by-cons, left_all ids (without_block objects id) k)

-- what is stored and what is counted fall alike
pub record Counts (scene after : Scene) : Type 0 where
  pub each : (k : ℕ) → slot_blocks k scene.waits ≤ get_or scene.objects.blocks k 0
      → get_or after.objects.blocks k 0 + slot_blocks k scene.waits ≡ get_or scene.objects.blocks k 0
      + slot_blocks k after.waits

pub counts_at : (scene : Scene) (n : ℕ) (w : Option Wait) → get_or scene.waits n None ≡ w → n < length scene.waits
    → Counts scene (effect_at scene n w)
counts_at = search (arith, left_all, sum_by-set)

-- The theorem: where a slot counts its blocks and more, it still does after settling, by the same more.
pub settled_counts : (scene : Scene) → Counts scene (settled scene)
settled_counts scene = settled_by_effects Counts (search arith) (search arith)
    (search (arith, counts_at, ready_within)) scene

-- and where it counts them, it still does
pub settled_has_blocks : (scene : Scene) → HasBlocks scene → HasBlocks (settled scene)
settled_has_blocks scene has = record { each = λ k. omega (arith, has.each k, (settled_counts scene).each k) }
