-- To end an object where its last block leaves is to settle first and then end every object to which nothing refers.
use Rattle.ob_waits.proofs.Cited.{at_place, ◌≡◌, ℕ, zero, suc, ◌<◌, List, [], ◌∷◌, length, Option, None, refl, arith, get_or, Bool, true, position_or_len, list_any, length-set, get_or_past, ext_get_or, passes_at_first, nat_tests, Id, Body, Mode, Wait, State, Pending, Answered, CountedBodies, blocks_left, without_block, without_blocks, HasBodies, HasBlocks, all_blocks_left, plain_effect, plain_effect_of, plain_effect_at, settled_plainly, settled_plainly_within, body_ended, ended, with_ends, first_signaled, list_ready, state_ready, is_ready, first_ready, with_acquired, with_all_acquired, bodies_after, code_of, ids_of, state_ids, Scene, effect_of, effect_at, settled, settled_within}
use Rattle.std.proofs.lemmas.List.FromFn.{get_or-map-range_with_len, length-map-range_with_len}
use Rattle.ob_waits.proofs.References.{counts_at}
use Rattle.ob_waits.proofs.Apart.{in_slot, SameAt, named_at, any_agree, first_same, ready_same}
use Rattle.ob_waits.proofs.Counted.{named_counts}

pub ended_at : (objects : CountedBodies) (k : ℕ) → get_or (ended objects).bodies k None ≡ body_ended objects k
ended_at objects k = search (arith, get_or-map-range_with_len, get_or_past, length-map-range_with_len)

pub is_ended : (objects : CountedBodies) (bodies : List (Option Body)) → length bodies ≡ length objects.bodies
    → ((k : ℕ) → get_or bodies k None ≡ body_ended objects k) → bodies ≡ (ended objects).bodies
is_ended objects bodies len each = ext_get_or None bodies (ended objects).bodies
    (search (arith, length-map-range_with_len)) (search (arith, ended_at))

pub length-ended : (objects : CountedBodies) → length (ended objects).bodies ≡ length objects.bodies
length-ended objects = search (arith, length-map-range_with_len)

pub none_to_end : (objects : CountedBodies) → HasBodies objects → objects ≡ ended objects
none_to_end objects has = search (arith, is_ended)

one_ended : (t : ℕ) (objects : CountedBodies) (id : Id) →
    with_acquired t (ended objects).bodies id ≡ (ended
    (record objects { bodies = with_acquired t objects.bodies id })).bodies
one_ended t objects id =
    is_ended _ _ (search (arith, length-ended, length-set)) (grind (arith, nat_tests, at_place, ended_at))

all_ended : (t : ℕ) (ids : List Id) (objects : CountedBodies)
    → with_all_acquired t (ended objects).bodies ids
    ≡ (ended (record objects { bodies = with_all_acquired t objects.bodies ids })).bodies
all_ended t [] objects = refl
all_ended t (id ∷ ids) objects = search (arith, one_ended, with_acquired, all_ended t ids)

-- a block leaves
block_ended : (objects : CountedBodies) (id : Id) → without_block (ended objects) id
    ≡ ended (record objects { blocks = blocks_left objects.blocks id })
block_ended objects id =
    let bodies : (without_block (ended objects) id).bodies ≡ (ended
    (record objects { blocks = blocks_left objects.blocks id })).bodies =
    is_ended _ _ (grind (arith, at_place, length-ended)) (λ k. grind (arith, at_place, ended_at)) in
    search arith

blocks_ended : (ids : List Id) (objects : CountedBodies)
    → without_blocks (ended objects) ids ≡ ended (record objects { blocks = all_blocks_left objects.blocks ids })
blocks_ended [] objects = refl
blocks_ended (id ∷ ids) objects = search (arith, block_ended, blocks_left, blocks_ended ids)

-- each slot that a list names counts a block
abbrev IsReferred : CountedBodies → List Id → Type 0
IsReferred objects ids = (k : ℕ) → list_any (in_slot k) ids ≡ true → 0 < get_or objects.blocks k 0

bodies_same : (objects : CountedBodies) (ids : List Id) → IsReferred objects ids
    → SameAt objects.bodies (ended objects).bodies ids
bodies_same objects ids has k named = search (arith, ended_at)

ready_ended : (objects : CountedBodies) (w : Option Wait) → IsReferred objects (ids_of w)
    → is_ready (ended objects).bodies w ≡ is_ready objects.bodies w
ready_ended objects w has = search (arith, ended_at, ready_same)

first_ended : (t : ℕ) (objects : CountedBodies) (ids : List Id) → IsReferred objects ids
    → first_signaled t (ended objects).bodies ids ≡ first_signaled t objects.bodies ids
first_ended t objects ids has = search (arith, bodies_same, first_same)

-- the code and what is taken are the same
code_ended : (mode : Mode) (t : ℕ) (objects : CountedBodies) (ids : List Id) → IsReferred objects ids
    → list_ready mode t objects.bodies ids ≡ true →
    code_of mode t (ended objects).bodies ids ≡ code_of mode t objects.bodies ids
code_ended mode t objects ids has ready = search (arith, ended_at, first_same, any_agree, named_at)

after_ended : (mode : Mode) (t : ℕ) (objects : CountedBodies) (ids : List Id) → IsReferred objects ids
    → bodies_after mode t (ended objects).bodies ids
    ≡ (ended (record objects { bodies = bodies_after mode t objects.bodies ids })).bodies
after_ended = search (arith, one_ended, all_ended, first_ended)

-- so an effect is a plain effect and ends after it
effect_of_ended : (scene : Scene) (n : ℕ) (w : Wait) (st : State) → IsReferred scene.objects (state_ids st)
    → state_ready w.thread scene.objects.bodies st ≡ true →
    effect_of (with_ends scene) n w st ≡ with_ends (plain_effect_of scene n w st)
effect_of_ended scene n w (Pending mode ids) has ready =
    let code = code_ended mode w.thread scene.objects ids has ready in
    let taken = after_ended mode w.thread scene.objects ids has in
    let left = blocks_ended ids (record scene.objects {
      bodies = bodies_after mode w.thread scene.objects.bodies ids;
    }) in
    search arith
effect_of_ended scene n w (Answered code) has ready = absurd (cc)

effect_at_ended : (scene : Scene) (n : ℕ) (w : Option Wait) → IsReferred scene.objects (ids_of w)
    → is_ready scene.objects.bodies w ≡ true → effect_at (with_ends scene) n w ≡ with_ends (plain_effect_at scene n w)
effect_at_ended = search (arith, effect_of_ended)

referred : (scene : Scene) → HasBlocks scene → (n : ℕ) → IsReferred scene.objects (ids_of (get_or scene.waits n None))
referred scene has n k named = search (arith, named_counts, has.each)

first_pointwise : (p q : Option Wait → Bool) (ws : List (Option Wait))
    → ((k : ℕ) → p (get_or ws k None) ≡ q (get_or ws k None)) → position_or_len p ws ≡ position_or_len q ws
first_pointwise p q [] same = refl
first_pointwise p q (w ∷ ws) same = search (arith, same 0, first_pointwise p q ws (λ k. same (suc k)))

first_ready_ended : (scene : Scene) → HasBlocks scene
    → first_ready (ended scene.objects).bodies scene.waits ≡ first_ready scene.objects.bodies scene.waits
first_ready_ended scene has = search (arith, ready_ended, referred, first_pointwise)

blocks_kept : (scene : Scene) (n : ℕ) → HasBlocks scene → n < length scene.waits
    → is_ready scene.objects.bodies (get_or scene.waits n None) ≡ true → HasBlocks (plain_effect scene n)
blocks_kept scene n has lt ready =
    let moved = counts_at (with_ends scene) n (get_or scene.waits n None) refl lt in
    let same = effect_at_ended scene n (get_or scene.waits n None) (referred scene has n) ready in
    record { each = λ k. search (arith, has.each k, moved.each k) }

lockstep : (fuel : ℕ) (scene : Scene) → HasBlocks scene
    → settled_within fuel (with_ends scene) ≡ with_ends (settled_plainly_within fuel scene)
lockstep zero scene has = refl
lockstep (suc fuel) scene has =
    let on = lockstep fuel (plain_effect scene (first_ready scene.objects.bodies scene.waits)) in
    search (arith, first_ready_ended, passes_at_first, ready_ended, referred, effect_at_ended, blocks_kept, on)

-- ending what nothing refers to before settling is ending it afterwards
pub ends_first : (scene : Scene) → HasBlocks scene → settled (with_ends scene) ≡ with_ends (settled_plainly scene)
ends_first scene counted = lockstep (length scene.waits) scene counted

-- The theorem: where each slot has a body exactly where something refers to its object, and counts its blocks, settling
-- is settling plainly and then ending what nothing refers to.
pub ends_last : (scene : Scene) → HasBodies scene.objects → HasBlocks scene
    → settled scene ≡ with_ends (settled_plainly scene)
ends_last scene has counted = let same = none_to_end scene.objects has in search (arith, ends_first)
