-- An ended object leaves its slot, to which nothing refers.
use Rattle.ob_store.proofs.Cited.{◌≡◌, ℕ, ◌+◌, ◌<◌, List, None, arith, get_or, set, map, Bool, true, is_some, map-set_same, opening_slot, ObjectsState, places_in, with_keeper, without_header, PartsState, state_of, whole_of, Whole, generation_of, StoreInvariant, length-set, set-get_or, KeeperState, ObjectsInvariant}
use Rattle.ob_store.proofs.AgreeLaws.{slot_at}
use Rattle.std.proofs.Math.ListN.{get_or-map}
use Rattle.std.proofs.lemmas.List.{map-set}
use Rattle.pin_core.specs.declared.word.Phase.TheVariants as phase
use Rattle.pin_core.specs.Events.{reclaimed}
use Rattle.pin_words.specs.Keepers.{opened_again}
use Rattle.pin_words.specs.declared.pin_keeper.Reclaim.{Reclaim}
use Rattle.pin_words.specs.declared.pin_keeper.Reclaim.TheVariants.{Freed, Retired, Held}
use Rattle.ob_store.specs.Agreement.{Reclaimed}
use Rattle.ob_store.specs.Moves.{after_reclaim}
use Rattle.ob_store.proofs.EndLaws.{some_set}
use Rattle.ob_store.proofs.NamedLaws.{named_left}
use Rattle.ob_store.proofs.ListingLaws.{listing_left, placed_agreed}
use Rattle.ob_store.proofs.PlacedLaws.{placed_there, own_handles, own_blocks, unreferenced}

module _ (p : PartsState) (kept : StoreInvariant p) (tied : ObjectsInvariant p.objects)
    (k : ℕ) (w : Whole) (view : whole_of p ≡ w) (there : is_some (get_or w.state.objects k None) ≡ true)
    (bodiless : get_or w.state.bodies k None ≡ None) where
  abbrev o : ObjectsState
  o = p.objects

  -- the object leaves, whatever is said of the slot then
  module _ (retired : List Bool) (keeper : KeeperState) (shape : keeper.shape ≡ p.objects.keeper.shape) where
    kept_left : StoreInvariant (record p {
      objects = with_keeper (record (without_header (places_in p.objects) k) {
        retired =
            retired;
      }) p.objects.births keeper;
    })
    kept_left =
        search (arith, unreferenced, length-set, listing_left, named_left, own_blocks, own_handles, placed_agreed, placed_there, set-get_or, some_set)

  -- what is kept, whatever the answer is
  pub kept_reclaimed : (answer : Reclaim) (q : ObjectsState) → Reclaimed p.objects k answer q
      → StoreInvariant (record p { objects = q })
  kept_reclaimed Freed q h = rw h.0 (kept_left _ _ (λ i. (h.1.0 i).shape))
  kept_reclaimed Retired q h = rw h.0 (kept_left _ _ (λ i. (h.1.0 i).shape))
  kept_reclaimed (Held n) q h = search (arith, h.0, h.1.0, kept.sound, kept.populated, kept.settled)

  abbrev max_gen : ℕ
  max_gen = o.keeper.shape.max_gen

  -- a slot that is freed has the next generation
  aged : (slot_at p.objects k).generation < max_gen
      → map generation_of (opened_again p.objects.keeper k).slots
      ≡ set (map generation_of p.objects.keeper.slots) k (get_or (map generation_of p.objects.keeper.slots) k 1 + 1)
  aged below =
      let next : generation_of (reclaimed max_gen (slot_at o k)) ≡ (slot_at o k).generation + 1 = search (arith, phase.Free, phase.Retired) in
      cc (map-set generation_of o.keeper.slots k (reclaimed max_gen (slot_at o k)), next, get_or-map generation_of o.keeper.slots k opening_slot)

  -- the state, whatever the answer is
  pub reclaimed_state : (answer : Reclaim) (t : ObjectsState) → Reclaimed p.objects k answer t
      → state_of (record p { objects = t }) ≡ after_reclaim (state_of p) k answer
  reclaimed_state = search (arith, aged, map-set_same, o.keeper.slots, set-get_or)
