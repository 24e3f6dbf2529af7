-- Objects that are kept are read again as they were written.
use Rattle.ob_store.proofs.Cited.{at_place, nat_tests, ◌≡◌, ℕ, ◌<◌, Bool, false, List, [], ◌∷◌, ◌++◌, length, map, Option, None, Ok, refl, ap, ◌∙◌, arith, AllByRecursion, range_with_len, ext_get_or, length-map, get_or-map-range_with_len, length-map-range_with_len, sum_by-cons, Shape, Slot, opening_slot, slot_of, Body, Rows, Entry, IsBounded, WaitList, Limits, SavedSlot, Agrees, ObjectsInvariant, made_in, Object, ObjectsState, Places, places_in, with_blocks, shape_of, sum_by, counting_all, AreOfLive, IsCounted, IsListing, IsNamed, object_saved, objects_at, objects_text, slots_saved, whole_at, SlotFits, body_from, fresh_slot, keeper_slot, objects_from, places_from, slots_at, replicate, uncounted, IsQuiet, begun_over, body_in, is_retired}
use Rattle.ob_store.proofs.ByPlace.{map_at}
use Rattle.ob_store.proofs.BySlot.{zero_counts}
use Rattle.ob_store.proofs.CountingLaws.{counting_again}
use Rattle.ob_store.proofs.FittingLaws.{saved_at, saved_long}
use Rattle.ob_store.proofs.SavedCodecs.{rows_codec}
use Rattle.ob_store.proofs.SavedKeptLaws.{all_taken, blocks_counted}
use Rattle.ob_store.proofs.SavedLaws.{object-at, objects-long}
use Rattle.ob_store.proofs.SavedNameLaws.{names_complete}
use Rattle.ob_store.proofs.SavedObjectLaws.{bodied_again}
use Rattle.ob_store.proofs.SavedOrderLaws.{births_again}

sum_map : {A B : Type 0} (f : B → ℕ) (g : A → B) (xs : List A) → sum_by f (map g xs) ≡ sum_by (λ x. f (g x)) xs
sum_map f g [] = refl
sum_map f g (x ∷ xs) = search (arith, sum_by-cons, sum_map f g xs)

one-body : (k : ℕ) (x : Option Object) (b : Option Body) (r : Bool) (y : Slot) → Agrees k x b r y →
    body_in (object_saved x b) ≡ b
one-body = search arith

module _ (s : ObjectsState) (tied : ObjectsInvariant s) where
  abbrev n : ℕ
  n = s.keeper.shape.slots

  abbrev xs : List SavedSlot
  xs = slots_saved s

  objects-back : objects_from 0 xs ≡ s.objects
  objects-back = ext_get_or None _ _ (search (arith, objects-long, saved_long, tied.agreed.length_is))
      (search (arith, saved_at, saved_long, object-at, objects-long))

  bodies-back : map body_from xs ≡ s.seen.bodies
  bodies-back = ext_get_or None _ _ (search (arith, length-map, saved_long, tied.agreed.bodied))
      (λ k lt. let within : k < n = omega (arith, length-map xs body_from, saved_long s) in
      search (arith, map_at body_from xs k fresh_slot, saved_at s k within, one-body k _ _ _ _ (tied.agreed.each k within)))

  retired-back : map is_retired xs ≡ s.retired
  retired-back = ext_get_or false _ _ (search (arith, length-map, saved_long, tied.agreed.marked))
      (λ k lt. search (arith, map_at is_retired xs k fresh_slot, saved_at, saved_long, length-map))

  slots-back : map (slot_of s.keeper.slots) (range_with_len 0 n) ≡ s.keeper.slots
  slots-back = ext_get_or opening_slot _ _ (search (arith, length-map-range_with_len, tied.agreed.wide))
      (search (arith, get_or-map-range_with_len, length-map-range_with_len))

  births-back : sum_by made_in (map keeper_slot xs) ≡ s.births
  births-back = grind (arith, nat_tests, at_place, sum_map, slots-back, tied.made)

  -- before anything that refers to the objects is counted
  abbrev bare : Places
  bare = record (places_in s) { seen = record s.seen { blocks = replicate (length s.objects) 0 } }

  places-back : places_from xs ≡ uncounted bare
  places-back = search (arith, objects-back, bodies-back, retired-back, saved_long, tied.agreed.length_is)

  pub objects_again : (limits : Limits) (processes limit : ℕ) (threads : List (Option ℕ))
      (tables : List (List (Option Entry))) (list : WaitList) (rows : Rows) (rest : List ℕ)
      → s.keeper.shape ≡ shape_of limits → IsCounted s.seen (length s.objects) tables list.waits
      → IsNamed s.objects tables list.waits → AreOfLive threads s.seen.bodies list.waits
      → IsQuiet limits.max_recursion s.seen.bodies list.waits → IsListing rows tables s.objects s.births
      → IsBounded processes limit tables → AllByRecursion (SlotFits limits.max_gen list.clock) xs
      → objects_at limits threads tables list (objects_text limits.reuse s ++ rest)
      ≡ Ok ((record s { keeper = begun_over (shape_of limits) (map keeper_slot xs) }, rows), rest)
  objects_again limits processes limit threads tables list rows rest shape counted named live quiet listing bounded fits =
      let wide : length xs ≡ limits.slots = saved_long s ∙ ap (λ (z : Shape). z.slots) shape in
      let slots : slots_at limits.reuse limits.slots limits.max_gen list.clock (objects_text limits.reuse s ++ rest) ≡
      Ok ((uncounted bare, map keeper_slot xs), rest) =
      rw ((rows_codec limits list.clock limits.reuse).again xs rest (wide, fits), places-back) in
      let handles : counting_all (uncounted bare) tables ≡ Ok bare = counting_again bare processes limit tables
      (None ∷ []) (search (arith, zero_counts)) (search arith) bounded in
      let blocks : with_blocks list.waits bare ≡ places_in s = search (arith, blocks_counted) in
      let whole : whole_at limits tables list (objects_text limits.reuse s ++ rest)
      ≡ Ok ((record s { keeper = begun_over (shape_of limits) (map keeper_slot xs) }, rows), rest) =
      search (arith, births-back, places-back, slots, handles, blocks, births_again, bodied_again, names_complete) in
      rw (whole, all_taken limits.max_recursion threads s tables list.waits named live quiet) refl
