-- What a store keeps, told of what is stored.
use Rattle.ob_store.proofs.Cited.{◌≡◌, ℕ, Some, None, refl, ap, ◌∙◌, subst, arith, get_or, true, ltb, Contains, get_or_past, nat_tests, Id, Shape, ObjectName, handles_among, Object, ObjectsState, ObjectsInvariant, rows_of, PartsState, state_of, whole_of, StoreInvariant, ◌↔◌, hold_of, IsOpenByName, MatchesState, hold_in}
use Rattle.ob_store.proofs.CountedLaws.{handles_long, blocks_long}
use Rattle.ob_store.proofs.DirectoryLaws.{IsRow, rows_are, row_there}
use Rattle.ob_store.proofs.ListingLaws.{placed_agreed}
use Rattle.ob_store.proofs.PlacedLaws.{own_handles, own_blocks}

module _ (p : PartsState) (kept : StoreInvariant p) (tied : ObjectsInvariant p.objects) where
  abbrev o : ObjectsState
  o = p.objects

  held : (k : ℕ) (x : Object) → get_or p.objects.objects k None ≡ Some x
      → hold_in (get_or p.objects.seen.bodies k None) ≡ hold_of (state_of p) x.id
  held k x at = search (arith, own_blocks p kept.sound tied, own_handles p kept.sound tied, tied.bodied.each)

  -- each row is that of an object with a handle
  row_open : (name : ObjectName) (id : Id) → IsRow p.tables.tables p.objects.objects (name, id)
      → IsOpenByName (state_of p) name id
  row_open name id row = search (arith, placed_agreed)

  -- and each such object has a row
  open_row : (name : ObjectName) (id : Id) → IsOpenByName (state_of p) name id
      → Contains (rows_of p.tables.tables p.objects.objects p.objects.births) (name, id)
  open_row name id x =
      let has : ltb 0 (handles_among id p.tables.tables) ≡ true = grind (arith, nat_tests) in
      search (arith, row_there p.tables.tables o.objects id.slot x.object name o.births x.is_there, x.its_id, x.its_name)

  listed : (name : ObjectName) (id : Id) → Contains (rows_of p.tables.tables p.objects.objects p.objects.births) (
    name,
    id,
  ) ↔ IsOpenByName (state_of p) name id
  listed name id = search (arith, row_open, open_row, rows_are, o.births, o.objects, p.tables.tables)

  -- a slot without an object has no body
  unbodied : (k : ℕ) → get_or p.objects.objects k None ≡ None → get_or p.objects.seen.bodies k None ≡ None
  unbodied k none = search (arith, get_or_past, tied.agreed.bodied, tied.agreed.each)

  pub matches_state : MatchesState (whole_of p) (record {
    objects = p.objects.objects;
    seen = p.objects.seen;
    rows = p.rows;
  })
  matches_state =
      let is = ap (λ (x : Shape). x.slots) kept.sound.limited.shape_is in
      let long = tied.agreed.length_is ∙ is in
      record {
        sizes = search (arith, is, long, tied.agreed.bodied, handles_long, blocks_long, kept.sound.counted);
        slots = (refl, λ k x at. placed_agreed o tied.agreed k x at);
        bodies = (refl, unbodied);
        counts = λ k x at. own_handles p kept.sound tied k x at;
        references = search (arith, own_handles p kept.sound tied, own_blocks p kept.sound tied, held);
        directory = (rw kept.sound.listing.same listed, kept.sound.listing.distinct);
        published = tied.listed;
      }
