-- The entry of a handle leaves: what is sound stays so, and is on its way to the settled state.
use Rattle.ob_store.proofs.Cited.{at_place, ◌≡◌, ℕ, ◌<◌, length, Option, Some, None, arith, get_or, Bool, eqb, [], IsSome, nat_tests, KeeperState, ObjectName, Rows, Entry, handles_among, table_of, without_entry_of, ObjectsInvariant, IsThere, IsNamed, IsListing, IsSound, PartsState, State, AreLeft, IsUnderWay, entry_at, Object, ObjectsState, name_in}
use Rattle.ob_tables.specs.Table.{without_entry}
use Rattle.ob_store.specs.Objects.{without_handle_of}
use Rattle.ob_store.specs.Moves.{rows_left, rows_without}
use Rattle.ob_store.proofs.AgreeLaws.{opened_closed}
use Rattle.ob_store.proofs.CountedLaws.{handles_at, counted_removed, one_less}
use Rattle.ob_store.proofs.NamedLaws.{there_some, there_within, named_entry, named_removed, handles_are}
use Rattle.ob_store.proofs.BodyLaws.{of_live_gone}
use Rattle.ob_store.proofs.LeftLaws.{formed_left, left_gone}
use Rattle.ob_store.proofs.ListingLaws.{placed_agreed, listing_removed, listing_removed_last, listing_name_removed}
use Rattle.ob_store.proofs.KeptLaws.{same_generations, table_changed}

-- an empty table stays empty
nothing_left : (value : ℕ) → without_entry [] value ≡ []
nothing_left = search arith

module _ (p : PartsState) (process value : ℕ) (e : Entry) (sound : IsSound p) (tied : ObjectsInvariant p.objects)
    (found : entry_at (table_of p.tables.tables process) value ≡ Some e) where
  there : IsThere p.objects.objects e.id
  there = search (arith, named_entry)

  within : e.id.slot < length p.objects.objects
  within = search (arith, there_within, there)

  pub held : 0 < get_or p.objects.seen.handles e.id.slot 0
  held = omega (arith, handles_at _ _ _ _ sound.counted _ within, one_less _ _ _ _ sound.counted _ _ e found)

  pub has_object : (q : ObjectsState) → q ≡ without_handle_of p.objects e.id.slot
      → IsSome (get_or q.objects e.id.slot None)
  has_object q is = search (arith, there_some, there)

  named_after : IsNamed p.objects.objects (without_entry_of p.tables.tables process value) p.waits.waits
  named_after = search (arith, named_removed)

  -- bodies stay, but for one at most
  pub bodies_left : AreLeft p.objects.seen.bodies (without_handle_of p.objects e.id.slot).seen.bodies
  bodies_left = search (arith, left_gone)

  sound_removed : (rows : Rows) → IsListing rows (without_entry_of p.tables.tables process value) p.objects.objects
      p.objects.births
      → IsSound (record p {
        tables = record p.tables { tables = without_entry_of p.tables.tables process value };
        objects = without_handle_of p.objects e.id.slot;
        rows = rows;
      })
  sound_removed rows listing = record {
    processes_kept = search (arith, nothing_left, table_changed, sound.processes_kept.vacated);
    counted = counted_removed _ _ _ _ sound.counted _ _ _ e found;
    formed = formed_left _ _ _ _ bodies_left sound.formed;
    of_live = search (arith, of_live_gone);
    room = search (arith, bodies_left);
    limited = search arith;
    named = named_after;
    listing = listing;
  }

  listing_zero : (x : Object) → get_or p.objects.objects e.id.slot None ≡ Some x → x.id ≡ e.id
      → handles_among e.id (without_entry_of p.tables.tables process value) ≡ 0 → (name : Option ObjectName)
      → x.name ≡ name
      → IsListing (rows_without p.rows name) (without_entry_of p.tables.tables process value) p.objects.objects
      p.objects.births
  listing_zero x at own none None is = search (arith, listing_removed_last, placed_agreed)
  listing_zero x at own none (Some name) is = search (arith, listing_name_removed, placed_agreed)

  -- with the last handle the name of the object leaves
  module _ (was_last : Bool) (q : ObjectsState) (rows : Rows)
      (is : q ≡ without_handle_of p.objects e.id.slot)
      (last : was_last ≡ eqb (get_or p.objects.seen.handles e.id.slot 0) 1)
      (names : rows ≡ rows_left p.rows was_last (name_in (get_or q.objects e.id.slot None))) where
    listing_left : IsListing rows (without_entry_of p.tables.tables process value) p.objects.objects p.objects.births
    listing_left =
        let was = handles_at _ _ _ _ sound.counted _ within in
        let less = one_less _ _ _ _ sound.counted _ _ e found in
        search (arith, there, was, less, handles_are _ _ _ named_after _ there, listing_zero, listing_removed)

    abbrev pub removed : PartsState
    removed = record p {
      tables = record p.tables { tables = without_entry_of p.tables.tables process value };
      objects = q;
      rows = rows;
    }

    pub sound_left : IsSound removed
    sound_left = search (arith, sound_removed, listing_left)

    pub way_left : ObjectsInvariant q → (first : KeeperState) (s : State) → IsUnderWay first p s
        → IsUnderWay first removed (record s { tables = without_entry_of p.tables.tables process value })
    way_left after first s way = grind (arith, nat_tests, at_place, held, opened_closed, sound_left, same_generations)
