-- The state before any call is kept.
use Rattle.ob_store.proofs.Cited.{◌≡◌, ℕ, zero, suc, ◌≤◌, [], ◌∷◌, None, refl, arith, map-replicate, length-replicate, opening_slot, HandleTables, WaitList, Limits, ObjectsInvariant, made_in, ObjectsState, with_keeper, vacant_places, PartsState, whole_of, StoreInvariant, sum_by, KeeperState, Whole, shape_of, replicate}
use Rattle.ob_store.proofs.ByPlace.{replicate_at}
use Rattle.pin_words.specs.Keepers.{IsFresh}
use Rattle.ob_tables.specs.Processes.{no_processes}
use Rattle.ob_store.specs.Signaled.{none_signaled}
use Rattle.ob_store.specs.State.{opening, last_wait}
use Rattle.ob_store.proofs.CountedLaws.{counted_opening}
use Rattle.ob_store.proofs.NamedLaws.{named_opening}
use Rattle.ob_store.proofs.ListingLaws.{listing_opening}

abbrev pub no_tables : Limits → HandleTables
no_tables limits = record { process_limit = limits.processes; handle_limit = limits.handles; tables = [] ∷ [] }

abbrev pub no_waits : Limits → WaitList
no_waits limits = record { limit = last_wait limits; waits = None ∷ []; clock = 0 }

module _ (limits : Limits) (keeper : KeeperState) (fresh : IsFresh keeper (shape_of limits)) where
  abbrev pub no_objects : ObjectsState
  no_objects = with_keeper (vacant_places limits.slots) 0 keeper

  abbrev pub no_parts : PartsState
  no_parts = record {
    limits = limits;
    processes = no_processes;
    tables = no_tables limits;
    objects = no_objects;
    waits = no_waits limits;
    rows = [];
    signaled = none_signaled;
  }

  pub kept_opening : StoreInvariant no_parts
  kept_opening = record {
    sound = record {
      limited = search arith;
      processes_kept = search arith;
      counted = search (arith, counted_opening, length-replicate);
      named = named_opening no_objects.objects;
      formed = search (arith, replicate_at);
      of_live = search (arith, replicate_at);
      room = search arith;
      listing = listing_opening limits.slots;
    };
    populated = search arith;
    settled = search arith;
  }

  -- and is the opening one
  pub opening_is : ◌≡◌ {A = Whole} (whole_of no_parts) (record { state = opening limits; keeper = keeper })
  opening_is = search (arith, map-replicate)

none_made : (n : ℕ) → sum_by made_in (replicate n opening_slot) ≡ 0
none_made zero = refl
none_made (suc n) = search (arith, none_made n)

pub tied_opening : (n : ℕ) (k : KeeperState) → IsFresh k k.shape → n ≡ k.shape.slots → n ≤ 65536 → 1 ≤ k.shape.max_gen
    → k.shape.max_gen ≤ 4294967295 → ObjectsInvariant (with_keeper (vacant_places n) 0 k)
tied_opening n k fresh same few first last = search (arith, none_made, length-replicate, replicate_at)
