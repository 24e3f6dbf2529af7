-- A new object with its first entry comes to a vacant slot.
use Rattle.ob_store.proofs.Cited.{◌≡◌, ℕ, ◌+◌, ◌<◌, List, [], ◌∷◌, ◌++◌, length, Some, None, refl, subst, arith, get_or, map, true, map-set_same, length-set, Id, Slot, opening_slot, id_of, HandleFlags, is_vacant_at, Body, owner_of, ObjectName, Rows, find_name, Entry, with_entry_of, form_of, IsAgreed, ObjectsInvariant, PartsState, state_of, IsLive, StoreInvariant, IsCounted, IsListing, form_in, ObjectsState, ObjectAttributes, places_in, vacancy, State, generation_of}
use Rattle.std.proofs.Math.ListN.{get_or-map}
use Rattle.ob_rights.specs.declared.rights.Rights.{Rights}
use Rattle.ob_waits.proofs.Room.{room_unnamed}
use Rattle.ob_waits.proofs.Settled.{settled_unnamed}
use Rattle.ob_store.specs.Objects.{with_object}
use Rattle.ob_store.specs.State as state
use Rattle.ob_store.specs.State.{id_at}
use Rattle.ob_store.proofs.AgreeLaws.{object_at, body_at}
use Rattle.ob_store.proofs.CountedLaws.{blocks_at, counted_added}
use Rattle.ob_store.proofs.NamedLaws.{named_added}
use Rattle.ob_store.proofs.BodyLaws.{formed_added, of_live_added}
use Rattle.ob_store.proofs.ListingLaws.{listing_added, listing_name_added, placed_agreed}
use Rattle.ob_store.proofs.PlacedLaws.{live_tabled}
use Rattle.ob_store.proofs.KeptLaws.{live_changed}

-- a slot without an object has no body
pub bodiless : (s : ObjectsState) (k : ℕ) → object_at s k ≡ None → k < length s.objects → IsAgreed s
    → body_at s k ≡ None
bodiless s k none room a = search arith

-- the Id that the state gives to the next object of a slot is that of the keeper
pub next_id : (slots : List Slot) (k : ℕ) → ◌≡◌ {A =
    Id} (record { slot = k; generation = get_or (map generation_of slots) k 1 }) (id_of slots k)
next_id slots k = λ i. record { slot = k; generation = (get_or-map generation_of slots k opening_slot) i }

-- the state with a new object and an entry of it
abbrev pub with_added : State → ℕ → ℕ → Rights → HandleFlags → ObjectAttributes → Body → State
with_added s p slot rights flags attributes body = state.with_entry (state.with_object s slot attributes body) p
    (record { id = id_at s slot; rights = rights; flags = flags })

pub added_state : (p : PartsState) (process slot : ℕ) (rights : Rights) (flags : HandleFlags)
    (attributes : ObjectAttributes)
    (body : Body) (rows : Rows)
    → state_of (record p {
      tables = record p.tables {
        tables =
            with_entry_of p.tables.tables process (record {
              id = id_of p.objects.keeper.slots slot;
              rights = rights;
              flags = flags;
            });
      };
      objects = with_object p.objects slot attributes body;
      rows = rows;
    })
    ≡ with_added (state_of p) process slot rights flags attributes body
added_state p process slot rights flags attributes body rows = search (arith, next_id, map-set_same)

module _ (p : PartsState) (kept : StoreInvariant p) (tied : ObjectsInvariant p.objects)
    (process slot : ℕ) (rights : Rights) (flags : HandleFlags) (attributes : ObjectAttributes) (body : Body)
    (live : IsLive p.processes.processes process)
    (vacant : is_vacant_at (vacancy (places_in p.objects)) slot ≡ true)
    (formed : form_of body ≡ form_in attributes.descr)
    (owned : (t : ℕ) → owner_of body ≡ Some t → IsLive p.processes.threads t) where
  abbrev pub entry : Entry
  entry = record { id = id_of p.objects.keeper.slots slot; rights = rights; flags = flags }

  abbrev pub added : Rows → PartsState
  added rows = record p {
    tables = record p.tables { tables = with_entry_of p.tables.tables process entry };
    objects = with_object p.objects slot attributes body;
    rows = rows;
  }

  abbrev o : ObjectsState
  o = p.objects

  table : process < length p.tables.tables
  table = search (arith, live_tabled)

  none : object_at p.objects slot ≡ None
  none = search arith

  within : slot < length p.objects.objects
  within = search arith

  no_references : (get_or p.objects.seen.handles slot 0 ≡ 0) × (get_or p.objects.seen.blocks slot 0 ≡ 0)
  no_references = search arith

  -- what is kept, whichever names are entered
  pub kept_added : (rows : Rows) → IsListing rows (with_entry_of p.tables.tables process entry)
      (with_object p.objects slot attributes body).objects (p.objects.births + 1) → StoreInvariant (added rows)
  kept_added rows listing =
      let sound = kept.sound in
      record {
        sound = record {
          limited = sound.limited;
          processes_kept = search (arith, live_changed);
          counted = subst (λ (n : ℕ). IsCounted (with_object o slot attributes body).seen n
              (with_entry_of p.tables.tables process entry) p.waits.waits)
              (search (arith, length-set))
              (counted_added _ _ _ _ sound.counted _ _ _ table within no_references.0 no_references.1);
          named = search (arith, table, named_added);
          formed = search (arith, formed_added);
          of_live = of_live_added _ _ _ _ _ owned sound.of_live;
          room = search (arith, blocks_at, room_unnamed);
          listing = listing;
        };
        populated = kept.populated;
        settled = search (arith, blocks_at, settled_unnamed);
      }

  pub kept_nameless : attributes.name ≡ None → StoreInvariant (added p.rows)
  kept_nameless nameless = search (arith, kept_added, listing_added, placed_agreed, table, within, none)

  pub kept_name : (name : ObjectName) → attributes.name ≡ Some name → find_name name p.rows ≡ None
      → StoreInvariant (added (p.rows ++ (name, id_of p.objects.keeper.slots slot) ∷ []))
  kept_name name named absent =
      kept_added _ (listing_name_added _ _ _ _ kept.sound.listing (placed_agreed o tied.agreed) _ _ _ _ tied.born table refl refl named none within absent)
