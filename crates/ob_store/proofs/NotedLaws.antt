-- What is noted beside the headers, while one of them changes.
use Rattle.ob_store.proofs.Cited.{ap, sym, at_place, ℕ, arith, ◌≡◌, ◌<◌, ◌≤◌, List, length, Option, Some, None, refl, get_or, map, set, Bool, false, cond, length-set, Body, ObjectName, slot_due, slot_owner, Label, ObjectHeader, IsSome, is_some, header_due, not}
use Rattle.ob_store.specs.Owners.{header_owner, owned_came, owned_left, owned_moved}
use Rattle.ob_store.specs.Timers.{AreNoted, due_left}
use Rattle.ob_store.proofs.OwnerLaws.{moved_owned, owned_left_at, owned_set, owned_stays}
use Rattle.ob_store.proofs.TimerLaws.{timed_left_at}
use Rattle.ob_store.proofs.ClosingLaws.{opened_back, opened_left_at}
use Rattle.ob_store.proofs.HeaderLaws.{mapped_set, mapped_stays}

module _ (xs : List (Option ObjectHeader)) (counts : List ℕ) (dues : List (Option ℕ)) (opens : List Bool)
    (labels : List Label) (names : List (Option ObjectName)) (room : ℕ)
    (noted : AreNoted xs counts dues opens labels names room) (k : ℕ) where
  pub room_set : (y : Option ObjectHeader) → length (set xs k y) ≤ room
  room_set y = search (arith, length-set, noted.room)

  -- an object leaves
  pub labelled_out : (j : ℕ) → IsSome (get_or (set xs k None) j None) → j < length labels
  labelled_out j some = grind (arith, at_place, noted.labelled j)

  -- an object comes to a vacant slot
  pub noted_came : (y : ObjectHeader) (ended : Bool) (ls : List Label) (ns : List (Option ObjectName)) (n : ℕ)
      → k < length xs → get_or xs k None ≡ None → is_some y.body ≡ not ended
      → k < length ls → length labels ≤ length ls → length ns ≡ length ls → n ≡ room
      → AreNoted (set xs k (Some y)) (owned_came counts (slot_owner y.body)) (set dues k (slot_due y.body))
      (cond ended (set opens k false) opens) ls ns n
  noted_came y ended ls ns n within vacant is here more named same = record {
    owned = moved_owned xs _ k noted.owned _ _ _ within (ap header_owner (sym vacant)) refl;
    timed = search (arith, mapped_set);
    opened = opened_back xs _ k noted.opened y _ vacant is;
    labelled = λ j some. grind (arith, at_place, noted.labelled j);
    named = named;
    room = rw same (room_set _);
  }

  -- a header changes
  module _ (x y : ObjectHeader) (there : get_or xs k None ≡ Some x) where
    labelled_put : (j : ℕ) → IsSome (get_or (set xs k (Some y)) j None) → j < length labels
    labelled_put j some = grind (arith, at_place, noted.labelled j)

    -- in its counts alone
    pub noted_counts : y.body ≡ x.body → AreNoted (set xs k (Some y)) counts dues opens labels names room
    noted_counts same = search (arith, length-set, labelled_put, mapped_stays, owned_stays)

    -- its body goes, or stays
    pub noted_left : (b : Bool) (o : Option Body) → o ≡ cond b x.body None → y.body ≡ cond b None x.body
        → AreNoted (set xs k (Some y)) (owned_left counts (slot_owner o)) (due_left dues k (slot_due o))
        (cond (is_some o) (set opens k false) opens) labels names room
    noted_left b o gone left = search (arith, length-set, labelled_put, opened_left_at, owned_left_at, timed_left_at)

    -- it has another body
    pub noted_moved : (before after : Option ℕ) (moments : List (Option ℕ)) → before ≡ slot_owner x.body
        → after ≡ slot_owner y.body → moments ≡ map header_due (set xs k (Some y)) → is_some y.body ≡ is_some x.body
        → AreNoted (set xs k (Some y)) (owned_moved counts before after) moments opens labels names room
    noted_moved before after moments was now timed same =
        search (arith, length-set, labelled_put, mapped_stays, owned_set)
