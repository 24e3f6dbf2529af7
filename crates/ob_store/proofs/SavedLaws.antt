-- Slots that are read one after the other.
use Rattle.ob_store.proofs.Cited.{Some, is_vacant_at, Slot, opening_slot, SavedObject, SavedSlot, Places, vacancy, vacant_places, ◌≡◌, ℕ, zero, suc, ◌+◌, ◌-◌, ◌<◌, ◌≤◌, ◌&&◌, not, Bool, true, false, cond, List, [], ◌∷◌, ◌++◌, length, get_or, set, map, replicate, Option, None, Ok, Err, refl, sym, ap, arith, nat_tests, at_place, ext_get_or, get_or_past, length-map, length-set, set-get_or, length-replicate, ◌>>=◌, body_from, ends_used, fresh_slot, keeper_slot, object_from, objects_from, places_from, slot_at, slots_at, with_fresh, Value, length-append, is_none, map-append, map-set, padded_at, padded_length, padded_long, Fails, Read, as_at, items_at, slots_from, begun_with, count_at, is_retired, with_saved}
use Rattle.ob_codec.specs.Reading.{list_at}
use lib.LanesLaws.{map-replicate}
use Rattle.ob_codec.specs.declared.fault.ReadFault.{ReadFault}
use Rattle.ob_codec.proofs.Loop.{with_front, goes_on, ends, is_done}
use Rattle.ob_store.proofs.ByPlace.{map_at, replicate_at}
use Rattle.ob_store.proofs.SavedSlotLaws.{items_all}
use Rattle.ob_store.proofs.UsedLaws.{ends_more, fresh_long}

pub objects-long : (k : ℕ) (xs : List SavedSlot) → length (objects_from k xs) ≡ length xs
objects-long k [] = refl
objects-long k (x ∷ xs) = ap suc (objects-long (suc k) xs)

pub object-at : (j k : ℕ) (xs : List SavedSlot)
    → get_or (objects_from j xs) k None ≡ object_from (j + k) (get_or xs k fresh_slot)
object-at j k [] = refl
object-at j zero (x ∷ xs) = search arith
object-at j (suc k) (x ∷ xs) = search (arith, object-at (suc j) k xs)

objects-set : (j k : ℕ) (xs : List SavedSlot) (x : SavedSlot)
    → objects_from j (set xs k x) ≡ set (objects_from j xs) k (object_from (j + k) x)
objects-set j k [] x = refl
objects-set j zero (y ∷ ys) x = search arith
objects-set j (suc k) (y ∷ ys) x = search (arith, objects-set (suc j) k ys x)

objects-none : (j n : ℕ) → objects_from j (replicate n fresh_slot) ≡ replicate n None
objects-none j zero = refl
objects-none j (suc n) = ap (λ r. None ∷ r) (objects-none (suc j) n)

places-none : (n : ℕ) → vacant_places n ≡ places_from (replicate n fresh_slot)
places-none n = search (arith, map-replicate, length-replicate, objects-none)

kept-at : {A : Type 0} (none : A) (xs : List A) (i : ℕ) → get_or xs i none ≡ none → set xs i none ≡ xs
kept-at none xs i is = search (arith, set-get_or)

-- a slot comes to its place, where none ever had an object
saved-next : (xs : List SavedSlot) (i generation : ℕ) (retired : Bool) (o : Option SavedObject)
    → get_or xs i fresh_slot ≡ fresh_slot → (retired ≡ true → is_none o ≡ true)
    → with_saved (places_from xs) i generation retired o
    ≡ places_from (set xs i (record { generation = generation; retired = retired; object = o }))
saved-next xs i generation retired o fresh apart = by retired o apart
  where
    objects : set (objects_from 0 xs) i None ≡ objects_from 0 xs
    objects = search (arith, kept-at, object-at, fresh)

    bodies : set (map body_from xs) i None ≡ map body_from xs
    bodies = search (arith, kept-at, map_at body_from xs i fresh_slot, fresh)

    flags : set (map is_retired xs) i false ≡ map is_retired xs
    flags = search (arith, kept-at, map_at is_retired xs i fresh_slot, fresh)

    counts : set (replicate {A = ℕ} (length xs) 0) i 0 ≡ replicate (length xs) 0
    counts = search (arith, kept-at, replicate_at)

    by : (retired : Bool) (o : Option SavedObject) → (retired ≡ true → is_none o ≡ true) → with_saved (places_from xs) i generation retired o
        ≡ places_from (set xs i (record { generation = generation; retired = retired; object = o }))
    by true None a = search (arith, objects-set, map-set, length-set, objects, bodies, flags, counts)
    by false None a = search (arith, objects-set, map-set, length-set, objects, bodies, flags, counts)
    by false (Some x) a = search (arith, objects-set, map-set, length-set, objects, bodies, flags, counts)
    by true (Some x) a = (let none = a refl in absurd cc)

next-fresh : (n k : ℕ) (xs : List SavedSlot) (x : SavedSlot) → length xs ≡ k → k < n
    → with_fresh n (xs ++ x ∷ []) ≡ set (with_fresh n xs) k x
next-fresh n k xs x long lt = ext_get_or fresh_slot _ _ (search (arith, length-set, padded_length, length-append))
    (λ j within. grind (arith, nat_tests, at_place, padded_at fresh_slot, padded_length fresh_slot))

-- what a loop has read of m rows of n slots once it stands at the slot i
pub record HasRead (m n max_gen clock i : ℕ) (first from : List ℕ) (p : Places) (slots : List Slot) (ended : Bool)
    : Type 0 where
  pub read : List SavedSlot
  pub length_is : length read ≡ i
  pub total : with_front read (items_at (slot_at max_gen clock) (m - i) from) ≡ items_at (slot_at max_gen clock) m first
  pub places : p ≡ places_from (with_fresh n read)
  pub begun_slots : slots ≡ map keeper_slot read
  pub ended_is : ended ≡ ends_used read

pub read_begins : {m n max_gen clock : ℕ} {first : List ℕ} {p : Places} {slots : List Slot} → p ≡ vacant_places n →
    slots ≡ [] → HasRead m n max_gen clock 0 first first p slots true
read_begins vacant none = search (arith, places-none)

module _ {m n max_gen clock i : ℕ} {first from : List ℕ} {p : Places} {slots : List Slot} {ended : Bool} (within : m ≤ n)
    (h : HasRead m n max_gen clock i first from p slots ended) where
  fresh-next : get_or (with_fresh n h.read) i fresh_slot ≡ fresh_slot
  fresh-next = search (arith, padded_at, get_or_past, h.length_is)

  pub vacant_here : i < m → is_vacant_at (vacancy p) i ≡ true
  vacant_here lt =
      let object : get_or (objects_from 0 (with_fresh n h.read)) i None ≡ None = search (arith, object-at, fresh-next) in
      let flag = rw fresh-next at (map_at is_retired (with_fresh n h.read) i fresh_slot) in
      let long : length (objects_from 0 (with_fresh n h.read)) ≡ n = search (arith, objects-long, fresh_long, h.length_is) in
      rw h.places (search (arith, object, flag, long))

  pub read_goes_on : {after : List ℕ} (x : SavedSlot) → i < m → slot_at max_gen clock from ≡ Ok (x, after) →
      HasRead m n max_gen clock (i + 1) first after (with_saved p i x.generation x.retired x.object) (slots
      ++ keeper_slot x ∷ []) (ends_used (x ∷ []))
  read_goes_on x lt is =
      let apart : x.retired ≡ true → is_none x.object ≡ true = search arith in
      let saved = saved-next _ i x.generation x.retired x.object fresh-next apart in
      record {
        read = h.read ++ x ∷ [];
        length_is = search (arith, length-append, h.length_is);
        total = goes_on _ _ m i _ x _ _ lt is h.total;
        places = rw (h.places, saved, next-fresh n i h.read x h.length_is (omega arith)) refl;
        begun_slots = rw h.begun_slots (sym (map-append keeper_slot h.read (x ∷ [])));
        ended_is = sym (ends_more h.read x);
      }

  fails-as : {A B : Type 0} (e : ReadFault) (r : Read A) (f : A × List ℕ → Read B) → Fails e r → Fails e (r >>= f)
  fails-as = search arith

  pub read_ends : (e : ReadFault) → i < m → Fails e (slot_at max_gen clock from) →
      Fails e (as_at (begun_with n) (items_at (slot_at max_gen clock) m) first)
  read_ends e lt fails = fails-as e (items_at (slot_at max_gen clock) m first) _ (search (arith, ends))

  pub read_long : m ≤ i → i ≤ m → length slots ≡ m
  read_long le ge = search (arith, h.begun_slots, h.length_is, length-map)

  pub read_done : m ≤ i → as_at (begun_with n) (items_at (slot_at max_gen clock) m) first ≡ Ok ((p, (slots, ended)), from)
  read_done le = search (arith, is_done)

-- what was read of slots, with those that never had an object
abbrev finished : Bool → ℕ → (Places × (List Slot × Bool)) × List ℕ → Read (Places × List Slot)
finished short n r = cond (short && not r.0.1.1) (Err Value)
    (Ok ((r.0.0, r.0.1.0 ++ replicate (n - length r.0.1.0) opening_slot), r.1))

-- slots are read in parts: how many stand there, and these
module _ (n max_gen clock : ℕ) (bytes : List ℕ) where
  abbrev rows-read : ℕ × List ℕ → Read (Places × (List Slot × Bool))
  rows-read c = as_at (begun_with n) (items_at (slot_at max_gen clock) c.0) c.1

  all-slots : (xs : List SavedSlot) → slots_from (with_fresh n xs)
      ≡ (places_from (with_fresh n xs), map keeper_slot xs ++ replicate (n - length (map keeper_slot xs)) opening_slot)
  all-slots xs = search (arith, map-append, map-replicate, length-map)

  all-read : (r : Read (List SavedSlot)) → ((xs : List SavedSlot × List ℕ) → r ≡ Ok xs → length xs.0 ≡ n)
      → (r >>= λ (xs : List SavedSlot × List ℕ). Ok (slots_from xs.0, xs.1))
      ≡ ((r >>= λ (xs : List SavedSlot × List ℕ). Ok (begun_with n xs.0, xs.1)) >>= finished false n)
  all-read r long = grind (arith, all-slots, padded_long)

  pub slots_in_parts : (short : Bool) → slots_at short n max_gen clock bytes
      ≡ (count_at short n bytes >>= λ (c : ℕ × List ℕ). rows-read c >>= finished short n)
  unfolding list_at
  slots_in_parts true = grind (arith, all-slots)
  slots_in_parts false = all-read _
      (λ xs e. (items_all (slot_at max_gen clock) (λ x. Unit {0}) (λ _ _ _ _. tt) fresh_slot tt n bytes xs.1 xs.0 e).0)
