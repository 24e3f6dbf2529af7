-- Objects that were read are tied to a keeper that begins with their slots.
use Rattle.ob_store.proofs.Cited.{at_place, nat_tests, ◌≡◌, ℕ, ◌<◌, true, false, List, [], length, get_or, map, Option, None, Ok, refl, ap, sym, arith, sum_by, get_or-map, get_or-replicate, length-map, length-replicate, Id, Slot, slot_of, Entry, handles_among, slot_handles, HasBodies, Wait, Limits, SavedSlot, IsAgreed, ObjectsInvariant, made_in, counting_all, AreFormed, Places, Births, births_from, body_from, fresh_slot, keeper_slot, object_from, places_from, slots_at, with_blocks, by_slot, with_slots, are_bodied, is_bodied, is_retired, rows_at, slots_from}
use Rattle.ob_waits.specs.CountedBodies as waits
use Rattle.ob_store.proofs.ByPlace.{below_at, below_from, map_at}
use Rattle.ob_store.proofs.BySlot.{is_by_slot}
use Rattle.ob_store.proofs.CountingLaws.{Counts, tables_count}
use Rattle.ob_store.proofs.KeeperLaws.{all_shown}
use Rattle.ob_store.proofs.SavedOrderLaws.{ordered_born}
use Rattle.ob_store.proofs.SavedLaws.{object-at, objects-long}
use Rattle.ob_store.proofs.SavedSlotLaws.{IsSlotSound, as_split, rows_all, slot_aged, slot_formed, slot_generation}

-- each slot has a body exactly where something refers to its object
all_bodied : (o : waits.CountedBodies) (n : ℕ) → length o.bodies ≡ n → length o.handles ≡ n → length o.blocks ≡ n →
    are_bodied o n ≡ true → HasBodies o
all_bodied o n bodies handles blocks all =
    record { each = λ k. grind (arith, nat_tests, at_place, below_at (is_bodied o) n k all) }

pub bodied_again : (o : waits.CountedBodies) (n : ℕ) → HasBodies o → are_bodied o n ≡ true
bodied_again o n has = search (arith, below_from)

-- the slots that were read
pub record AreRead (limits : Limits) (clock : ℕ) (bytes rest : List ℕ) (p : Places) (slots : List Slot) : Type 0 where
  pub xs : List SavedSlot
  pub rows : rows_at limits.reuse limits.slots limits.max_gen clock bytes ≡ Ok (xs, rest)
  pub length_is : length xs ≡ limits.slots
  pub sound : (k : ℕ) → IsSlotSound limits.max_gen clock (get_or xs k fresh_slot)
  pub places : p ≡ places_from xs
  pub slots_are : slots ≡ map keeper_slot xs

pub are_read : (limits : Limits) (clock : ℕ) (bytes : List ℕ) (p : Places) (slots : List Slot) (rest : List ℕ) →
    slots_at limits.reuse limits.slots limits.max_gen clock bytes ≡ Ok ((p, slots), rest) →
    AreRead limits clock bytes rest p slots
are_read limits clock bytes p slots rest e =
    let a = as_split slots_from (rows_at limits.reuse limits.slots limits.max_gen clock) bytes (p, slots) rest e in
    let all = rows_all _ _ clock limits.in_range.max_gen_in_range.0 limits.reuse bytes rest a.0 a.1 in
    record {
      xs = a.0;
      rows = a.1;
      length_is = all.0;
      sound = all.1;
      places = ap (λ (z : Places × List Slot). z.0) (sym a.2);
      slots_are = ap (λ (z : Places × List Slot). z.1) (sym a.2);
    }

-- and what is counted of them
module _ {limits : Limits} {clock : ℕ} {bytes rest : List ℕ} {p q : Places} {slots : List Slot} {more : ℕ → ℕ}
    {Named : Id → Type 0} (r : AreRead limits clock bytes rest p slots) (counts : Counts p q more Named) where
  abbrev at : ℕ → SavedSlot
  at k = get_or r.xs k fresh_slot

  objects-long-here : length q.objects ≡ limits.slots
  objects-long-here = search (arith, objects-long, counts.same, r.places, r.length_is)

  handles-long : length q.seen.handles ≡ limits.slots
  handles-long = search (arith, counts.length_is, r.places, length-replicate, r.length_is)

  -- there is a count of blocks for each object
  pub blocks_long : length q.seen.blocks ≡ length q.objects
  blocks_long = search (arith, counts.same, r.places, length-replicate, objects-long)

  pub object_here : (k : ℕ) → get_or q.objects k None ≡ object_from k (at k)
  object_here k = search (arith, counts.same, r.places, object-at)

  pub body_here : (k : ℕ) → get_or q.seen.bodies k None ≡ body_from (at k)
  body_here k = search (arith, counts.same, r.places, map_at body_from r.xs k fresh_slot)

  pub retired_here : (k : ℕ) → get_or q.retired k false ≡ (at k).retired
  retired_here k = search (arith, counts.same, r.places, map_at is_retired r.xs k fresh_slot)

  pub slot_here : (k : ℕ) → k < limits.slots → slot_of slots k ≡ keeper_slot (at k)
  slot_here k lt = search (arith, get_or-map, r.slots_are, r.length_is)

  -- bodies are what the descriptors say, and no timer is due
  pub read_formed : AreFormed clock q.objects q.seen.bodies
  read_formed = record {
    each = λ k o b is has. slot_formed _ _ _ (r.sound k) k o b (rw object_here at is) (rw body_here at has);
    later = search (arith, body_here, r.sound);
  }

  module _ (order : Births) (ordered : births_from (sum_by made_in slots) [] 0 q.objects ≡ Ok order)
      (waits : List (Option Wait)) (bodied : are_bodied (with_blocks waits q).seen (length q.objects) ≡ true) where
    read_agreed : IsAgreed (with_slots (with_blocks waits q) limits slots)
    read_agreed = search (arith, objects-long-here, length-map, object_here, body_here, retired_here, slot_here)

    pub read_tied : ObjectsInvariant (with_slots (with_blocks waits q) limits slots)
    read_tied = record {
      agreed = read_agreed;
      listed = all_shown _ read_agreed;
      opens = search (arith, length-map, slot_here);
      bodied = search (arith, all_bodied, objects-long-here, handles-long, length-map);
      born = search (arith, ordered_born);
      aged = λ k lt. (let age = slot_aged _ _ _ (r.sound k) in
          let is = slot_generation (at k) in rw (slot_here k lt, is) age);
      last = limits.in_range.max_gen_in_range.1;
      made = refl;
    }

  -- the stored counts are the numbers of entries
  pub read_handles : q.seen.handles ≡ by_slot (length q.objects) more
  read_handles = search (arith, objects-long-here, handles-long, get_or-replicate, is_by_slot, counts.handles, r.places)

pub slots_long : {limits : Limits} {clock : ℕ} {bytes rest : List ℕ} {p : Places} {slots : List Slot} →
    AreRead limits clock bytes rest p slots → length slots ≡ limits.slots
slots_long r = search (arith, length-map, r.slots_are, r.length_is)

pub counts : {limits : Limits} {clock : ℕ} {bytes rest : List ℕ} {p : Places} {slots : List Slot} (q : Places)
    (tables : List (List (Option Entry))) → AreRead limits clock bytes rest p slots → counting_all p tables ≡ Ok q →
    Counts p q (λ k. slot_handles k tables) (λ id. 0 < handles_among id tables)
counts q tables r counted = tables_count _ q tables (search (arith, length-replicate, objects-long, r.places)) counted
