-- Slots are read as they were spelled, and the objects that are read were spelled so.
use Rattle.ob_store.proofs.Cited.{◌≡◌, ℕ, ◌<◌, true, false, Bool, List, get_or, Option, Ok, refl, arith, le-leb, ext_get_or, Id, Slot, Rows, Entry, WaitList, Wait, Limits, SavedSlot, ObjectsState, Places, object_saved, object_from, body_from, keeper_slot, objects_at, objects_text, slots_saved, whole_at, with_slots, with_blocks, where_codec, IsCodec, SlotFits, fresh_slot, slot_at, slot_text, as_codec, both_codec, flag_codec, items_again, items_take, list_codec, option_codec, some_codec, u32_codec, u64_codec, Takes, AreBytes, rows_at, ObjectFits, object_text, rows_text}
use Rattle.ob_name.specs.SpellingLaws.{name_codec}
use Rattle.ob_rights.specs.SpellingLaws.{rights_codec}
use Rattle.pin_core.specs.SpellingLaws.{descr_codec}
use Rattle.ob_body.specs.SpellingLaws.{body_codec}
use Rattle.ob_store.proofs.CountingLaws.{Counts}
use Rattle.ob_store.proofs.FittingLaws.{saved_at, saved_long}
use Rattle.ob_store.proofs.SavedObjectLaws.{AreRead, are_read, body_here, counts, object_here, retired_here, slot_here}
use Rattle.ob_store.proofs.SavedKeptLaws.{whole_steps}
use Rattle.ob_store.proofs.UsedLaws.{RowsFit, used_back, used_there}
use Rattle.ob_store.specs.SavedSlots.{object_at}

pub object_codec : IsCodec object_text object_at ObjectFits
object_codec = as_codec _ _ (λ _. refl) (λ _. refl) (both_codec u64_codec (both_codec descr_codec (both_codec
    rights_codec (both_codec (option_codec body_codec) (option_codec name_codec)))))

pub slot_codec : (max_gen clock : ℕ) → IsCodec slot_text (slot_at max_gen clock) (SlotFits max_gen clock)
slot_codec max_gen clock = where_codec (as_codec _ _ (λ _. refl) (λ _. refl) (both_codec u32_codec (both_codec
    flag_codec (option_codec object_codec)))) _

-- so many slots are read as they were spelled, each of them or up to the last that ever had an object
module _ (limits : Limits) (clock : ℕ) where
  fresh-fits : SlotFits limits.max_gen clock fresh_slot
  fresh-fits = search (arith, le-leb)

  pub rows_codec : (short : Bool) → IsCodec (rows_text short) (rows_at short limits.slots limits.max_gen clock)
      (RowsFit limits.slots limits.max_gen clock)
  rows_codec true = some_codec _ _ _ (used_there _ _ _ (let most = limits.in_range.slots_in_range.1 in omega arith))
      (used_back _ _ _ fresh-fits) (list_codec (slot_codec _ _) _)
  rows_codec false = record {
    again = λ xs rest fit. rw (← fit.0) (items_again (slot_codec _ _) xs _ fit.1);
    takes = λ bytes xs rest are e. (let t = items_take (slot_codec _ _) _ _ xs _ are e in (t.0, (t.1, t.2)));
  }

-- a slot that was read is what is saved again
one-back : (k : ℕ) (x : SavedSlot) → ◌≡◌ {A = SavedSlot} (record {
  generation = (keeper_slot x).generation;
  retired = x.retired;
  object = object_saved (object_from k x) (body_from x);
}) x
one-back k x = search arith

module _ {limits : Limits} {clock : ℕ} {bytes rest : List ℕ} {p q : Places} {slots : List Slot} {more : ℕ → ℕ}
    {Named : Id → Type 0} (r : AreRead limits clock bytes rest p slots) (counts : Counts p q more Named) where
  pub slots_back : (waits : List (Option Wait)) → slots_saved (with_slots (with_blocks waits q) limits slots) ≡ r.xs
  slots_back waits = ext_get_or fresh_slot _ _ (search (arith, saved_long, r.length_is)) (λ k lt.
      let s = with_slots (with_blocks waits q) limits slots in
      let below : k < limits.slots = omega (arith, saved_long s) in
      rw (
        saved_at s k below,
        slot_here r counts k below,
        object_here r counts k,
        body_here r counts k,
        retired_here r counts k,
      ) (one-back k (get_or r.xs k fresh_slot)))

-- what is read is the spelling of the objects that it gives
whole_take : (limits : Limits) (tables : List (List (Option Entry))) (list : WaitList) (bytes : List ℕ)
    (s : ObjectsState) (rows : Rows) (rest : List ℕ) → AreBytes bytes →
    whole_at limits tables list bytes ≡ Ok ((s, rows), rest) → Takes bytes (objects_text limits.reuse s) rest
whole_take limits tables list bytes s rows rest are e =
    let w = whole_steps limits tables list bytes s rows rest e in
    let r = are_read limits list.clock bytes w.p w.slots rest w.read in
    let back = slots_back r (counts w.q tables r w.counted) list.waits in
    rw (← w.is, back) ((rows_codec limits list.clock limits.reuse).takes bytes r.xs rest are r.rows).0

pub objects_take : (limits : Limits) (threads : List (Option ℕ)) (tables : List (List (Option Entry)))
    (list : WaitList) (bytes : List ℕ) (s : ObjectsState) (rows : Rows) (rest : List ℕ) → AreBytes bytes →
    objects_at limits threads tables list bytes ≡ Ok ((s, rows), rest) → Takes bytes (objects_text limits.reuse s) rest
objects_take limits threads tables list bytes s rows rest are e = search (arith, whole_take)
