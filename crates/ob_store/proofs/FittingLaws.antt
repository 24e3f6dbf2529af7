-- Slots that are kept may be so, those that have a spelling fit, and which of them ever had an object.
use Rattle.ob_store.proofs.Cited.{◌≡◌, ◌⊎◌, ℕ, ◌+◌, ◌-◌, ◌<◌, ◌≤◌, Bool, true, false, List, length, get_or, map, take, drop, Option, sym, arith, inl, inr, sum_by, AllByRecursion, range_with_len, cases_lt, le-leb, Slot, opening_slot, slot_of, Body, SavedSlot, Agrees, ObjectsInvariant, made_in, AreFormed, Object, ObjectsState, object_saved, slot_saved, slots_saved, ext_get_or, get_or-map-range_with_len, length-map-range_with_len, get_or-le-sum_by, get_or_past, padded, SlotFits, ends_used, fresh_slot, used, drop_all, length-drop, get_or-drop, map-range_with_len_more, sum_by-take-drop, sum_by_more, sum_by_more_le, padded_at, padded_length, AnySlotFits, is_fresh}
use Rattle.ob_store.proofs.ByPlace.{all_by_place}
use Rattle.ob_store.proofs.UsedLaws.{ends_more, used_is}

-- what is saved of the slots
pub saved_long : (s : ObjectsState) → length (slots_saved s) ≡ s.keeper.shape.slots
saved_long s = length-map-range_with_len (slot_saved s) 0 s.keeper.shape.slots

pub saved_at : (s : ObjectsState) (k : ℕ) → k < s.keeper.shape.slots → get_or (slots_saved s) k fresh_slot ≡ slot_saved s k
saved_at s k lt = search (arith, get_or-map-range_with_len)

module _ (s : ObjectsState) (tied : ObjectsInvariant s) (clock : ℕ) (formed : AreFormed clock s.objects s.seen.bodies) where
  pub all_fit : ((k : ℕ) → k < s.keeper.shape.slots → AnySlotFits (slot_saved s k))
      → AllByRecursion (SlotFits s.keeper.shape.max_gen clock) (slots_saved s)
  all_fit each = all_by_place (SlotFits s.keeper.shape.max_gen clock) fresh_slot (slots_saved s)
      (search (arith, le-leb, saved_at, saved_long))

pub fresh_fits : (x : SavedSlot) → x ≡ fresh_slot → AnySlotFits x
fresh_fits x is = rw is (omega arith, (tt, tt))

-- a slot never had an object just where none was made in it
abbrev saved_as : Option Object → Option Body → Bool → Slot → SavedSlot
saved_as o body retired x = record { generation = x.generation; retired = retired; object = object_saved o body }

none-made : (k : ℕ) (o : Option Object) (body : Option Body) (retired : Bool) (x : Slot) → Agrees k o body retired x
    → 1 ≤ x.generation → made_in x ≡ 0 → saved_as o body retired x ≡ fresh_slot
none-made k o body retired x agrees aged none = grind arith

some-made : (k : ℕ) (o : Option Object) (body : Option Body) (retired : Bool) (x : Slot) → Agrees k o body retired x
    → 0 < made_in x → is_fresh (saved_as o body retired x) ≡ false
some-made k o body retired x agrees some = grind arith

module _ (s : ObjectsState) (tied : ObjectsInvariant s) where
  abbrev n : ℕ
  n = s.keeper.shape.slots

  abbrev slots : List Slot
  slots = s.keeper.slots

  -- the rows of the first slots
  abbrev first : ℕ → List SavedSlot
  first k = map (slot_saved s) (range_with_len 0 k)

  module _ (k left : ℕ) (below : k < n) (made : left + sum_by made_in (take k slots) ≡ sum_by made_in slots) where
    long : k < length slots
    long = omega (arith, tied.agreed.wide)

    pub made_left : made_in (slot_of slots k) ≤ left
    made_left = omega (arith, sum_by_more_le made_in slots k opening_slot long)

    pub made_more : left - made_in (slot_of slots k) + sum_by made_in (take (k + 1) slots) ≡ sum_by made_in slots
    made_more = omega (arith, made_left, sum_by_more made_in slots k opening_slot long)

    -- the last in which one was made ends those that had one
    pub ended_more : 0 < left → left - made_in (slot_of slots k) ≡ 0 → ends_used (first (k + 1)) ≡ true
    ended_more some none =
        let here = some-made k _ _ _ _ (tied.agreed.each k below) (omega (arith, made_left)) in
        rw (map-range_with_len_more (slot_saved s) 0 k k (omega arith), ends_more) (search (arith, here))

  pub made_all : (k left : ℕ) → n ≤ k → left + sum_by made_in (take k slots) ≡ sum_by made_in slots → left ≡ 0
  made_all k left le made = search (arith, drop_all, sum_by-take-drop, tied.agreed.wide)

  module _ (k : ℕ) (le : k ≤ n) (made : sum_by made_in (take k slots) ≡ sum_by made_in slots) where
    pub all_fresh : (j : ℕ) → k ≤ j → j < n → slot_saved s j ≡ fresh_slot
    all_fresh j from lt = none-made j _ _ _ _ (tied.agreed.each j lt) (tied.aged j lt).0
        (search (
          arith,
          length-drop,
          get_or-drop,
          get_or-le-sum_by made_in (drop k slots) (j - k) opening_slot,
          sum_by-take-drop made_in slots k,
          tied.agreed.wide,
        ))

    pub used_first : ends_used (first k) ≡ true → first k ≡ used (slots_saved s)
    used_first ended =
        let split : slots_saved s ≡ padded fresh_slot n (first k) =
        ext_get_or fresh_slot _ _ (search (arith, saved_long, padded_length, length-map-range_with_len)) (λ j lt.
        let within : j < n = omega (arith, saved_long s) in
        rw (saved_at s j within, padded_at) (by j within (cases_lt j k))) in
        rw split (sym (used_is (first k) _ ended))
      where
        by : (j : ℕ) → j < n → (j < k) ⊎ (k ≤ j) → slot_saved s j ≡ get_or (first k) j fresh_slot
        by j lt (inl below) = search (arith, get_or-map-range_with_len)
        by j lt (inr above) = search (arith, all_fresh, get_or_past, length-map-range_with_len)
