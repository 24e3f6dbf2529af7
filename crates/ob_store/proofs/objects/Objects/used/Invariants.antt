use Rattle.ob_store.proofs.Cited.{◌≡◌, ◌+◌, true, map, take, sum_by, range_with_len, made_in, slot_saved, ends_used}
use Rattle.ob_store.proofs.objects.Objects.used.Given as goal

abbrev pub invariant-loop-slot : goal.invariant-loop-slot
invariant-loop-slot g l = record {
  made : l.left + sum_by made_in (take l.slot l.self.keeper.slots) ≡ sum_by made_in l.self.keeper.slots;
  ended : l.left ≡ 0 → ends_used (map (slot_saved l.self) (range_with_len 0 l.slot)) ≡ true;
}
