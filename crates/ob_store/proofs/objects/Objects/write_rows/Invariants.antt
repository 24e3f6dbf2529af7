use Rattle.ob_store.proofs.Cited.{◌≡◌, ℕ, ◌++◌, ◌<◌, map, flat_map, range_with_len, slot_saved, slot_text, AnySlotFits}
use Rattle.ob_store.proofs.objects.Objects.write_rows.Given as goal

abbrev pub invariant-loop-slot : goal.invariant-loop-slot
invariant-loop-slot g l = record {
  text : l.out.items ≡ l.fn.out.items ++ flat_map slot_text (map (slot_saved l.self) (range_with_len 0 l.slot));
  fits : (k : ℕ) → k < l.slot → AnySlotFits (slot_saved l.self k);
}
