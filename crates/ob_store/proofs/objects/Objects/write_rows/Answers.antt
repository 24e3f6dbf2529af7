use Rattle.ob_store.proofs.Cited.{arith, slot_saved, flat_map_more, map-range_with_len_more}
use Rattle.ob_store.proofs.objects.Objects.write_rows.Goals as goal

pub loop-slot-preserved : goal.loop-slot-preserved
loop-slot-preserved g c = record {
  text = search (
    arith,
    flat_map_more,
    map-range_with_len_more (slot_saved c.args.self.now) 0 c.loop-slot.slot c.loop-slot.slot (omega arith),
    c.in_ok-write_slot.ensures.text,
    c.loop-slot.invariant.text,
  );
  fits = λ j lt. grind (arith, c.loop-slot.invariant.fits j, c.in_ok-write_slot.ensures.fits);
}
