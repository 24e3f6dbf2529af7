use Rattle.ob_store.proofs.Cited.{◌∙◌, List, length, refl, sym, ap, arith, Slot, Shape}
use Rattle.ob_store.proofs.SavedObjectLaws.{are_read, blocks_long, counts, read_tied, slots_long}
use Rattle.ob_store.proofs.reading_objects.read_whole.Goals as goal

pub count_blocks-requires : goal.count_blocks-requires
count_blocks-requires c =
    let r = are_read c.args.limits c.clock.result _ _ _ _ c.in_ok-headers.ensures in
    blocks_long r (counts _ c.args.tables.now.tables r (c.if-not-count_tables.ensures.counted refl))

pub count_births-births-requires : goal.count_births-births-requires
count_births-births-requires c =
    omega (
      arith,
      slots_long (are_read c.args.limits c.clock.result _ _ _ _ c.in_ok-headers.ensures),
      ap (λ (z : List Slot). length z) c.as_slice.ensures.value,
      c.args.limits.in_range.slots_in_range.1,
    )

pub with_slots-keeper-requires-clause-length_is : goal.with_slots-keeper-requires-clause-length_is
with_slots-keeper-requires-clause-length_is c =
    slots_long (are_read c.args.limits c.clock.result _ _ _ _ c.in_ok-headers.ensures)
    ∙ sym (ap (λ (z : Shape). z.slots) c.shape.ensures.shape)

pub invariant_of-objects : goal.invariant_of-objects
invariant_of-objects c =
    let r = are_read c.args.limits c.clock.result _ _ _ _ c.in_ok-headers.ensures in
    rw (
      c.count_blocks.ensures,
      c.count_births-births.ensures,
      c.as_slice.ensures.value,
      c.with_slots-keeper.ensures,
      c.shape.ensures.shape,
    ) (read_tied r (counts _ c.args.tables.now.tables r (c.if-not-count_tables.ensures.counted refl))
    c.in_ok-order.order.entries
    (rw (c.count_births-births.ensures, c.as_slice.ensures.value, c.count_blocks.ensures) at c.in_ok-order.ensures)
    c.args.waits.now.waits
    (rw c.count_blocks.ensures at (sym c.are_bodied.ensures ∙ c.if-not-are_bodied.false)))
