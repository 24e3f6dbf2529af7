use Rattle.ob_store.proofs.Cited.{◌∙◌, None, ap, sym, arith, false, get_or, length, cases_eq, get_or_past, length-map, CountedBodies, slot_left_by}
use Rattle.ob_store.proofs.OneByOne.{all_done}
use Rattle.ob_store.proofs.OwnerLaws.{left_by_other}
use Rattle.ob_store.proofs.ending.abandon.Goals as goal

pub loop-slot-preserved : goal.loop-slot-preserved
loop-slot-preserved g c = search (arith, cases_eq, c.abandon_at.ensures, c.loop-slot.invariant)

pub returns-then-owns_none-clause-seen : goal.returns-then-owns_none-clause-seen
returns-then-owns_none-clause-seen g c = all_done _ _ _ (search (left_by_other, c.owns_none.ensures, c.if-owns_none.true)) c.loop-slot.invariant.seen

pub returns-clause-seen : goal.returns-clause-seen
returns-clause-seen g c =
    let bodies = c.loop-slot.objects.seen.bodies in
    let f = slot_left_by c.args.thread in
    let long = ap (λ (o : CountedBodies). length o.bodies) (c.loop-slot.invariant.seen ∙ sym c.abandon_listed.ensures.seen) in
    all_done f _ _ (λ k. left_by_other c.args.thread (get_or bodies k None)
    (grind (
      arith,
      c.loop-slot.invariant.none k,
      get_or_past,
      long,
      length-map bodies f,
      length-map c.abandon_listed.new.objects.seen.bodies f,
      c.kept.ensures.agreed.bodied,
      c.slots-slot-end.ensures,
      c.loop-slot-test.false,
    )))
    c.loop-slot.invariant.seen
