use Rattle.std.proofs.Common.{sym, subst, arith}
use Rattle.pin_core.proofs.Groups.{AreEmpty, AreEmpty-snoc, grouped-empty}
use Rattle.pin_core.proofs.holders.Holders.new.Goals as goal

pub loop-preserved : goal.loop-preserved
loop-preserved c = let more = c.in_ok-push.ensures.items in (
  search arith,
  subst AreEmpty (sym more) (AreEmpty-snoc c.loop.by_slot.items c.new.result c.loop.invariant.1
      c.new.ensures.items),
)

pub invariant_of-result : goal.invariant_of-result
invariant_of-result c = grouped-empty 0 _ c.loop.invariant.1
