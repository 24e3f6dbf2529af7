use Rattle.ob_store.proofs.Cited.{◌≡◌, arith, slot_of, made_in}
use Rattle.ob_store.proofs.FittingLaws.{all_fresh, ended_more, made_all, made_left, made_more, used_first}
use Rattle.ob_store.proofs.objects.Objects.used.Given as given
use Rattle.ob_store.proofs.objects.Objects.used.Goals as goal

pub returns-then-left-eq0-clause-value : goal.returns-then-left-eq0-clause-value
returns-then-left-eq0-clause-value g c = search (arith, used_first)

pub returns-then-left-eq0-clause-fresh : goal.returns-then-left-eq0-clause-fresh
returns-then-left-eq0-clause-fresh g c = search (arith, all_fresh)

made-here : (g : given.Over) (c : goal.After-from-left g)
    → c.from-left.result ≡ made_in (slot_of c.args.self.now.keeper.slots c.loop-slot.slot)
made-here g c = search (arith, ← c.self.view_is)

pub overflow_sub-left : goal.overflow_sub-left
overflow_sub-left g c = search (arith, made-here g c, made_left)

pub loop-slot-preserved : goal.loop-slot-preserved
loop-slot-preserved g c = rw (made-here g c) (search (arith, made_more, ended_more))

pub returns-clause-value : goal.returns-clause-value
returns-clause-value g c = search (
  arith,
  made_all c.args.self.now c.kept.ensures c.loop-slot.slot c.loop-slot.left,
  used_first c.args.self.now c.kept.ensures,
)
