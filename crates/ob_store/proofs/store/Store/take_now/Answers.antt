use Rattle.ob_store.proofs.WaitedLaws.{kept_now, state_now}
use Rattle.ob_store.proofs.store.Store.take_now.Goals as goal

pub invariant_of-self : goal.invariant_of-self
invariant_of-self g c =
    kept_now _ _ _ c.args.mode c.args.ids.now c.try_now-code.ensures.rest c.try_now-code.ensures.objects c.self.invariant
    (rw (← c.self.view_is) at c.requires.alone) (rw (← c.self.view_is) at c.requires.live) _ c.try_now-code.ensures.code c.try_now-code.ensures.unready

pub returns-clause-taken : goal.returns-clause-taken
returns-clause-taken g c =
    rw (← c.self.view_is) (state_now _ _ _ c.args.mode c.args.ids.now c.try_now-code.ensures.rest c.try_now-code.ensures.objects (invariant_of-self g c)
    c.kept-2.ensures _ c.try_now-code.ensures.code)
