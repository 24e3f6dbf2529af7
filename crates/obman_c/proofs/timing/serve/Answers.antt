use Rattle.std.proofs.Common.{inl, inr, refl, arith}
use Rattle.obman_c.specs.Timing.{TicksNext, none, more}
use Rattle.obman_c.proofs.Timed.{goes}
use Rattle.obman_c.proofs.timing.serve.Goals as goal

pub loop-due-init : goal.loop-due-init
loop-due-init c = record { served = none; still = inl refl }

pub loop-due-preserved : goal.loop-due-preserved
loop-due-preserved c =
    let e = c.in-Some.ensures in
    let made = rw e.same at c.call.ensures in
    let on = goes _ c.call.new.self.manager c.in-Some.due _ (omega (arith, e.after)) e.last made.step in
    let next : TicksNext c.args.moment c.loop-due.held c.in-Some.due c.call.new.self =
    record { next = e.next; before = e.before; made = rw on.0 at made } in
    record { served = more c.loop-due.invariant.served next; still = inr (omega (arith, on.1, e.before)) }

pub returns-clause-all : goal.returns-clause-all
returns-clause-all c due least = c.in_default.ensures.none due (rw c.in_default.ensures.same at least)
