use Rattle.ob_waits.proofs.Cited.{sym, arith, at_place}
use Rattle.ob_waits.proofs.TrackedLaws.{number_own}
use Rattle.ob_waits.proofs.waits.Waits.drop_thread.Goals as goal

pub remove-requires : goal.remove-requires
remove-requires c = number_own c.self.inside.live c.args.thread c.in-Some.number (sym c.in-Some.ensures.number)

pub invariant_of-self : goal.invariant_of-self
invariant_of-self c =
    grind (arith, at_place)
