use Rattle.ob_waits.proofs.Cited.{arith}
use Rattle.ob_waits.proofs.ListedLaws.{listed_removed}
use Rattle.ob_waits.proofs.ByThreadLaws.{known_held, left_found, left_thread}
use Rattle.ob_waits.proofs.numbered.Numbered.remove.Goals as goal

pub invariant_of-self : goal.invariant_of-self
invariant_of-self c =
    let at = known_held c.self.invariant.0 c.args.thread c.args.number (rw (← c.self.view_is) at c.requires) in
    search (arith, left_thread)

pub returns : goal.returns
returns c =
    let at = known_held c.self.invariant.0 c.args.thread c.args.number (rw (← c.self.view_is) at c.requires) in
    rw (← c.self.view_is) (search (arith, listed_removed, left_found))
