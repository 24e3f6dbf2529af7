use Rattle.ob_waits.proofs.Cited.{arith}
use Rattle.ob_waits.proofs.ListedLaws.{listed_updated}
use Rattle.ob_waits.proofs.ByThreadLaws.{answered_by_thread, answered_found, known_held, number_reads}
use Rattle.ob_waits.proofs.numbered.Numbered.answer.Goals as goal

pub invariant_of-self : goal.invariant_of-self
invariant_of-self c = (answered_by_thread _ _ _ _ _ _ c.self.invariant.0 c.answer.ensures, c.self.invariant.1)

pub returns : goal.returns
returns c n own = let at = known_held c.self.invariant.0 c.args.thread n (rw (← c.self.view_is) at own) in
    rw (← c.self.view_is, number_reads c.self.invariant.0 n) (search (arith, listed_updated, answered_found))
