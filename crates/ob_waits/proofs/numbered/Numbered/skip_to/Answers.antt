use Rattle.ob_waits.proofs.Cited.{ap, arith, length, suc, found, thread_at}
use Rattle.ob_waits.proofs.ListedLaws.{length_listed}
use Rattle.ob_waits.proofs.ByThreadLaws.{by_thread_sparse}
use Rattle.ob_waits.proofs.SkipLaws.{listed_skipped, by_thread_skipped}
use Rattle.ob_waits.proofs.numbered.Numbered.skip_to.Goals as goal

pub invariant_of-self : goal.invariant_of-self
invariant_of-self c =
    let next = c.requires in
    let s = c.self.inside in
    let len = length_listed (suc s.given) (found s.by_thread.items (thread_at s.number_map)) in
    (by_thread_skipped (omega (arith, next, ap length c.self.view_is, len)) c.self.invariant.0, c.self.invariant.1)

pub returns : goal.returns
returns c = search (arith, length_listed, listed_skipped, by_thread_sparse, c.self.view_is)
