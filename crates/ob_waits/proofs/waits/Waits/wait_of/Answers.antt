use Rattle.ob_waits.proofs.Cited.{◌≤◌, arith, length, subst, WaitsInvariant, WaitList}
use Rattle.ob_waits.proofs.waits.Waits.wait_of.Goals as goal

pub returns-clause-kept : goal.returns-clause-kept
returns-clause-kept c = subst (λ (l : WaitList). WaitsInvariant l.waits) c.self.view_is c.self.invariant.0.kept

pub returns-clause-at_most : goal.returns-clause-at_most
returns-clause-at_most c = subst (λ (l : WaitList). length l.waits ≤ 4294967296) c.self.view_is (search arith)
