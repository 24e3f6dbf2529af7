use Rattle.std.proofs.Common.{arith, ap}
use Rattle.least.specs.Taken.{least_free}
use Rattle.least.proofs.SpareLemmas.{least-with_spare}
use Rattle.least.proofs.free.LeastFree.least.Goals as goal

pub returns-in-Some-clause-value : goal.returns-in-Some-clause-value
returns-in-Some-clause-value c =
    omega (
      arith,
      ap least_free c.self.view_is,
      least-with_spare c.self.inside.levels c.self.inside.spare
          c.in-Some.spare c.self.invariant c.in-Some.is,
    )

pub returns-in_default-clause-value : goal.returns-in_default-clause-value
returns-in_default-clause-value c =
    omega (
      arith,
      ap least_free c.self.view_is,
      least-with_spare c.self.inside.levels c.self.inside.spare
          c.in-Some.spare c.self.invariant c.in-Some.is,
    )
