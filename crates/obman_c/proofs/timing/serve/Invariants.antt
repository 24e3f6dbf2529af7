use Rattle.std.proofs.Common.{◌≡◌, ◌<◌, ◌-◌}
use Rattle.std.specs.Prelude.{◌⊎◌}
use Rattle.obman_c.specs.Timing.{Serves}
use Rattle.obman_c.proofs.timing.serve.Given as goal

abbrev pub invariant-loop-due : goal.invariant-loop-due
invariant-loop-due l = record {
  served : Serves l.moment l.fn.held l.held;
  still : (l.held ≡ l.fn.held) ⊎ (l.held.manager.state.clock < l.moment);
}

abbrev pub decreases-loop-due : goal.decreases-loop-due
decreases-loop-due l = l.moment - l.held.manager.state.clock
