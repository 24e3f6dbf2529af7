use Rattle.ob_store.proofs.Cited.{◌≡◌, ℕ, ◌-◌, ◌<◌, ◌≤◌, Some, None, length, get_or, KeeperState, threads_ended, parts_of, State, IsEnding}
use Rattle.ob_store.proofs.parts.Parts.end_all.Given as goal

abbrev pub invariant-loop-thread : goal.invariant-loop-thread
invariant-loop-thread g l = record {
  carries : (first : KeeperState) (s : State) → IsEnding first (parts_of l.fn.self) s
      → IsEnding first (parts_of l.self) (threads_ended s l.process l.from);
  count : length l.self.processes.threads ≡ length l.fn.self.processes.threads;
  within : l.from ≤ length l.fn.self.processes.threads;
  ended : (t : ℕ) → t < l.from → get_or l.self.processes.threads t None ≡ Some l.process → ⊥;
}

abbrev pub decreases-loop-thread : goal.decreases-loop-thread
decreases-loop-thread g l = length l.self.processes.threads - l.from
