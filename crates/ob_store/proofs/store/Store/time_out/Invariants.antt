use Rattle.ob_store.proofs.Cited.{◌≡◌, ℕ, None, false, get_or, count_by, is_overdue, IsConsistent, settled, timed_out, slot_is_due}
use Rattle.ob_store.specs.Moves.{OnlyCloses}
use Rattle.ob_store.proofs.store.Store.time_out.Given as goal

abbrev pub invariant-loop-wait : goal.invariant-loop-wait
invariant-loop-wait g l = record {
  kept : IsConsistent l.self;
  same : settled (timed_out l.now l.self.state) ≡ settled (timed_out l.now l.fn.self.state);
  keeper : OnlyCloses l.fn.self.keeper l.self.keeper;
  undue : (k : ℕ) → slot_is_due l.now (get_or l.self.state.bodies k None) ≡ false;
  clock : l.self.state.clock ≡ l.fn.self.state.clock;
}

abbrev pub decreases-loop-wait : goal.decreases-loop-wait
decreases-loop-wait g l = count_by (is_overdue l.now) l.self.state.waits
