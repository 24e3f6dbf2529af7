use Rattle.ob_waits.proofs.Cited.{◌≡◌, ◌<◌, ℕ, None, false, get_or, Within, numbers_of, AreOrdered, KeepsEach, is_pending, nowhere}
use Rattle.ob_waits.proofs.index.Index.enter_all.Given as goal

abbrev pub invariant-loop-id : goal.invariant-loop-id
invariant-loop-id l = record {
  lists : AreOrdered l.number l.self;
  keeps : KeepsEach l.live l.fn.self l.self;
  entered : (i : ℕ) → i < l.id-index → Within l.number (numbers_of l.self (get_or l.ids i nowhere).slot);
  over : is_pending (get_or l.live l.over None) ≡ false;
}
