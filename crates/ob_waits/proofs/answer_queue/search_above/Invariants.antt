use Rattle.ob_waits.proofs.Cited.{◌≡◌, ◌≤◌, ◌<◌, ◌-◌, ℕ, None, true, get_or, is_answered, Within}
use Rattle.ob_waits.proofs.answer_queue.search_above.Given as goal

abbrev pub invariant-loop-number : goal.invariant-loop-number
invariant-loop-number l = record {
  later : l.after ≤ l.last;
  least : (k : ℕ) → Within k l.numbers → l.after < k → is_answered (get_or l.waits k None) ≡ true → l.last < k;
}

abbrev pub decreases-loop-number : goal.decreases-loop-number
decreases-loop-number l = 4294967295 - l.last
