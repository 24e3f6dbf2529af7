use Rattle.ob_script.proofs.Cited.{◌≡◌, ◌++◌, ◌≤◌, length, take, are_handles, handles_in}
use Rattle.ob_script.proofs.grammar.read_handles.Given as goal

abbrev pub invariant-loop-handle : goal.invariant-loop-handle
invariant-loop-handle l = record {
  good : are_handles l.words ≡ are_handles l.fn.words;
  read : take 65 (l.handles.items ++ handles_in l.words) ≡ take 65 (handles_in l.fn.words);
  at_most : length l.handles.items ≤ 65;
}

abbrev pub decreases-loop-handle : goal.decreases-loop-handle
decreases-loop-handle l = length l.words
