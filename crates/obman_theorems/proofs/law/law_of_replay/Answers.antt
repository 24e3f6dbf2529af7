use Rattle.ob_console.proofs.Retold.{history_rerun}
use Rattle.obman_theorems.proofs.law.law_of_replay.Goals as goal

pub returns : goal.returns
returns c = λ from journal w output first last history fits at more answers. record {
  retells = history_rerun from journal w output first last history fits at more answers;
}
