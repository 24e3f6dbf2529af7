use Rattle.ob_console.proofs.Retold.{history_rerun, history_retold}
use Rattle.ob_console.proofs.law.law_of_replay.Goals as goal

pub returns : goal.returns
returns c = record { prints = history_retold; state = history_rerun }
