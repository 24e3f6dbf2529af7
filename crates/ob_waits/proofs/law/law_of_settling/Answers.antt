use Rattle.ob_waits.proofs.Settling.{settled_same}
use Rattle.ob_waits.proofs.References.{settled_has_blocks}
use Rattle.ob_waits.proofs.Ends.{sizes_settled}
use Rattle.ob_waits.proofs.Staying.{settled_thread, settled_pending, settled_form, settled_owner}
use Rattle.ob_waits.proofs.law.law_of_settling.Goals as goal

pub returns : goal.returns
returns c = record {
  settled = settled_same;
  threads = settled_thread;
  pending = settled_pending;
  handles = λ scene. (sizes_settled scene).handles;
  blocks = settled_has_blocks;
  forms = settled_form;
  owners = settled_owner;
}
