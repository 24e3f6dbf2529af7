use Rattle.std.proofs.Common.{◌-◌, length}
use Rattle.ob_script.proofs.dumping.tell_objects.Given as goal

abbrev pub decreases-loop-id : goal.decreases-loop-id
decreases-loop-id g l = 4294967296 - l.from

abbrev pub decreases-loop-rest : goal.decreases-loop-rest
decreases-loop-rest g l = length l.rest
