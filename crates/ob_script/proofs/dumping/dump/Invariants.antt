use Rattle.std.proofs.Common.{◌-◌}
use Rattle.ob_script.proofs.dumping.dump.Given as goal

abbrev pub decreases-loop-process : goal.decreases-loop-process
decreases-loop-process g l = 4294967295 - l.last
