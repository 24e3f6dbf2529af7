use Rattle.std.proofs.Common.{◌-◌}
use Rattle.ob_script.proofs.dumping.tell_threads.Given as goal

abbrev pub decreases-loop-thread : goal.decreases-loop-thread
decreases-loop-thread g l = 4294967295 - l.last
