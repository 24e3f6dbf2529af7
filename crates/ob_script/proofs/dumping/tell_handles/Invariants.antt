use Rattle.std.proofs.Common.{◌-◌}
use Rattle.ob_script.proofs.dumping.tell_handles.Given as goal

abbrev pub decreases-loop-handle : goal.decreases-loop-handle
decreases-loop-handle g l = 4294967295 - l.last
