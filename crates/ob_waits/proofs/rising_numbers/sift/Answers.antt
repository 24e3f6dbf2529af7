use Rattle.ob_waits.proofs.Cited.{arith, at_place, get_or_default}
use Rattle.ob_waits.proofs.NumberLaws.{sift_kept}
use Rattle.ob_waits.proofs.rising_numbers.sift.Goals as goal

pub loop-at-preserved-then-is_pending : goal.loop-at-preserved-then-is_pending
loop-at-preserved-then-is_pending c =
    grind (arith, at_place, get_or_default, sift_kept)
