use Rattle.std.proofs.Common.{arith}
use Rattle.obman_c.specs.Telling.{object_of}
use Rattle.obman_c.proofs.Chains.{put_more}
use Rattle.obman_c.proofs.looking.put_objects.Goals as goal

pub loop-at-preserved : goal.loop-at-preserved
loop-at-preserved c = rw c.object_of.ensures (put_more object_of c.args.ids.now c.args.objects.now c.loop-at.objects
    c.loop-at.at _ (omega (arith, c.loop-at-test.true)) c.requires c.loop-at.invariant)
