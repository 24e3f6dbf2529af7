use Rattle.ob_waits.proofs.RenewedLaws.{alone_renewed}
use Rattle.ob_waits.proofs.waits.Waits.add_renewed.Goals as goal

pub add-requires-clause-alone : goal.add-requires-clause-alone
add-requires-clause-alone c = rw c.in_ok-copy_all.ensures
    (alone_renewed c.args.thread c.self.inside.live (rw (← c.self.view_is) at c.requires.alone))
