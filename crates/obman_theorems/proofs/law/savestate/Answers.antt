use Rattle.obman_theorems.proofs.Histories.{both_ok}
use Rattle.obman_theorems.proofs.Saving.{is_saved}
use Rattle.obman_theorems.proofs.law.savestate.Goals as goal

pub returns : goal.returns
returns g c =
    both_ok c.save.result (λ bytes saved again. is_saved c.args.manager.now bytes.items c.kept.ensures saved again)
    c.save.ensures.saved c.save.ensures.again
