use Rattle.std.proofs.Common.{◌∙◌, sym, arith}
use Rattle.ob_shared.proofs.Blocking.{never_pending}
use Rattle.ob_shared.proofs.shared.Shared.block.Goals as goal

pub returns-in-Ok-clause-answered : goal.returns-in-Ok-clause-answered
returns-in-Ok-clause-answered g c = λ w is.
    let waited = c.wait_while-held.ensures in
    let ended = c.end_wait.ensures in
    let before = c.deref_mut-2.ensures.value in
    let after = c.deref_mut-3.ensures.value in
    never_pending _ _ c.args.wait w c.in-Ok.entered.reply (search arith)
    (rw c.in-Ok.is at c.enter-answer.ensures.step) (sym c.list.ensures.reply ∙ is)
