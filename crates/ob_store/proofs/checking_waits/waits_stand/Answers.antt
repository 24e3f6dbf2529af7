use Rattle.ob_store.proofs.Cited.{◌∙◌, length, sym, arith}
use Rattle.ob_store.proofs.SavedWaitLaws.{waits_next, waits_pass}
use Rattle.ob_store.proofs.checking_waits.waits_stand.Goals as goal

pub loop-thread-preserved : goal.loop-thread-preserved
loop-thread-preserved c = waits_next c.args.limits.max_recursion c.args.processes.now.threads c.args.objects.now
    c.args.waits.now.waits c.loop-thread.thread c.loop-thread.invariant
    (sym c.wait_stands.ensures ∙ c.if-not-wait_stands.false)

pub returns : goal.returns
returns c = sym (waits_pass c.args.limits.max_recursion c.args.processes.now.threads c.args.objects.now
    c.args.waits.now.waits (length c.args.processes.now.threads) c.args.limits.slots c.wait_of.ensures.kept c.requires
    (λ t lt. c.loop-thread.invariant t (omega (arith, lt, c.thread_places-thread-end.ensures, c.loop-thread-test.false))))
