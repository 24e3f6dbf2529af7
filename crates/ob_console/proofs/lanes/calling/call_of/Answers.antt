use Rattle.ob_console.proofs.lanes.calling.call_of.Goals as goal

pub returns-in_default : goal.returns-in_default
returns-in_default c = c.named.ensures.call (λ _. c.args.handles.now)
