use Rattle.std.proofs.Common.{◌∙◌}
use Rattle.ob_manager.proofs.OwnParts.{own_parts}
use Rattle.ob_manager.proofs.call.Call.plain_copy.Goals as goal

pub returns : goal.returns
returns c = c.plain.ensures (λ m. m) (λ t. t) (λ h. h) ∙ own_parts c.args.self.now
