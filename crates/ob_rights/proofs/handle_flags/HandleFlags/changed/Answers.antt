use Rattle.ob_rights.proofs.Changing.{each_changed}
use Rattle.ob_rights.proofs.handle_flags.HandleFlags.changed.Goals as goal

pub returns-clause-each : goal.returns-clause-each
returns-clause-each c = λ bit low. each_changed c.args.self.0 c.args.mask c.args.given bit c.ranges.mask.fits low
