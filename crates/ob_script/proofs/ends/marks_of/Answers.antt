use Rattle.ob_script.proofs.Marked.{marks_compared}
use Rattle.ob_script.proofs.ends.marks_of.Goals as goal

pub returns : goal.returns
returns c = marks_compared c.args.byte c.args.bytes c.fits-bytes.0
