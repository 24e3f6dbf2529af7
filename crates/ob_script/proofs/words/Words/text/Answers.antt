use Rattle.ob_script.proofs.Cuts.{text_left}
use Rattle.ob_script.proofs.words.Words.text.Goals as goal

pub returns : goal.returns
returns c = text_left c.self.inside.rest c.args.self c.self.view_is
