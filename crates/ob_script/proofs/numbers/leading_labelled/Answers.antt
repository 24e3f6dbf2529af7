use Rattle.ob_script.proofs.Cited.{rules}
use Rattle.ob_script.proofs.Leading.{behind_letter}
use Rattle.ob_script.proofs.numbers.leading_labelled.Goals as goal

pub returns-in-len1-up-clause-some : goal.returns-in-len1-up-clause-some
returns-in-len1-up-clause-some c =
    behind_letter c.args.letter c.args.text.now _ c.requires (search rules) (search rules) c.leading_number.ensures.some
