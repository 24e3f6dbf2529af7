use Rattle.std.proofs.Common.{arith}
use Rattle.std.proofs.lemmas.Grind.{common_steps}
use Rattle.pin_words.proofs.Apart.{laid_more}
use Rattle.pin_words.proofs.places.lay_all.Goals as goal

pub loop-i-preserved : goal.loop-i-preserved
loop-i-preserved c = search (arith, laid_more, common_steps)
