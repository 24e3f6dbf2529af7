use Rattle.std.proofs.Common.{rules}
use Rattle.std.proofs.lemmas.Nat.Bits.{bit_at-trailing_zeros}
use mir.Syntax.{w64}
use Rattle.least.proofs.words.lowest.Goals as goal

pub returns-clause-set : goal.returns-clause-set
returns-clause-set c = (bit_at-trailing_zeros w64 c.args.word (search rules) (search rules)).1

pub returns-clause-least : goal.returns-clause-least
returns-clause-least c = (bit_at-trailing_zeros w64 c.args.word (search rules) (search rules)).2
