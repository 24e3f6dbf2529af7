use Rattle.std.proofs.Common.{arith}
use Rattle.least.proofs.NextLemmas.{in_next_word}
use Rattle.least.proofs.levels.next_word.Goals as goal

pub returns : goal.returns
returns c =
    search (arith, in_next_word, c.in_default.ensures.least, c.in_ok-m.ensures.least, c.lowest_in.ensures.least, c.lowest_in.ensures.within, c.requires.summed)
