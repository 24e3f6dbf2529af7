use Rattle.std.proofs.Common.{rules}
use Rattle.ob_waits.proofs.AnswerLaws.{least_told}
use Rattle.ob_waits.proofs.answered_numbers.AnsweredNumbers.least_above.Goals as goal

pub returns : goal.returns
returns c = least_told c.args.waits.now c.args.self.now c.args.after c.next_above.result c.out_of_order_above.result
    c.lesser.result c.requires
    c.next_above.ensures.answered c.next_above.ensures.above
    (search rules) c.out_of_order_above.ensures.answered c.out_of_order_above.ensures.above (search rules)
    c.lesser.ensures.either c.lesser.ensures.first c.lesser.ensures.second
