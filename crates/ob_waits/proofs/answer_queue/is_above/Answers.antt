use Rattle.std.proofs.Common.{◌≡◌, ◌<◌, ◌-◌, ℕ, List, arith, get_or, length, rules}
use Rattle.ob_waits.proofs.AnswerLaws.{above_all}
use Rattle.ob_waits.proofs.answer_queue.is_above.Goals as goal

pub returns-in-Some : goal.returns-in-Some
returns-in-Some c = λ rising above.
    let ns : List ℕ = c.args.numbers.now in
    let lt : c.in-Some.last.now < c.args.number = grind arith in
    let at : get_or ns (length ns - 1) 0 ≡ c.in-Some.last.now = search rules in
    above_all ns c.args.number (λ some. omega arith) rising
