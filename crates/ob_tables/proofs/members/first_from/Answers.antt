use Rattle.ob_tables.specs.Members.{key}
use Rattle.ob_tables.proofs.MemberLaws.{first_is, first_of}
use Rattle.ob_tables.proofs.members.first_from.Goals as goal

pub returns-in-Some : goal.returns-in-Some
returns-in-Some c = λ threads are.
    let range = rw (c.new.ensures.start, c.new.ensures.end, c.key.ensures, c.key-2.ensures) at
    (c.range-range.ensures.in_range c.new.ensures.exhausted) in
    let is = first_of c.args.members.now (key c.args.process c.args.from) (key c.args.process 4294967295)
    c.in-Some.member.now _ _ c.in-Some.ensures.steps range in
    first_is c.args.members.now c.args.process c.args.from threads are c.in-Some.member.now is.above is.below is.there
    is.least
