use Rattle.ob_waits.proofs.NumberLaws.{ordered_thinned}
use Rattle.ob_waits.proofs.rising_numbers.RisingNumbers.enter.Goals as goal

pub append-requires : goal.append-requires
append-requires c = record {
  ordered = ordered_thinned c.args.number c.args.live.now c.replace.new.self c.thin_if_due.new.self c.thin_if_due.ensures
      c.replace.ensures.ordered;
  above = λ k i. c.in_default.ensures.above k (c.thin_if_due.ensures.only k i);
}

pub returns-in_err-append-clause-keeps : goal.returns-in_err-append-clause-keeps
returns-in_err-append-clause-keeps c = record {
  each = λ k pending i. c.append.ensures.keeps k (c.thin_if_due.ensures.keeps k pending
      (c.replace.ensures.keeps.each k pending i));
}

pub returns-clause-keeps : goal.returns-clause-keeps
returns-clause-keeps c = record {
  each = λ k pending i. c.append.ensures.keeps k (c.thin_if_due.ensures.keeps k pending
      (c.replace.ensures.keeps.each k pending i));
}
