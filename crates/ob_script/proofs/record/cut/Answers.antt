use Rattle.ob_script.proofs.Cited.{arith, length-take-le, sym, take_all}
use Rattle.ob_script.proofs.record.cut.Goals as goal

pub slice_bounds-result-end : goal.slice_bounds-result-end
slice_bounds-result-end c = sym (length-take-le 4094 c.args.text.now (omega (arith, c.if-text-gt-TEXT_MOST.true)))

pub returns-else-text-gt-TEXT_MOST : goal.returns-else-text-gt-TEXT_MOST
returns-else-text-gt-TEXT_MOST c = search (arith, take_all)
