use Rattle.std.proofs.Common.{arith, ◌+◌}
use Rattle.std.proofs.lemmas.Bool.Decides.{nat_tests}
use Rattle.std.proofs.lemmas.List.{drop_more}
use Rattle.ob_name.proofs.name.is_four.Goals as goal

pub returns : goal.returns
returns c = let next = drop_more c.args.base.now in
    grind (arith, nat_tests, next c.args.at 0, next (c.args.at + 1) 0, next (c.args.at + 2) 0, next (c.args.at + 3) 0)
