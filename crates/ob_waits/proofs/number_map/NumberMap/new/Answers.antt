use Rattle.std.proofs.Common.{refl, arith}
use Rattle.ob_waits.proofs.number_map.NumberMap.new.Goals as goal

pub returns-clause-number_map : goal.returns-clause-number_map
returns-clause-number_map c = record {
  placed = search arith;
  bits = 6;
  mask = refl;
}
