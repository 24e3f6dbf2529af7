use Rattle.std.proofs.Common.{◌<◌, length}
use Rattle.ob_waits.proofs.PlaceLaws.{Spreads}
use Rattle.ob_waits.proofs.number_map.spread.Given as goal

abbrev pub invariant-loop-entry : goal.invariant-loop-entry
invariant-loop-entry l = record {
  room : l.mask < length l.places.items;
  spread : Spreads l.entry-index l.mask l.from l.places.items;
}
