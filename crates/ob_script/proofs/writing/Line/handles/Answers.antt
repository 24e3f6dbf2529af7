use Rattle.ob_script.proofs.Cited.{arith, flat_map-map}
use Rattle.ob_script.proofs.writing.Line.handles.Goals as goal

pub returns : goal.returns
returns c = search (arith, flat_map-map)
