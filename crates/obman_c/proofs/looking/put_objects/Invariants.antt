use Rattle.std.proofs.Common.{◌≡◌, ◌++◌, drop, map, take}
use Rattle.obman_c.specs.Telling.{object_of}
use Rattle.obman_c.proofs.looking.put_objects.Given as goal

abbrev pub invariant-loop-at : goal.invariant-loop-at
invariant-loop-at l = l.objects ≡ map object_of (take l.at l.fn.ids) ++ drop l.at l.fn.objects
