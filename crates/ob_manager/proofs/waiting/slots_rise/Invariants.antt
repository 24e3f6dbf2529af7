use Rattle.std.proofs.Common.{◌≡◌, drop}
use Rattle.ob_manager.specs.Rising.{place_of_object, rise}
use Rattle.ob_manager.proofs.waiting.slots_rise.Given as goal

abbrev pub invariant-loop-id : goal.invariant-loop-id
invariant-loop-id l = rise place_of_object l.last (drop l.id-index l.ids) ≡ rise place_of_object 0 l.ids
