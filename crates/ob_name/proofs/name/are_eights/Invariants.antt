use Rattle.std.proofs.Common.{◌≡◌, ◌*◌, drop}
use Rattle.std.specs.List.{list_all}
use Rattle.ob_name.specs.Texts.{is_base_byte}
use Rattle.ob_name.proofs.name.are_eights.Given as goal

abbrev pub invariant-loop-number : goal.invariant-loop-number
invariant-loop-number l = list_all is_base_byte l.base ≡ list_all is_base_byte (drop (l.number * 8) l.base)
