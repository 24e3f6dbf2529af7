use Rattle.std.proofs.Common.{◌≡◌, ◌*◌, drop}
use Rattle.std.specs.Str.{bytes_eq}
use Rattle.ob_name.proofs.bytes.same_eights.Given as goal

abbrev pub invariant-loop-number : goal.invariant-loop-number
invariant-loop-number l = bytes_eq l.text l.other ≡ bytes_eq (drop (l.number * 8) l.text) (drop (l.number * 8) l.other)
