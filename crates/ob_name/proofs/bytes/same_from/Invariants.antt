use Rattle.std.proofs.Common.{◌≡◌, drop}
use Rattle.std.specs.Str.{bytes_eq}
use Rattle.ob_name.proofs.bytes.same_from.Given as goal

abbrev pub invariant-loop-place : goal.invariant-loop-place
invariant-loop-place l = bytes_eq (drop l.from l.text) (drop l.from l.other)
    ≡ bytes_eq (drop l.place l.text) (drop l.place l.other)
