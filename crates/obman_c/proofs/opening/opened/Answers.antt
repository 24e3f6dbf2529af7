use Rattle.std.proofs.Common.{refl}
use Rattle.obman_c.specs.Opening.{opens}
use Rattle.obman_c.proofs.Opened.{same_but_ways}
use Rattle.obman_c.proofs.opening.opened.Goals as goal

-- the manager of the box is at the place
pub returns-in-Ok-held : goal.returns-in-Ok-held
returns-in-Ok-held c = let new = c.in-Ok-held.ensures.new in
    opens c.with_repeats.result new.0
    (rw (c.with_repeats.ensures, c.with_reuse.ensures) (same_but_ways c.args.reuse c.args.repeats c.in-Ok.ensures.same))
    (rw (c.with_repeats.ensures, c.with_reuse.ensures) refl) (rw c.with_repeats.ensures refl) refl
    (rw new.1 at c.of.ensures)
