use Rattle.ob_waits.proofs.Cited.{◌<◌, ◌∷◌, [], ◌∙◌, ap, get_or, length, rules, arith, Scene, settled}
use Rattle.ob_waits.proofs.Keeping.{fits_passed}
use Rattle.ob_waits.proofs.PassLaws.{steps_on}
use Rattle.ob_waits.proofs.pass.pass.Goals as goal

pub loop-number-preserved : goal.loop-number-preserved
loop-number-preserved g c =
    let scene : Scene = record { objects = g.B.Bodies.objects c.loop-number.bodies; waits = c.loop-number.live } in
    let after : Scene = record { objects = g.B.Bodies.objects c.take_effect.new.bodies; waits = c.take_effect.new.live }
    in
    let lt : c.loop-number.number-index < length c.args.numbers.now = search rules in
    let step = steps_on c.args.numbers.now c.loop-number.number-index scene lt c.requires.rising
    c.loop-number.invariant.covers in
    let is = c.take_effect.ensures.scene in
    record {
      same = ap settled is ∙ step.same ∙ c.loop-number.invariant.same;
      rest = c.take_effect.ensures.rest ∙ c.loop-number.invariant.rest;
      covers = search arith;
      fits = fits_passed 2147483647 (get_or c.args.numbers.now c.loop-number.number-index 0
          ∷ []) scene after is c.loop-number.invariant.fits;
    }
