use Rattle.ob_waits.proofs.Cited.{◌≡◌, ap, ◌∙◌, sym, subst, [], ◌∷◌, arith, Scene, passed, settled}
use Rattle.ob_waits.proofs.Keeping.{Fade, fade_both, fits_passed, passed_fades}
use Rattle.ob_waits.proofs.MergeLaws.{goes, all_gone}
use Rattle.ob_waits.proofs.TrackedLaws.{lists_faded}
use Rattle.ob_waits.proofs.pass.pass_some.Goals as goal

pub loop-init : goal.loop-init
loop-init g c =
    grind arith

pub next_number-requires : goal.next_number-requires
next_number-requires g c = lists_faded c.args.live.now c.loop.live c.args.pending_index.now.order c.args.pending_index.now.index
    c.loop.invariant.fade c.requires.right

pub loop-preserved : goal.loop-preserved
loop-preserved g c =
    let m = c.in-Some.number in
    let scene : Scene = record { objects = g.B.Bodies.objects c.loop.bodies; waits = c.loop.live } in
    let after : Scene = record { objects = g.B.Bodies.objects c.take_effect.new.bodies; waits = c.take_effect.new.live }
    in
    let is : after ≡ passed (m ∷ []) scene = c.take_effect.ensures.scene in
    let step = goes c.loop.last c.args.pending_index.now.index c.args.ids.now scene c.loop.invariant.remains m
    c.in-Some.ensures in
    record {
      same = ap settled is ∙ step.same ∙ c.loop.invariant.same;
      rest = c.take_effect.ensures.rest ∙ c.loop.invariant.rest;
      covers = search arith;
      remains = search arith;
      fits = fits_passed 2147483647 (m ∷ []) scene after is c.loop.invariant.fits;
      fade = subst (λ (s : Scene). Fade c.args.live.now s.waits) (sym is)
          (fade_both c.args.live.now scene.waits (passed (m ∷ []) scene).waits c.loop.invariant.fade
          (passed_fades (m ∷ []) scene));
    }

pub returns-in_default-clause-all : goal.returns-in_default-clause-all
returns-in_default-clause-all g c = search (arith, all_gone, c.in_default.ensures)
