use Rattle.ob_waits.proofs.Cited.{◌≡◌, ◌<◌, ◌∷◌, [], ◌∙◌, List, None, ℕ, ap, eqb, get_or, length, rules, subst, sym, arith, numbers_of, IsReadyBy, IsSpent, Scene, is_pending, passed, settled}
use Rattle.ob_waits.proofs.Keeping.{Fade, fade_both, fits_passed, passed_fades}
use Rattle.ob_waits.proofs.NumberLaws.{thins_none}
use Rattle.ob_waits.proofs.PassLaws.{by_passed, covered_all, covers_slot, settled_spent, steps_on, thins_on}
use Rattle.ob_waits.proofs.Settling.{settled_same}
use Rattle.ob_waits.proofs.pass.pass_slot.Goals as goal

pub loop-at-init : goal.loop-at-init
loop-at-init g c = search (arith, covers_slot, thins_none)

pub loop-at-preserved : goal.loop-at-preserved
loop-at-preserved g c =
    let ns : List ℕ = numbers_of c.args.pending_index.now.index c.args.id.slot in
    let scene : Scene = record { objects = g.B.Bodies.objects c.loop-at.bodies; waits = c.loop-at.live } in
    let after : Scene = record { objects = g.B.Bodies.objects c.take_effect-is_over.new.bodies; waits = c.take_effect-is_over.new.live }
    in
    let next : Scene = passed (get_or ns c.loop-at.at 0 ∷ []) scene in
    let lt : c.loop-at.at < length ns = search rules in
    let step = steps_on ns c.loop-at.at scene lt (c.requires.right.index_rises.each c.args.id.slot).rising
    c.loop-at.invariant.covers in
    let is : after ≡ next = search rules in
    let pending : c.take_effect-is_over.result ≡ is_pending (get_or c.take_effect-is_over.new.live (get_or ns c.loop-at.at 0) None) =
    search rules in
    record {
      same = ap settled is ∙ step.same ∙ c.loop-at.invariant.same;
      rest = c.take_effect-is_over.ensures.rest ∙ c.loop-at.invariant.rest;
      covers = search arith;
      fits = fits_passed 2147483647 (get_or ns c.loop-at.at 0 ∷ []) scene after is c.loop-at.invariant.fits;
      ready = subst (λ (s : Scene). IsReadyBy (λ k. eqb k c.args.id.slot) s.objects.bodies s.waits) (sym is)
          (search (arith, by_passed));
      fade = subst (λ (s : Scene). Fade c.args.live.now s.waits) (sym is)
          (fade_both c.args.live.now scene.waits next.waits c.loop-at.invariant.fade
          (passed_fades (get_or ns c.loop-at.at 0 ∷ []) scene));
      all = rw c.latest-over.ensures (thins_on c.loop-at.live c.take_effect-is_over.new.live ns c.loop-at.at c.loop-at.over c.loop-at.all
          c.take_effect-is_over.result
          (subst (λ (s : Scene). Fade scene.waits s.waits) (sym is) (passed_fades (get_or ns c.loop-at.at 0 ∷ []) scene))
          lt pending c.loop-at.invariant.whole c.loop-at.invariant.all);
      most = grind arith;
      whole = grind arith;
    }

pub returns-then-not-is_open-clause-scene : goal.returns-then-not-is_open-clause-scene
returns-then-not-is_open-clause-scene g c =
    let scene : Scene = record { objects = g.B.Bodies.objects c.loop-at.bodies; waits = c.loop-at.live } in
    let spent : IsSpent scene.objects.bodies scene.waits c.args.id.slot = c.is_open.ensures (search rules) in
    sym (settled_same scene (settled_spent (λ k. eqb k c.args.id.slot) scene.objects.bodies scene.waits
    c.loop-at.invariant.ready
    (λ k is. let same : c.args.id.slot ≡ k = grind arith in
    subst (IsSpent scene.objects.bodies scene.waits) same spent)))
    ∙ c.loop-at.invariant.same

pub returns-clause-scene : goal.returns-clause-scene
returns-clause-scene g c =
    search (arith, covered_all)
