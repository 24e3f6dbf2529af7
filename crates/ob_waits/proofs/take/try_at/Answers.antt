use Rattle.ob_waits.proofs.Cited.{◌≡◌, ◌∷◌, [], ◌∙◌, List, ap, arith, get_or, length, refl, Id, nowhere, objects_now}
use Rattle.ob_waits.proofs.take.try_at.Goals as goal

one : (ids : List Id) → length ids ≡ 1 → get_or ids 0 nowhere ∷ [] ≡ ids
one [] is = absurd (omega arith)
one (id ∷ []) is = refl
one (id ∷ other ∷ ids) is = absurd (omega arith)

pub returns-in-len1-clause-objects : goal.returns-in-len1-clause-objects
returns-in-len1-clause-objects g c = c.take_one.ensures.objects c.args.mode
    ∙ ap (objects_now c.args.mode c.args.thread (g.B.Bodies.objects c.args.bodies.now))
    (one c.args.ids.now (search arith))
