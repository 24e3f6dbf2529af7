use Rattle.ob_script.proofs.Cited.{◌≡◌, ◌++◌, ◌∷◌, take, flat_map, label}
use Rattle.ob_script.proofs.writing.Line.each.Given as goal

abbrev pub invariant-loop-handle : goal.invariant-loop-handle
invariant-loop-handle l = l.self ≡ l.fn.self ++ flat_map (λ handle. 32 ∷ label 104 handle)
    (take l.handle-index l.handles)
