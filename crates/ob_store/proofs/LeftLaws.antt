-- Bodies that went, as references left.
use Rattle.ob_store.proofs.Cited.{◌≡◌, ℕ, List, [], ◌∷◌, Option, None, set, Bool, cond, arith, length-set, Id, Body, CountedBodies, without_block, without_blocks, HasBodies, Object, AreFormed, AreLeft, ended}
use Rattle.ob_waits.proofs.EndsLast.{is_ended}
use Rattle.ob_waits.proofs.Settling.{IsLess}
use Rattle.ob_store.proofs.BodyLaws.{at_gone}

pub left_same : (bodies : List (Option Body)) → AreLeft bodies bodies
left_same bodies = search arith

pub left_more : (a b c : List (Option Body)) → AreLeft a b → AreLeft b c → AreLeft a c
left_more a b c ab bc = search arith

pub left_gone : (c : Bool) (bodies : List (Option Body)) (i : ℕ) → AreLeft bodies (cond c (set bodies i None) bodies)
left_gone c bodies i = search (arith, at_gone, length-set)

pub left_blocks : (ids : List Id) (o : CountedBodies) → AreLeft o.bodies (without_blocks o ids).bodies
left_blocks [] o = search (arith, left_same)
left_blocks (id ∷ ids) o = search (arith, left_more, left_gone, left_blocks ids (without_block o id))

-- they signal nothing
pub less_gone : (bodies after : List (Option Body)) → AreLeft bodies after → IsLess bodies after
less_gone bodies after left = search arith

-- the others are of their forms
pub formed_left : (clock : ℕ) (objects : List (Option Object)) (bodies after : List (Option Body))
    → AreLeft bodies after → AreFormed clock objects bodies → AreFormed clock objects after
formed_left clock objects bodies after left = search arith

pub ended_gone : (after : CountedBodies) (bodies : List (Option Body)) → HasBodies after → AreLeft bodies after.bodies
    → ended (record after { bodies = bodies }) ≡ after
ended_gone after bodies has left =
    let is = is_ended (record after { bodies = bodies }) after.bodies left.length_is (search (arith, left.each)) in
    search (arith, is)
