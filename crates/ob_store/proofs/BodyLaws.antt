-- What holds of bodies goes on so: their forms, their owners, the room that waits have, and that none is ready.
use Rattle.ob_store.proofs.Cited.{at_place, nat_tests, ◌≡◌, ℕ, ◌⊎◌, ◌<◌, List, length, Option, Some, None, arith, get_or, set, Bool, true, cond, is_some, Body, owner_of, is_signaled, Wait, Object, IsLive, AreFormed, AreOfLive, Yields, form_in, form_of, Scene}
use Rattle.ob_waits.specs.Waits.{settled}
use Rattle.ob_waits.specs.CountedBodies.{slot_signaled}
use Rattle.ob_waits.specs.Form.{slot_form}
use Rattle.ob_waits.proofs.Settling.{IsLess}
use Rattle.ob_waits.proofs.Staying.{settled_form, settled_owner, settled_thread}

-- a place that changes or stays
pub at_gone : (c : Bool) (bodies : List (Option Body)) (i k : ℕ)
    → (get_or (cond c (set bodies i None) bodies) k None ≡ get_or bodies k None)
    ⊎ (get_or (cond c (set bodies i None) bodies) k None ≡ None)
at_gone = grind (arith, nat_tests, at_place)

-- bodies that stay of their forms
pub formed_by : (clock : ℕ) (objects : List (Option Object)) (bodies after : List (Option Body))
    → ((k : ℕ) → is_some (get_or after k None) ≡ true
    → slot_form (get_or after k None) ≡ slot_form (get_or bodies k None)) → AreFormed clock objects bodies
    → AreFormed clock objects after
formed_by clock objects bodies after stays f = search arith

-- more threads are live
pub of_live_more : (threads threads' : List (Option ℕ)) (bodies : List (Option Body)) (ws : List (Option Wait))
    → ((t : ℕ) → IsLive threads t → IsLive threads' t) → AreOfLive threads bodies ws → AreOfLive threads' bodies ws
of_live_more threads threads' bodies ws more l = search arith

-- the waits settle
module _ (first : Scene) where
  pub formed_settled : (clock : ℕ) (objects : List (Option Object)) → AreFormed clock objects first.objects.bodies
      → AreFormed clock objects (settled first).objects.bodies
  formed_settled clock objects f = search (arith, formed_by, settled_form)

  pub of_live_settled : (threads : List (Option ℕ)) → AreOfLive threads first.objects.bodies first.waits
      → AreOfLive threads (settled first).objects.bodies (settled first).waits
  of_live_settled threads l = search (arith, settled_owner, settled_thread)

-- a body goes, or stays
module _ (c : Bool) (bodies : List (Option Body)) (i : ℕ) where
  pub of_live_gone : (threads : List (Option ℕ)) (ws : List (Option Wait)) → AreOfLive threads bodies ws
      → AreOfLive threads (cond c (set bodies i None) bodies) ws
  of_live_gone threads ws l = search (arith, at_gone)

-- a new object's body comes to a slot that no wait names
module _ (bodies : List (Option Body)) (k : ℕ) (b : Body) where
  pub formed_added : (clock : ℕ) (objects : List (Option Object)) (o : Object) → k < length objects → k < length bodies
      → form_of b ≡ form_in o.descr → AreFormed clock objects bodies
      → AreFormed clock (set objects k (Some o)) (set bodies k (Some b))
  formed_added clock objects o within bodied form f = grind (arith, nat_tests, at_place)

  pub of_live_added : (threads : List (Option ℕ)) (ws : List (Option Wait))
      → ((t : ℕ) → owner_of b ≡ Some t → IsLive threads t) → AreOfLive threads bodies ws
      → AreOfLive threads (set bodies k (Some b)) ws
  of_live_added threads ws live l = grind (arith, nat_tests, at_place)

-- a call's change of a body
module _ (bodies : List (Option Body)) (k : ℕ) (old new : Body) (clock : ℕ) (there : get_or bodies k None ≡ Some old)
    (yields : Yields clock old new) where
  pub formed_put : (objects : List (Option Object)) → AreFormed clock objects bodies
      → AreFormed clock objects (set bodies k (Some new))
  formed_put objects f = grind (arith, nat_tests, at_place)

  pub of_live_put : (threads : List (Option ℕ)) (ws : List (Option Wait)) → AreOfLive threads bodies ws
      → AreOfLive threads (set bodies k (Some new)) ws
  of_live_put threads ws l = record {
    owners = λ j t h. grind (arith, nat_tests, at_place, l.owners j t);
    waiters = l.waiters;
  }

  pub less_put : ((t : ℕ) → is_signaled t new ≡ true → is_signaled t old ≡ true)
      → IsLess bodies (set bodies k (Some new))
  less_put less = grind (arith, nat_tests, at_place)

-- what is signaled is there
pub signaled_some : (thread : ℕ) (b : Option Body) → slot_signaled thread b ≡ true → is_some b ≡ true
signaled_some = search arith
