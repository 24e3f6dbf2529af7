-- What settling leaves as it is: whose wait each is, the waits that stay pending, the forms of bodies, the owners that
-- are no waiter.
use Rattle.ob_waits.proofs.Cited.{arith, ◌≡◌, ◌⊎◌, ℕ, List, Option, Some, None, ap, get_or, true, is_some, Id, Body, Mode, Wait, State, Pending, Answered, slot_acquired, slot_form, slot_owner, HasWait, thread_of, bodies_after, is_pending, Scene, effect_of, effect_at, settled}
use Rattle.ob_waits.proofs.Settling.{settled_by_effects}
use Rattle.ob_waits.proofs.Keeping.{Fade, fade_both, effect_fades}
use Rattle.ob_waits.proofs.EachSlot.{EachSlot, slots-satisfied, slots-taken}

-- a slot has the body that it had, or one that a waiter took, or none
pub record Stays (waits : List (Option Wait)) (old new : Option Body) : Type 0 where
  pub form : is_some new ≡ true → slot_form new ≡ slot_form old
  pub owner : (t : ℕ) → slot_owner new ≡ Some t → (slot_owner old ≡ Some t) ⊎ HasWait t waits

stays_same : (ws : List (Option Wait)) (x : Option Body) → Stays ws x x
stays_same ws x = search arith

stays_none : (ws : List (Option Wait)) (x : Option Body) → Stays ws x None
stays_none ws x = search arith

stays_both : (ws ws' : List (Option Wait)) → ((t : ℕ) → HasWait t ws' → HasWait t ws) → (x y z : Option Body)
    → Stays ws x y → Stays ws' y z → Stays ws x z
stays_both ws ws' waiters x y z a b = search arith

stays_taken : (ws : List (Option Wait)) (u : ℕ) → HasWait u ws → (x : Option Body) → Stays ws x (slot_acquired u x)
stays_taken ws u waits x = search arith

-- and so do all slots
abbrev AllStay : List (Option Wait) → List (Option Body) → List (Option Body) → Type 0
AllStay ws = EachSlot (Stays ws)

stays_on : (ws : List (Option Wait)) (x y z : Option Body) → Stays ws x y → Stays ws y z → Stays ws x z
stays_on ws = stays_both ws ws (λ t h. h)

pub taken : (ws : List (Option Wait)) (u : ℕ) → HasWait u ws
    → (mode : Mode) (ids : List Id) (bodies : List (Option Body)) → AllStay ws bodies (bodies_after mode u bodies ids)
taken ws u waits = search (arith, stays_same, stays_taken, stays_on, slots-taken)

-- one wait after another takes effect
pub record Stay (scene after : Scene) : Type 0 where
  pub fade : Fade scene.waits after.waits
  pub bodies : (k : ℕ) → Stays scene.waits (get_or scene.objects.bodies k None) (get_or after.objects.bodies k None)

stay_of : (scene : Scene) (n : ℕ) (w : Wait) (st : State) → get_or scene.waits n None ≡ Some w
    → AllStay scene.waits scene.objects.bodies (effect_of scene n w st).objects.bodies
stay_of scene n w (Pending mode ids) own =
    search (arith, slots-satisfied (Stays scene.waits), stays_same, stays_on, stays_taken, stays_none, ap thread_of own)
stay_of scene n w (Answered code) own = search arith

stay_at : (scene : Scene) (n : ℕ) (w : Option Wait) → get_or scene.waits n None ≡ w
    → AllStay scene.waits scene.objects.bodies (effect_at scene n w).objects.bodies
stay_at scene n None own = search arith
stay_at scene n (Some w) own = stay_of scene n w w.state own

stay_both : (a b c : Scene) → Stay a b → Stay b c → Stay a c
stay_both a b c x y = record { fade = search (arith, fade_both); bodies = search arith }

-- The theorem.
pub settled_stays : (scene : Scene) → Stay scene (settled scene)
settled_stays scene = settled_by_effects Stay (search arith) stay_both (search (arith, stay_at, effect_fades)) scene

pub settled_thread : (scene : Scene) (n : ℕ) → thread_of (get_or (settled scene).waits n None)
    ≡ thread_of (get_or scene.waits n None)
settled_thread scene n = ((settled_stays scene).fade.each n).thread

pub settled_pending : (scene : Scene) (n : ℕ) → is_pending (get_or (settled scene).waits n None) ≡ true
    → get_or (settled scene).waits n None ≡ get_or scene.waits n None
settled_pending scene n pending = ((settled_stays scene).fade.each n).stays pending

pub settled_form : (scene : Scene) (k : ℕ) → is_some (get_or (settled scene).objects.bodies k None) ≡ true
    → slot_form (get_or (settled scene).objects.bodies k None) ≡ slot_form (get_or scene.objects.bodies k None)
settled_form scene k some = ((settled_stays scene).bodies k).form some

pub settled_owner : (scene : Scene) (k t : ℕ) → slot_owner (get_or (settled scene).objects.bodies k None) ≡ Some t
    → (slot_owner (get_or scene.objects.bodies k None) ≡ Some t) ⊎ HasWait t scene.waits
settled_owner scene k t owns = ((settled_stays scene).bodies k).owner t owns
