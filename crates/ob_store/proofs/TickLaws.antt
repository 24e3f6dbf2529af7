-- Timers fire: what is sound stays so, and is on its way to the settled state; none is due then.
use Rattle.ob_store.proofs.Cited.{ℕ, ◌≤◌, arith, ◌≡◌, List, Option, map, false, Body, SignaledState, ObjectsInvariant, Object, ObjectsState, kept_rest, PartsState, state_of, IsUnderWay, form_of, slot_is_due, StoreInvariant, AreFormed}
use Rattle.ob_body.specs.declared.body.Body.TheVariants.{Timer}
use Rattle.ob_body.specs.Timer as timer
use Rattle.ob_body.proofs.Periods as periods
use Rattle.ob_rights.specs.declared.kind.Kind.TheVariants as kind
use Rattle.ob_body.specs.Body.{after_fire, kind_of}
use Rattle.ob_waits.proofs.Room.{room_changed}
use Rattle.ob_store.specs.Ticks.{slot_fired}
use Rattle.ob_store.specs.Kept.{unset}
use Rattle.ob_store.proofs.UnderWayLaws.{way_bodies}
use Rattle.ob_store.proofs.HeaderLaws.{read}

pub fired_other : (now : ℕ) (x : Option Body) → slot_is_due now x ≡ false → slot_fired now x ≡ x
fired_other = search arith

-- nor does what is no timer fire
pub fired_another : (now : ℕ) (b : Body) → (kind_of b ≡ kind.Timer → ⊥) → after_fire now b ≡ b
fired_another = search arith

-- what fired is as it was fired again
pub fired_twice : (now : ℕ) (x : Option Body) → slot_fired now (slot_fired now x) ≡ slot_fired now x
fired_twice = search (arith, periods.fired_twice)

-- what holds of a body holds of it once it fired
unset_fired : (now : ℕ) (b : Body) → unset (form_of (after_fire now b)) ≡ unset (form_of b)
unset_fired = search arith

formed_fired : (clock now : ℕ) (objects : List (Option Object)) (bodies : List (Option Body))
    → clock ≤ now → AreFormed clock objects bodies → AreFormed clock objects (map (slot_fired now) bodies)
formed_fired clock now objects bodies later f = search (arith, unset_fired, read, f.each, f.later)

-- a tick begins: the timers that are due have fired, which q tells
module _ (p : PartsState) (q : ObjectsState) (a : SignaledState) (now : ℕ)
    (kept : StoreInvariant p)
    (later : (state_of p).clock ≤ now)
    (tied : ObjectsInvariant q)
    (seen : q.seen ≡ record p.objects.seen { bodies = map (slot_fired now) p.objects.seen.bodies })
    (rest : kept_rest q ≡ kept_rest p.objects) where
  pub way_fired : IsUnderWay p.objects.keeper (record p { objects = q; signaled = a })
      (record (state_of p) { bodies = map (slot_fired now) p.objects.seen.bodies })
  way_fired =
      way_bodies p q a _ kept.sound seen rest tied (search (arith, formed_fired))
      (search (arith, read, kept.sound.of_live.owners, kept.sound.of_live.waiters)) (search (arith, read, room_changed, kept.sound.room))
