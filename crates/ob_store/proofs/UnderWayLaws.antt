-- A call is under way from what is kept, and ends with what is kept of the settled state.
use Rattle.ob_store.proofs.Cited.{AreOfLive, at_place, ◌≡◌, ℕ, List, Option, Some, None, refl, ◌∙◌, arith, get_or, set, true, Id, KeeperState, Body, is_signaled, ended, Scene, WaitList, ObjectsInvariant, AreFormed, StoreInvariant, IsNamed, IsPopulated, IsSound, Yields, ObjectsState, kept_rest, PartsState, state_of, whole_of, SignaledState, IsEnding, IsUnderWay, IsSettled, settled_less, State, Whole, objects_of, settled, with_body}
use Rattle.ob_waits.specs.Rules.{IsReadyAt, WaitsHaveRoom}
use Rattle.ob_waits.specs.Waits as waits
use Rattle.ob_waits.proofs.Apart.{ready_at_change}
use Rattle.ob_waits.proofs.Settled.{settled_unnamed}
use Rattle.ob_waits.proofs.Settling.{settled_same}
use Rattle.ob_store.proofs.AgreeLaws.{body_within}
use Rattle.ob_store.proofs.BodyLaws.{formed_put, formed_settled, less_put, of_live_put, of_live_settled}
use Rattle.ob_store.proofs.CountedLaws.{blocks_at, counted_settled}
use Rattle.ob_store.proofs.EnoughLaws.{enough_settled}
use Rattle.ob_store.proofs.KeptLaws.{objects_are, sound_bodies, sound_rested, state_rested}
use Rattle.ob_store.proofs.LeftLaws.{ended_gone, left_same}
use Rattle.ob_store.proofs.NamedLaws.{named_settled}
use Rattle.ob_store.proofs.SettledLaws.{ends_before}

-- a call begins
pub way_begins : (p : PartsState) → IsSound p → ObjectsInvariant p.objects → IsUnderWay p.objects.keeper p (state_of p)
way_begins p sound tied = search (arith, left_same)

-- whichever slots are noted, since no wait is ready
pub ending_begins : (p : PartsState) (a : SignaledState) → StoreInvariant p → ObjectsInvariant p.objects
    → IsEnding p.objects.keeper (record p { signaled = a }) (state_of p)
ending_begins p a kept tied = search (arith, enough_settled)

-- and its waits settle
module _ (p : PartsState) (q : ObjectsState) (ws : WaitList)
    (sound : IsSound p)
    (value : ◌≡◌ {A = Scene} (record { objects = q.seen; waits = ws.waits })
    (waits.settled (record { objects = p.objects.seen; waits = p.waits.waits })))
    (limit : ws.limit ≡ p.waits.limit)
    (clock : ws.clock ≡ p.waits.clock)
    (rest : kept_rest q ≡ kept_rest p.objects) where
  pub way_kept : IsPopulated p.processes.processes p.processes.threads
      → WaitsHaveRoom p.limits.max_recursion q.seen.bodies ws.waits → IsSettled q.seen.bodies ws.waits
      → StoreInvariant (record p { objects = q; waits = ws })
  way_kept populated room quiet = search (arith, sound_rested, value, counted_settled, named_settled, formed_settled, of_live_settled, clock, sound)

  module _ (first : KeeperState) (s : State) (way : IsUnderWay first p s) where
    -- what is to end has ended
    ends_are : ended (objects_of s) ≡ p.objects.seen
    ends_are =
        let objects : objects_of s ≡ record p.objects.seen { bodies = s.bodies } = search (arith, objects_are, way.rest) in
        search (arith, objects, ended_gone, way.tied.bodied, way.bodies)

    named_of : IsNamed s.objects s.tables s.waits
    named_of = search (arith, way.rest, sound.named)

    pub way_state : state_of (record p { objects = q; waits = ws }) ≡ settled s
    way_state = rw (ends_before s named_of, ends_are) (state_rested p p.processes q ws p.signaled rest ∙ (search (arith, value, way.rest)))

-- where no wait is ready, the state is settled as it is
pub way_still : (first : KeeperState) (p : PartsState) (s : State) → IsUnderWay first p s
    → IsSettled p.objects.seen.bodies p.waits.waits → state_of p ≡ settled s
way_still first p s way quiet = way_state p p.objects p.waits way.sound (search (arith, settled_same)) refl refl refl first s way

-- a call changed bodies, and noted slots
pub way_bodies : (p : PartsState) (q : ObjectsState) (a : SignaledState) (bodies : List (Option Body)) → IsSound p
    → q.seen ≡ record p.objects.seen { bodies = bodies } → kept_rest q ≡ kept_rest p.objects → ObjectsInvariant q
    → AreFormed p.waits.clock p.objects.objects bodies → AreOfLive p.processes.threads bodies p.waits.waits
    → WaitsHaveRoom p.limits.max_recursion bodies p.waits.waits
    → IsUnderWay p.objects.keeper (record p { objects = q; signaled = a }) (record (state_of p) { bodies = bodies })
way_bodies p q a bodies sound seen rest tied formed of_live room = record {
  tied = tied;
  sound = search (sound_bodies);
  rest = state_rested p p.processes q p.waits a rest;
  bodies = rw seen (left_same bodies);
  keeper = λ i. (rest i).keeper;
}

-- one body
pub way_changed : (p : PartsState) (q : ObjectsState) (a : SignaledState) (id : Id) (old new : Body) → IsSound p
    → get_or p.objects.seen.bodies id.slot None ≡ Some old → Yields p.waits.clock old new
    → q.seen ≡ record p.objects.seen { bodies = set p.objects.seen.bodies id.slot (Some new) }
    → kept_rest q ≡ kept_rest p.objects → ObjectsInvariant q
    → IsUnderWay p.objects.keeper (record p { objects = q; signaled = a }) (with_body (state_of p) id new)
way_changed p q a id old new sound there yielding put rest tied =
    way_bodies p q a _ sound put rest tied (search (arith, formed_put)) (search (arith, of_live_put)) (grind (arith, at_place))

-- a call changed a body, and nothing else
module _ (p : PartsState) (q : ObjectsState) (id : Id) (old new : Body)
    (kept : StoreInvariant p) (w : Whole) (view : whole_of p ≡ w)
    (bodied : get_or w.state.bodies id.slot None ≡ Some old)
    (yielding : Yields w.state.clock old new)
    (put : q.seen ≡ record p.objects.seen { bodies = set p.objects.seen.bodies id.slot (Some new) })
    (rest : kept_rest q ≡ kept_rest p.objects) where
  there : get_or p.objects.seen.bodies id.slot None ≡ Some old
  there = rw (← view) at bodied

  abbrev bodies : List (Option Body)
  bodies = set p.objects.seen.bodies id.slot (Some new)

  pub way_put : ObjectsInvariant q
      → IsUnderWay p.objects.keeper (record p { objects = q }) (with_body (state_of p) id new)
  way_put = way_changed p q p.signaled id old new kept.sound there (rw (← view) at yielding) put rest

  -- each wait that is ready then is for the object
  pub ready : IsReadyAt id.slot q.seen.bodies p.waits.waits
  ready = search (arith, ready_at_change, kept.settled)

  -- nothing is signaled by it that wasn't: so nothing settles
  pub settled_put_less : ((t : ℕ) → is_signaled t new ≡ true → is_signaled t old ≡ true)
      → IsSettled q.seen.bodies p.waits.waits
  settled_put_less less = search (arith, put, there, less_put, settled_less, kept.settled)

  -- no pending wait is for it: so nothing settles
  pub settled_unblocked : ObjectsInvariant p.objects → get_or p.objects.seen.blocks id.slot 0 ≡ 0
      → IsSettled q.seen.bodies p.waits.waits
  settled_unblocked tied none = search (arith, settled_unnamed, blocks_at, body_within, kept.sound.counted, kept.settled, there)
