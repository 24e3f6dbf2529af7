-- Taking makes nothing signaled, so a pass over the waits in order settles them, and what it leaves is settled.
use Rattle.ob_waits.proofs.Cited.{◌≡◌, ℕ, zero, suc, ◌+◌, ◌<◌, ◌≤◌, List, [], ◌∷◌, length, Option, Some, None, refl, arith, get_or, set, Bool, true, false, inl, inr, ltb, count_by, position_or_len, list_all, get_or_past, get_or-set_same, get_or-set_other, cases_eq, sum_by-set, count_by-le-length, get_or-le-sum_by, fails_before_first, passes_at_first, position_or_len_is, Id, Body, Mode, Wait, State, Pending, Answered, slot_signaled, slot_room, IsSettled, WaitWaitable, thread_of, nowhere, is_code, is_signaled, state_ready, is_ready, first_ready, Scene, bodies_after, code_of, answered_wait, effect, effect_of, settled_within, settled, ids_of, is_pending}
use Rattle.ob_body.proofs.Effects.{signaled_before, room_after_acquire}
use Rattle.ob_waits.proofs.EachSlot.{slots-satisfied, slots-taken}

-- no object is signaled that was not, for any thread
pub record IsLess (bodies after : List (Option Body)) : Type 0 where
  pub each : (t : ℕ) (id : Id) → is_signaled t after id ≡ true → is_signaled t bodies id ≡ true

abbrev Less : Option Body → Option Body → Type 0
Less x y = (t : ℕ) → slot_signaled t y ≡ true → slot_signaled t x ≡ true

pub less_after : (mode : Mode) (u : ℕ) (bodies : List (Option Body)) (ids : List Id)
    → IsLess bodies (bodies_after mode u bodies ids)
less_after mode u bodies ids = search (arith, slots-taken Less, signaled_before)

-- a wait that is ready where less is signaled was ready: it is enough that less is at its places, for its thread
module _ (p q : Id → Bool) where
  all_less : (xs : List Id) → ((i : ℕ) → i < length xs → q (get_or xs i nowhere) ≡ true
      → p (get_or xs i nowhere) ≡ true) → list_all q xs ≡ true → list_all p xs ≡ true
  all_less [] less h = refl
  all_less (x ∷ xs) less h = search (arith, less zero, all_less xs (λ i lt. less (suc i) (omega arith)))

  some_less : (xs : List Id) → ((i : ℕ) → i < length xs → q (get_or xs i nowhere) ≡ true
      → p (get_or xs i nowhere) ≡ true)
      → ltb (position_or_len q xs) (length xs) ≡ true → ltb (position_or_len p xs) (length xs) ≡ true
  some_less xs less h = grind (arith, less (position_or_len q xs), passes_at_first, fails_before_first)

module _ (bodies after : List (Option Body)) where
  abbrev pub LessAt : ℕ → List Id → Type 0
  LessAt t ids = (i : ℕ) → i < length ids → is_signaled t after (get_or ids i nowhere) ≡ true
      → is_signaled t bodies (get_or ids i nowhere) ≡ true

  pub ready_where : (w : Option Wait) → ((t : ℕ) → thread_of w ≡ Some t → LessAt t (ids_of w)) → is_ready after w ≡ true
      → is_ready bodies w ≡ true
  ready_where = search (arith, all_less, some_less)

  pub ready_less : IsLess bodies after → (w : Option Wait) → is_ready after w ≡ true → is_ready bodies w ≡ true
  ready_less l w = search (arith, ready_where)

-- taking by one thread leaves the room of the others
pub record RoomKept (limit u : ℕ) (bodies after : List (Option Body)) : Type 0 where
  pub room : (t : ℕ) → (t ≡ u → ⊥) → (k : ℕ) → slot_room limit t (get_or bodies k None) ≡ true
      → slot_room limit t (get_or after k None) ≡ true

abbrev Room : ℕ → ℕ → Option Body → Option Body → Type 0
Room limit u x y = (t : ℕ) → (t ≡ u → ⊥) → slot_room limit t x ≡ true → slot_room limit t y ≡ true

pub room_after : (limit : ℕ) (mode : Mode) (u : ℕ) (bodies : List (Option Body)) (ids : List Id)
    → RoomKept limit u bodies (bodies_after mode u bodies ids)
room_after limit mode u bodies ids = search (arith, slots-taken (Room limit u), room_after_acquire)

abbrev pub pending_count : List (Option Wait) → ℕ
pending_count waits = count_by is_pending waits

pub ready_pending : (bodies : List (Option Body)) (w : Option Wait) → is_ready bodies w ≡ true → is_pending w ≡ true
ready_pending = search arith

-- what an effect does: one pending wait is answered, and nothing is signaled that was not
pub record Answers (scene after : Scene) (n : ℕ) : Type 0 where
  pub wait : Wait
  pub code : ℕ
  pub waits : after.waits ≡ set scene.waits n (answered_wait wait code)
  pub less : IsLess scene.objects.bodies after.objects.bodies
  pub room : (limit : ℕ) → RoomKept limit wait.thread scene.objects.bodies after.objects.bodies
  pub own : get_or scene.waits n None ≡ Some wait
  pub coded : WaitWaitable (Some wait) → is_code code ≡ true

answered_by : (scene : Scene) (n : ℕ) (w : Wait) (st : State) → get_or scene.waits n None ≡ Some w
    → w.state ≡ st → state_ready w.thread scene.objects.bodies st ≡ true → Answers scene (effect_of scene n w st) n
answered_by scene n w (Pending mode ids) own is ready = record {
  wait = w;
  code = code_of mode w.thread scene.objects.bodies ids;
  waits = refl;
  less = record { each = λ t id. search (arith, slots-satisfied Less, signaled_before) };
  room = λ limit. record {
    room = λ t other k. search (arith, slots-satisfied (Room limit w.thread), room_after_acquire);
  };
  own = own;
  coded = search arith;
}
answered_by scene n w (Answered code) own is ready = absurd (cc)

pub answers : (scene : Scene) (n : ℕ) → is_ready scene.objects.bodies (get_or scene.waits n None) ≡ true
    → Answers scene (effect scene n) n
answers scene n ready = search (arith, answered_by)

-- a number whose wait is ready is within the list, and its wait is counted as pending
pub ready_within : (scene : Scene) (n : ℕ) → is_ready scene.objects.bodies (get_or scene.waits n None) ≡ true
    → n < length scene.waits
ready_within scene n ready = search (arith, get_or_past)

pub fewer : (scene : Scene) (n : ℕ) → n < length scene.waits
    → is_ready scene.objects.bodies (get_or scene.waits n None) ≡ true
    → pending_count (effect scene n).waits + 1 ≡ pending_count scene.waits
fewer scene n in' ready = search (arith, answers, sum_by-set)

pub ready_counted : (scene : Scene) (n : ℕ) → is_ready scene.objects.bodies (get_or scene.waits n None) ≡ true
    → 0 < pending_count scene.waits
ready_counted scene n ready = search (arith, ready_within, get_or-le-sum_by)

-- what holds of each effect, and over one after another, holds of settling
pub settled_by_effects : (R : Scene → Scene → Type 0) → ((s : Scene) → R s s)
    → ((a b c : Scene) → R a b → R b c → R a c) →
    ((s : Scene) (n : ℕ) → is_ready s.objects.bodies (get_or s.waits n None) ≡ true → R s (effect s n))
    → (scene : Scene) → R scene (settled scene)
settled_by_effects R same both one scene = within (length scene.waits) scene
  where
    within : (fuel : ℕ) (s : Scene) → R s (settled_within fuel s)
    within zero s = same s
    within (suc fuel) s =
        search (arith, same, both, one, passes_at_first, within fuel (effect s (first_ready s.objects.bodies s.waits)))

settled_enough : (n : ℕ) (scene : Scene) → pending_count scene.waits ≤ n
    → IsSettled (settled_within n scene).objects.bodies (settled_within n scene).waits
settled_enough zero scene few = search (arith, ready_counted)
settled_enough (suc n) scene few =
    let on = settled_enough n (effect scene (first_ready scene.objects.bodies scene.waits)) in
    search (arith, passes_at_first, fails_before_first, get_or_past, fewer, on)

-- The theorem: what settling leaves is settled.
pub settled_is_settled : (scene : Scene) → IsSettled (settled scene).objects.bodies (settled scene).waits
settled_is_settled scene = settled_enough (length scene.waits) scene (count_by-le-length is_pending scene.waits)

-- a wait that is ready after an effect was ready before, and is another one
pub record WasReady (scene : Scene) (n k : ℕ) : Type 0 where
  pub before : is_ready scene.objects.bodies (get_or scene.waits k None) ≡ true
  pub other : k ≡ n → ⊥

pub was_ready : (scene : Scene) (n k : ℕ) → is_ready scene.objects.bodies (get_or scene.waits n None) ≡ true
    → is_ready (effect scene n).objects.bodies (get_or (effect scene n).waits k None) ≡ true → WasReady scene n k
was_ready scene n k ready after = elim (cases_eq k n) [
  | inl same ↦ search (arith, answers scene n ready, ready_within, get_or-set_same)
  | inr other ↦ search (arith, answers scene n ready, ready_less, get_or-set_other)
]

-- a settled scene stays
pub settled_none : (fuel : ℕ) (scene : Scene) → IsSettled scene.objects.bodies scene.waits
    → settled_within fuel scene ≡ scene
settled_none x0 scene q = search (arith, passes_at_first)

pub settled_same : (scene : Scene) → IsSettled scene.objects.bodies scene.waits → settled scene ≡ scene
settled_same scene q = search (arith, settled_none)

-- where the wait of a number is ready and none below is, that is the first one that is ready
pub first_is : (scene : Scene) (m : ℕ) → is_ready scene.objects.bodies (get_or scene.waits m None) ≡ true
    → ((k : ℕ) → k < m → is_ready scene.objects.bodies (get_or scene.waits k None) ≡ false)
    → first_ready scene.objects.bodies scene.waits ≡ m
first_is scene m ready below = search (arith, ready_within, position_or_len_is)

pub settled_first : (fuel : ℕ) (scene : Scene) (m : ℕ)
    → is_ready scene.objects.bodies (get_or scene.waits m None) ≡ true
    → first_ready scene.objects.bodies scene.waits ≡ m
    → settled_within (suc fuel) scene ≡ settled_within fuel (effect scene m)
settled_first fuel scene m ready first = search (arith, ready_within)
