-- What the waits keep while some of them are answered.
use Rattle.ob_waits.proofs.Cited.{nat_tests, at_place, ◌≡◌, ℕ, List, [], ◌∷◌, length, Option, Some, None, sym, subst, arith, get_or, set, true, Body, Wait, WaitWaitable, thread_of, WaitsInvariant, WaitHasRoom, WaitsHaveRoom, Fits, is_code, is_ready, Scene, answered_wait, effect, passed, settled, is_pending, names_slot}
use Rattle.ob_waits.proofs.Settling.{answers, RoomKept, settled_by_effects}

-- a wait is what it was, or answered
pub record Fades (old new : Option Wait) : Type 0 where
  pub thread : thread_of new ≡ thread_of old
  pub waitable : WaitWaitable old → WaitWaitable new
  pub names : (slot : ℕ) → names_slot slot new ≡ true → names_slot slot old ≡ true
  pub pending : is_pending new ≡ true → is_pending old ≡ true
  pub stays : is_pending new ≡ true → new ≡ old

-- some waits were answered
pub record Fade (old new : List (Option Wait)) : Type 0 where
  pub len : length new ≡ length old
  pub each : (n : ℕ) → Fades (get_or old n None) (get_or new n None)

pub fade_none : (ws : List (Option Wait)) → Fade ws ws
fade_none ws = search arith

pub fade_both : (a b c : List (Option Wait)) → Fade a b → Fade b c → Fade a c
fade_both a b c ab bc = search arith

-- the wait of one number was
pub fade_one : (ws : List (Option Wait)) (n code : ℕ) (w : Wait) → get_or ws n None ≡ Some w
    → (WaitWaitable (Some w) → is_code code ≡ true) → Fade ws (set ws n (answered_wait w code))
fade_one ws n code w own coded = grind (arith, at_place)

pub effect_fades : (scene : Scene) (n : ℕ) → is_ready scene.objects.bodies (get_or scene.waits n None) ≡ true
    → Fade scene.waits (effect scene n).waits
effect_fades scene n ready = grind (arith, nat_tests, at_place, fade_one)

-- a pass answers some waits
pub passed_fades : (ns : List ℕ) (scene : Scene) → Fade scene.waits (passed ns scene).waits
passed_fades [] scene = fade_none scene.waits
passed_fades (n ∷ ns) scene = search (arith, effect_fades, passed_fades ns (effect scene n), passed_fades ns scene)

pub kept_faded : (old new : List (Option Wait)) → Fade old new → WaitsInvariant old → WaitsInvariant new
kept_faded old new f k = search arith

pub effect_kept : (scene : Scene) (n : ℕ) → is_ready scene.objects.bodies (get_or scene.waits n None) ≡ true
    → WaitsInvariant scene.waits → WaitsInvariant (effect scene n).waits
effect_kept scene n ready k = search (arith, effect_fades, kept_faded)

-- an effect leaves the room of the other threads, and the waits that are pending are theirs
pub room_other : (limit u : ℕ) (bodies after : List (Option Body)) (w : Option Wait) → RoomKept limit u bodies after
    → (thread_of w ≡ Some u → ⊥) → WaitHasRoom limit bodies w → WaitHasRoom limit after w
room_other = search arith

pub effect_room : (limit : ℕ) (scene : Scene) (n : ℕ) → is_ready scene.objects.bodies (get_or scene.waits n None) ≡ true
    → WaitsInvariant scene.waits → WaitsHaveRoom limit scene.objects.bodies scene.waits
    → WaitsHaveRoom limit (effect scene n).objects.bodies (effect scene n).waits
effect_room limit scene n ready k r = let a = answers scene n ready in record {
  each = λ m.
      let other = room_other limit a.wait.thread scene.objects.bodies (effect scene n).objects.bodies
      (get_or scene.waits m None) (a.room limit) in
      grind (arith, nat_tests, at_place, a.waits, a.own, r.each m, k.one_each m n, other);
}

pub effect_fits : (limit : ℕ) (scene : Scene) (n : ℕ) → is_ready scene.objects.bodies (get_or scene.waits n None) ≡ true
    → Fits limit scene.objects.bodies scene.waits → Fits limit (effect scene n).objects.bodies (effect scene n).waits
effect_fits limit scene n ready k = search (arith, effect_kept, effect_room)

-- a pass keeps it
pub passed_fits : (limit : ℕ) (ns : List ℕ) (scene : Scene) → Fits limit scene.objects.bodies scene.waits
    → Fits limit (passed ns scene).objects.bodies (passed ns scene).waits
passed_fits limit [] scene k = k
passed_fits limit (n ∷ ns) scene k =
    grind (arith, effect_fits, passed_fits limit ns (effect scene n), passed_fits limit ns scene)

-- the same where the scene after it stands in variables
pub fits_passed : (limit : ℕ) (ns : List ℕ) (scene after : Scene) → after ≡ passed ns scene
    → Fits limit scene.objects.bodies scene.waits → Fits limit after.objects.bodies after.waits
fits_passed limit ns scene after is k = subst (λ (x : Scene). Fits limit x.objects.bodies x.waits) (sym is)
    (passed_fits limit ns scene k)

-- and so does settling
pub settled_fits : (limit : ℕ) (scene : Scene) → Fits limit scene.objects.bodies scene.waits
    → Fits limit (settled scene).objects.bodies (settled scene).waits
settled_fits limit = settled_by_effects (λ (a b : Scene). Fits limit a.objects.bodies a.waits → Fits limit
    b.objects.bodies b.waits) (search arith) (search arith) (effect_fits limit)

pub settled_fades : (scene : Scene) → Fade scene.waits (settled scene).waits
settled_fades = settled_by_effects (λ (a b : Scene). Fade a.waits b.waits) (λ s. fade_none s.waits)
    (search (arith, fade_both)) effect_fades
