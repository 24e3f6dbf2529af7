-- What each way of settling answers for, once its scene is the settled one.
use Rattle.ob_waits.proofs.Cited.{arith, ◌≡◌, ℕ, List, Option, sym, subst, Wait, AreTimely, CountedBodies, PendingIndex, ThinsIndex, IsTracked, WaitsInvariant, IsSettled, WaitsHaveRoom, Scene, settled}
use Rattle.ob_waits.proofs.Settling.{settled_is_settled}
use Rattle.ob_waits.proofs.Keeping.{Fade, settled_fits, settled_fades}
use Rattle.ob_waits.proofs.TrackedLaws.{tracked_faded, tracked_left}

module _ (before after : CountedBodies) (ws ws' : List (Option Wait))
    (value : ◌≡◌ {A = Scene} (record { objects = after; waits = ws' })
    (settled (record { objects = before; waits = ws }))) where
  abbrev first : Scene
  first = record { objects = before; waits = ws }

  pub kept_after : {limit clock : ℕ} {r r' : PendingIndex} {dues : List (Option ℕ)} → ThinsIndex ws' r r'
      → IsTracked limit ws r × AreTimely clock ws dues → IsTracked limit ws' r' × AreTimely clock ws' dues
  kept_after leaves k = let fade : Fade ws ws' = subst (λ (s : Scene). Fade ws s.waits) (sym value)
      (settled_fades first) in (search (arith, tracked_faded, tracked_left), search arith)

  pub settled_after : IsSettled after.bodies ws'
  settled_after = search (arith, settled_is_settled first)

  pub room_settled : {seen : List (Option Wait)} (limit : ℕ) → WaitsInvariant ws → ws ≡ seen
      → WaitsHaveRoom limit before.bodies seen
      → WaitsHaveRoom limit after.bodies ws'
  room_settled limit kept same room = search (arith, settled_fits limit first)

  pub value_seen : {seen : List (Option Wait)} → ws ≡ seen → ◌≡◌ {A = Scene} (record { objects = after; waits = ws' })
      (settled (record { objects = before; waits = seen }))
  value_seen same = search arith
