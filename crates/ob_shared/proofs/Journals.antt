-- A journal grows at its end, and tells the state.
use Rattle.std.proofs.Common.{◌≡◌, ℕ, List, [], ◌∷◌, ◌++◌, Ok, refl, sym}
use Rattle.ob_tables.specs.declared.limits.Limits.{Limits}
use Rattle.ob_store.specs.Consistent.{IsConsistent}
use Rattle.ob_store.specs.State.{State, Whole}
use Rattle.ob_manager.specs.Savestates.{load}
use Rattle.ob_manager.specs.Steps.{Step}
use Rattle.ob_manager.proofs.LimitLaws.{step_limits}
use Rattle.ob_manager.proofs.StepLaws.{step_next}
use Rattle.ob_shared.specs.declared.book.Entry.{Entry}
use Rattle.ob_shared.specs.Journal.{IsHistory, IsOrigin, Continues, IsHistoryFrom, Replays, replay}

replays_next : (w u v : Whole) (entries : List Entry) (entry : Entry) → Replays w entries u
    → Step u entry.call entry.reply v → IsConsistent v → Replays w (entries ++ entry ∷ []) v
replays_next w u v [] entry same step kept = (v, rw same step, kept, refl)
replays_next w u v (e ∷ entries) entry replays step kept =
    (replays.0, replays.1, replays.2, replays_next replays.0 u v entries entry replays.3 step kept)

-- one more call is entered
pub history_next : (saved : List ℕ) (journal : List Entry) (w v : Whole) (entry : Entry) → Continues saved journal w
    → Step w entry.call entry.reply v → IsConsistent v → Continues saved (journal ++ entry ∷ []) v
history_next saved journal w v entry h step kept = record {
  from = h.from;
  opens = rw (step_limits w v entry.call entry.reply step) h.opens;
  history = record {
    first = h.history.first;
    opens = h.history.opens;
    kept = h.history.kept;
    replays = replays_next h.history.first w v journal entry h.history.replays step kept;
  };
}

replays_state : (w v : Whole) (entries : List Entry) → Replays w entries v → v.state ≡ replay w.state entries
replays_state w v [] same = rw same
replays_state w v (e ∷ entries) replays =
    rw (← step_next w replays.0 e.call e.reply replays.1) (replays_state replays.0 v entries replays.3)

-- the state is the one after the calls
pub history_from_state : (from : State) (journal : List Entry) (w : Whole) → IsHistoryFrom from journal w
    → w.state ≡ replay from journal
history_from_state from journal w h = rw (← h.opens) (replays_state h.first w journal h.replays)

pub history_state : (saved : List ℕ) (journal : List Entry) (w : Whole) → Continues saved journal w
    → (first : State) × IsOrigin w.state.limits saved first × (w.state ≡ replay first journal)
history_state saved journal w h = (h.from, h.opens, history_from_state h.from journal w h.history)

-- what goes on from a new manager is a history
pub is_history : (journal : List Entry) (w : Whole) → Continues [] journal w → IsHistory journal w
is_history journal w h = rw h.opens at h.history

-- a manager as it begins
pub history_opens : (saved : List ℕ) (w : Whole) → IsOrigin w.state.limits saved w.state → IsConsistent w
    → Continues saved [] w
history_opens saved w opens kept =
    record { from = w.state; opens = opens; history = record { first = w; opens = refl; kept = kept; replays = refl } }

-- what a savestate gives is what a manager begins with: no bytes are none
pub origin_loads : (limits : Limits) (bytes : List ℕ) (w : Whole) (s : State) → load bytes ≡ Ok w → w.state ≡ s
    → IsOrigin limits bytes s
origin_loads limits [] w s is same = absurd cc
origin_loads limits (byte ∷ bytes) w s is same = (w, is, sym same)
