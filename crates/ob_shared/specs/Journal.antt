-- A journal, and what it means that a manager is the one after it.
use Rattle.std.specs.Prelude.{◌≡◌, ℕ, List, [], ◌∷◌, Ok}
use Rattle.ob_tables.specs.declared.limits.Limits.{Limits}
use Rattle.ob_store.specs.Consistent.{IsConsistent}
use Rattle.ob_store.specs.State.{State, Whole, opening}
use Rattle.ob_manager.specs.Savestates.{load}
use Rattle.ob_manager.specs.Steps.{Step, next}
use Rattle.ob_shared.specs.declared.book.Entry.{Entry}

-- a manager with the calls that were made since it began, and the savestate with which it began, of no bytes where
-- there was none
pub record BookState : Type 0 where
  pub saved : List ℕ
  pub manager : Whole
  pub journal : List Entry

-- each entry is one step, from the first manager to the last, and a step leads to a manager that is kept
abbrev pub Replays : Whole → List Entry → Whole → Type 0
Replays w [] v = w ≡ v
Replays w (entry ∷ entries) v = (u : Whole) × Step w entry.call entry.reply u × IsConsistent u × Replays u entries v

-- the state after some calls with their replies
abbrev pub replay : State → List Entry → State
replay s [] = s
replay s (entry ∷ entries) = replay (next s entry.call entry.reply) entries

-- a journal of all calls since the manager was kept and had this state
pub record IsHistoryFrom (from : State) (journal : List Entry) (w : Whole) : Type 0 where
  pub first : Whole
  pub opens : first.state ≡ from
  pub kept : IsConsistent first
  pub replays : Replays first journal w

-- a journal of all calls since the manager was made
abbrev pub IsHistory : List Entry → Whole → Type 0
IsHistory journal w = IsHistoryFrom (opening w.state.limits) journal w

-- the state with which a manager began: that of a savestate, or of a new manager where there are no bytes
abbrev pub IsOrigin : Limits → List ℕ → State → Type 0
IsOrigin limits [] s = s ≡ opening limits
IsOrigin limits (byte ∷ bytes) s = (w : Whole) × (load (byte ∷ bytes) ≡ Ok w) × (s ≡ w.state)

-- a journal of all calls since the manager began with a savestate
pub record Continues (saved : List ℕ) (journal : List Entry) (w : Whole) : Type 0 where
  pub from : State
  pub opens : IsOrigin w.state.limits saved from
  pub history : IsHistoryFrom from journal w
