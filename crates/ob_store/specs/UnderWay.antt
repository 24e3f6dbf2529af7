-- What holds between the changes of a call that makes several: all that is kept, but for waits that are ready. The end
-- of a thread or a process is many such changes, and one settling turns this into what is kept of the settled state.
use Rattle.std.specs.Prelude.{◌≡◌, ◌⊎◌, ℕ, zero, suc, List, [], ◌∷◌, Option, None, length, slice_index_or, slice_set}
use Rattle.ob_body.specs.declared.body.Body.{Body}
use Rattle.ob_tables.specs.declared.entry.Entry.{Entry}
use Rattle.pin_words.specs.Keepers.{KeeperState}
use Rattle.ob_store.specs.declared.parts.Parts.{Parts}
use Rattle.ob_store.specs.Agreement.{ObjectsInvariant}
use Rattle.ob_store.specs.Kept.{IsSound}
use Rattle.ob_store.specs.Moves.{OnlyCloses}
use Rattle.ob_store.specs.Parts.{PartsState, parts_of, state_of}
use Rattle.ob_store.specs.Signaled.{IsEnough}
use Rattle.ob_store.specs.State.{State}

-- the same bodies, but for some that went
pub record AreLeft (bodies after : List (Option Body)) : Type 0 where
  pub length_is : length after ≡ length bodies
  pub each : (k : ℕ) → (slice_index_or after k None ≡ slice_index_or bodies k None)
      ⊎ (slice_index_or after k None ≡ None)

-- the parts of a store on their way to a state that has not settled yet: an object may have ended before
pub record IsUnderWay (first : KeeperState) (p : PartsState) (s : State) : Type 0 where
  pub tied : ObjectsInvariant p.objects
  pub sound : IsSound p
  pub rest : state_of p ≡ record s { bodies = p.objects.seen.bodies }
  pub bodies : AreLeft s.bodies p.objects.seen.bodies
  pub keeper : OnlyCloses first p.objects.keeper

-- and each wait that is ready then is for a slot that was noted
pub record IsEnding (first : KeeperState) (p : PartsState) (s : State) : Type 0 where
  pub under_way : IsUnderWay first p s
  pub enough : IsEnough p.signaled p.objects.seen.bodies p.waits.waits

-- the parts are on their way to a change of wherever they were on their way to
abbrev pub Carries : {K : Type 0} → Parts K → Parts K → (State → State) → Type 0
Carries old new change = (first : KeeperState) (s : State) → IsEnding first (parts_of old) s
    → IsEnding first (parts_of new) (change s)

-- the places of a table whose first n entries have left
abbrev pub without_first : ℕ → List (Option Entry) → List (Option Entry)
without_first zero places = places
without_first (suc n) [] = []
without_first (suc n) (place ∷ places) = None ∷ without_first n places

-- the tables with these places for a process, whose first n entries have left
abbrev pub tables_left : List (List (Option Entry)) → ℕ → List (Option Entry) → ℕ → List (List (Option Entry))
tables_left tables process places n = slice_set tables process (without_first n places)

abbrev pub with_left : PartsState → ℕ → List (Option Entry) → ℕ → PartsState
with_left p process places n = record p {
  tables =
      record p.tables { tables = tables_left p.tables.tables process places n };
}

-- where the first n entries had left the first m have
abbrev pub CarriesEntries : {K : Type 0} → Parts K → Parts K → ℕ → List (Option Entry) → ℕ → ℕ → Type 0
CarriesEntries old new process places n m = (first : KeeperState) (s : State)
    → IsEnding first (with_left (parts_of old) process places n) s
    → IsEnding first (with_left (parts_of new) process places m)
    (record s { tables = tables_left old.tables.tables process places m })
