-- Handles.
use Rattle.std.specs.Prelude.{ℕ, nat_lt, None, Result, Ok, slice_index_or}
use Rattle.pin_core.specs.declared.id.Id.{Id}
use Rattle.ob_rights.specs.declared.fault.Fault.{Fault}
use Rattle.ob_rights.specs.declared.fault.Fault.TheVariants as fault
use Rattle.ob_rights.specs.Flags.{changed_flags, is_protected}
use Rattle.ob_tables.specs.declared.entry.Entry.{Entry}
use Rattle.ob_manager.specs.declared.reply.Reply.TheVariants.{Closed, Done, Flags}
use Rattle.ob_store.specs.State.{State, settled, with_flags, without_entry}
use Rattle.ob_manager.specs.Outcomes.{Outcome, ◌>>=◌, or_refuse, refuse_if}
use Rattle.ob_manager.specs.Checks.{caller, found}

-- a handle that is protected from close is refused with 6
abbrev pub close : State → ℕ → ℕ → Result Outcome Fault
close s thread handle = do
  process ← caller s thread
  entry ← found s process handle
  _ ← refuse_if (is_protected entry.flags) fault.Handle
  Ok (record { reply = Closed; state = settled (without_entry s process handle) })

abbrev pub handle_flags : State → ℕ → ℕ → Result Outcome Fault
handle_flags s thread handle = do
  process ← caller s thread
  entry ← found s process handle
  Ok (record { reply = Flags entry.flags.0; state = s })

-- the flags in the mask become those that are given; a mask with another bit than those of INHERIT, 1, and
-- PROTECT_FROM_CLOSE, 2, is refused with 87
abbrev pub set_handle_flags : State → ℕ → ℕ → ℕ → ℕ → Result Outcome Fault
set_handle_flags s thread handle mask flags = do
  process ← caller s thread
  _ ← refuse_if (nat_lt 3 mask) fault.Parameter
  entry ← found s process handle
  Ok (record { reply = Done; state = settled (with_flags s process handle (changed_flags entry.flags mask flags)) })

-- what a handle of a process has: 87 where the process isn't live, 6 where there is no such handle
abbrev pub entry_of : State → ℕ → ℕ → Result Entry Fault
entry_of s process handle = do
  _ ← or_refuse (slice_index_or s.processes process None) fault.Parameter
  found s process handle

-- and what it names
abbrev pub resolve : State → ℕ → ℕ → Result Id Fault
resolve s process handle = do
  entry ← entry_of s process handle
  Ok entry.id
