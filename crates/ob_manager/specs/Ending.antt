-- The ends of threads and processes.
use Rattle.std.specs.Prelude.{ℕ, None, Result, Ok, slice_index_or}
use Rattle.ob_rights.specs.declared.fault.Fault.{Fault}
use Rattle.ob_rights.specs.declared.fault.Fault.TheVariants as fault
use Rattle.ob_manager.specs.declared.reply.Reply.TheVariants.{Ended, Exited}
use Rattle.ob_store.specs.State.{State, settled}
use Rattle.ob_store.specs.Ends.{after_thread_end, exited}
use Rattle.ob_manager.specs.Outcomes.{Outcome, ◌>>=◌, or_refuse}

-- a thread may be ended while it waits
abbrev pub end_thread : State → ℕ → Result Outcome Fault
end_thread s thread = do
  process ← or_refuse (slice_index_or s.threads thread None) fault.Parameter
  Ok (record { reply = Ended thread; state = settled (after_thread_end s process thread) })

abbrev pub exit : State → ℕ → Result Outcome Fault
exit s process = do
  _ ← or_refuse (slice_index_or s.processes process None) fault.Parameter
  Ok (record { reply = Exited process; state = settled (exited s process) })
