-- Processes and threads.
use Rattle.std.specs.Prelude.{ℕ, nat_lt, Bool, None, Result, Ok, if◌then◌else◌, slice_index_or}
use Rattle.ob_rights.specs.declared.fault.Fault.{Fault}
use Rattle.ob_rights.specs.declared.fault.Fault.TheVariants as fault
use Rattle.ob_manager.specs.declared.reply.Reply.TheVariants.{Spawned, Started}
use Rattle.ob_store.specs.State.{State, next_process, next_thread, settled, with_child, with_process, with_thread}
use Rattle.ob_manager.specs.Outcomes.{Outcome, ◌>>=◌, or_refuse, refuse_if}
use Rattle.ob_manager.specs.Checks.{caller}

abbrev pub spawn : State → ℕ → Result Outcome Fault
spawn s session = do
  _ ← refuse_if (nat_lt s.limits.processes (next_process s)) fault.Limit
  _ ← refuse_if (nat_lt s.limits.threads (next_thread s)) fault.Limit
  Ok (record { reply = Spawned (next_process s) (next_thread s); state = settled (with_process s session) })

-- a new process of the session of the thread's, with the entries of the thread's process that are inheritable, or with
-- none
abbrev pub child : State → ℕ → Bool → Result Outcome Fault
child s thread inherit = do
  process ← caller s thread
  session ← or_refuse (slice_index_or s.processes process None) fault.Parameter
  _ ← refuse_if (nat_lt s.limits.processes (next_process s)) fault.Limit
  _ ← refuse_if (nat_lt s.limits.threads (next_thread s)) fault.Limit
  Ok (record {
    reply = Spawned (next_process s) (next_thread s);
    state = settled (if inherit then with_child s process session else with_process s session);
  })

abbrev pub thread : State → ℕ → Result Outcome Fault
thread s process = do
  _ ← or_refuse (slice_index_or s.processes process None) fault.Parameter
  _ ← refuse_if (nat_lt s.limits.threads (next_thread s)) fault.Limit
  Ok (record { reply = Started (next_thread s); state = settled (with_thread s process) })
