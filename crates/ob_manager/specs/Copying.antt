-- Duplicating handles.
use Rattle.std.specs.Prelude.{ℕ, ◌==◌, ◌&&◌, ◌||◌, nat_lt, Bool, true, false, not, bit_and, bit_or, Option, Some, None, Result, Ok, Err, if◌then◌else◌, slice_index_or}
use Rattle.ob_rights.specs.declared.fault.Fault.{Fault}
use Rattle.ob_rights.specs.declared.fault.Fault.TheVariants as fault
use Rattle.ob_rights.specs.declared.rights.Rights.{Rights}
use Rattle.ob_rights.specs.Flags.{is_protected}
use Rattle.ob_rights.specs.Rights.{within}
use Rattle.ob_tables.specs.declared.entry.Entry.{Entry}
use Rattle.ob_manager.specs.declared.reply.Reply.{Reply}
use Rattle.ob_manager.specs.declared.reply.Reply.TheVariants.{Closed, Duplicated, Refused}
use Rattle.ob_store.specs.Objects.{Object}
use Rattle.ob_store.specs.State.{State, is_full, settled, with_entry, without_entry}
use Rattle.ob_manager.specs.Outcomes.{Outcome, ◌>>=◌, or_refuse, refuse_if}
use Rattle.ob_manager.specs.Checks.{caller, found}
use Rattle.ob_manager.specs.Creating.{entry_of, next_handle}

-- the option DUPLICATE_CLOSE_SOURCE: the source is closed
abbrev pub closes : ℕ → Bool
closes options = bit_and options 1 == 1

-- the option DUPLICATE_SAME_ACCESS: the copy has the rights of the source
abbrev pub keeps_rights : ℕ → Bool
keeps_rights options = bit_and options 2 == 2

-- another option, or nothing to do: without a target the source has to be closed
abbrev pub is_wrong : ℕ → Option ℕ → Bool
is_wrong options None = nat_lt 3 options || not (closes options)
is_wrong options (Some target) = nat_lt 3 options

-- the rights that are asked for, each of which the source has or the object's grant allows, else 5
abbrev pub asked_rights : Entry → Rights → Option Object → Result Rights Fault
asked_rights entry mask None = Err fault.Handle
asked_rights entry mask (Some o) = if within mask.0 (bit_or entry.rights.0 o.grant.0) then Ok mask else Err fault.Access

abbrev pub copy_rights : State → Entry → Rights → ℕ → Result Rights Fault
copy_rights s entry mask options = if keeps_rights options then Ok entry.rights else asked_rights entry mask
    (slice_index_or s.objects entry.id.slot None)

-- the rights of a copy in a target: 87 where that isn't live, 5 by the rights, 1450 where it has all its handles
abbrev pub admitted : State → Entry → ℕ → Rights → ℕ → Result Rights Fault
admitted s entry target mask options = do
  _ ← or_refuse (slice_index_or s.processes target None) fault.Parameter
  rights ← copy_rights s entry mask options
  _ ← refuse_if (is_full s target) fault.Limit
  Ok rights

abbrev pub copied : State → Entry → ℕ → Rights → Bool → ℕ → Result Outcome Fault
copied s entry target mask inherit options = do
  rights ← admitted s entry target mask options
  Ok (record {
    reply = Duplicated (next_handle s target) entry.id;
    state = with_entry s target (entry_of entry.id rights inherit);
  })

-- without a target there is none
abbrev pub copied_to : State → Entry → Option ℕ → Rights → Bool → ℕ → Result Outcome Fault
copied_to s entry None mask inherit options = Ok (record { reply = Closed; state = s })
copied_to s entry (Some target) mask inherit options = copied s entry target mask inherit options

-- the source leaves after the copy came, and also where the copy was refused
abbrev pub without_source : State → ℕ → ℕ → Result Outcome Fault → Outcome
without_source s source handle (Ok o) = record {
  reply = o.reply;
  state = settled (without_entry o.state source handle);
}
without_source s source handle (Err e) = record { reply = Refused e; state = settled (without_entry s source handle) }

abbrev pub with_source : Result Outcome Fault → Result Outcome Fault
with_source (Ok o) = Ok (record { reply = o.reply; state = settled o.state })
with_source (Err e) = Err e

-- whether the source leaves: it is to be closed, and isn't protected from that
abbrev pub leaves : ℕ → Entry → Bool
leaves options entry = closes options && not (is_protected entry.flags)

-- whether there is nothing to do but to close the source, which is protected from that
abbrev pub is_stuck : Option ℕ → Entry → Bool
is_stuck None entry = is_protected entry.flags
is_stuck (Some target) entry = false

-- the tests of the caller, of the source process and of the options come before the source; those of the copy after it
abbrev pub duplicate : State → ℕ → ℕ → ℕ → Option ℕ → Rights → Bool → ℕ → Result Outcome Fault
duplicate s thread source handle target mask inherit options = do
  _ ← caller s thread
  _ ← or_refuse (slice_index_or s.processes source None) fault.Parameter
  _ ← refuse_if (is_wrong options target) fault.Parameter
  entry ← found s source handle
  _ ← refuse_if (is_stuck target entry) fault.Handle
  if leaves options entry then Ok (without_source s source handle (copied_to s entry target mask inherit options)) else
      with_source (copied_to s entry target mask inherit options)

-- whether it comes to a copy
abbrev pub is_duplicated : Reply → Bool
is_duplicated (Duplicated handle id) = true
is_duplicated reply = false

abbrev pub is_copy : Result Outcome Fault → Bool
is_copy (Ok o) = is_duplicated o.reply
is_copy (Err e) = false
