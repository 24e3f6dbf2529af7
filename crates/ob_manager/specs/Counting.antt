-- What refers to an object, and what an object was created as.
use Rattle.std.specs.Prelude.{nat_le, nat_lt, Option, Some, None, Result, Ok, if◌then◌else◌, slice_index_or}
use Rattle.ob_name.specs.Names.{ObjectName}
use Rattle.pin_core.specs.Holds.{same_id}
use Rattle.pin_core.specs.declared.id.Id.{Id}
use Rattle.ob_rights.specs.declared.fault.Fault.{Fault}
use Rattle.ob_rights.specs.declared.fault.Fault.TheVariants as fault
use Rattle.ob_manager.specs.declared.reply.Reply.TheVariants.{CountsAre}
use Rattle.ob_manager.specs.declared.card.Card.{Card}
use Rattle.ob_store.specs.Objects.{Object}
use Rattle.ob_store.specs.State.{State, handles_of, blocks_of, hold_of}
use Rattle.ob_manager.specs.Outcomes.{Outcome, ◌>>=◌, or_refuse, refuse_if}

-- the object of an Id
abbrev pub if_id : Id → Option Object → Option Object
if_id id None = None
if_id id (Some o) = if same_id o.id id then Some o else None

abbrev pub object_of : State → Id → Option Object
object_of s id = if_id id (slice_index_or s.objects id.slot None)

abbrev pub counts : State → Id → Result Outcome Fault
counts s id = do
  _ ← refuse_if (nat_le s.limits.slots id.slot) fault.Parameter
  _ ← or_refuse (object_of s id) fault.Handle
  Ok (record { reply = CountsAre (handles_of s id) (blocks_of s id) (hold_of s id); state = s })

abbrev pub carded : Option Object → Option Card
carded None = None
carded (Some o) = Some (record { id = o.id; descr = o.descr; grant = o.grant })

abbrev pub card : State → Id → Option Card
card s id = carded (object_of s id)

-- its name, which it has as long as it has handles
abbrev pub named : State → Option Object → Option ObjectName
named s None = None
named s (Some o) = if nat_lt 0 (handles_of s o.id) then o.name else None

abbrev pub name_held : State → Id → Option ObjectName
name_held s id = named s (object_of s id)
