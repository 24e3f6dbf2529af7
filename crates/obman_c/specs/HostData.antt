-- What C is told of what the host keeps.
use Rattle.std.specs.Prelude.{◌≡◌, ◌⊎◌, ℕ, Bool, true, false, Option, Some, None, Result, Ok, Err}
use Rattle.ob_rights.specs.Fault.{code_of}
use Rattle.ob_rights.specs.declared.fault.Fault.{Fault}
use Rattle.ob_rights.specs.declared.rights.Rights.{Rights}
use Rattle.pin_core.specs.declared.id.Id.{Id}
use Rattle.ob_tables.specs.declared.entry.Entry.{Entry}
use Rattle.ob_manager.specs.Counting.{card}
use Rattle.ob_manager.specs.declared.card.Card.{Card}
use Rattle.ob_manager.specs.HostData.{HostData, object_data}
use Rattle.ob_manager.specs.declared.object_state.ObjectState.{ObjectState}
use Rattle.ob_manager.specs.States.{state_of}
use Rattle.obman_c_base.specs.declared.owned.OwnedManager.{OwnedManager}
use Rattle.obman_c.specs.declared.host_data.HandleInfo.{HandleInfo}
use Rattle.obman_c.specs.Looking.{c_object_state_of}
use Rattle.obman_c.specs.Telling.{object_of}

-- Where there is something to keep at, what is kept becomes this, and 0 is told; or 8, for want of memory, and nothing
-- changes. Else nothing changes, and this number is told.
abbrev pub Keeps : Bool → ℕ → HostData → ℕ → OwnedManager → OwnedManager → Type 0
Keeps true missing after status old new = ((status ≡ 0) × (new ≡ record old { kept = after }))
    ⊎ ((status ≡ 8) × (new ≡ old))
Keeps false missing after status old new = (status ≡ missing) × (new ≡ old)

-- the kind of an object, by its state
abbrev pub kind_in : Option ObjectState → ℕ
kind_in None = 4
kind_in (Some state) = (c_object_state_of state).kind

-- what a handle names
abbrev pub handle_info : OwnedManager → Entry → HandleInfo
handle_info held entry = record {
  value = object_data held.kept entry.id;
  object = object_of entry.id;
  kind = kind_in (state_of held.manager.state entry.id);
  access = entry.rights.0;
  flags = entry.flags.0;
  reserved = 0;
}

-- the rights that an open can get
abbrev pub grant_in : Option Card → Rights
grant_in None = record { 0 = 0 }
grant_in (Some card) = card.grant

-- what a name names, as a handle to it with its whole grant would
abbrev pub named_entry : OwnedManager → Result Id Fault → Result Entry Fault
named_entry held (Ok id) = Ok (record {
  id = id;
  rights = grant_in (card held.manager.state id);
  flags = record { 0 = 0 };
})
named_entry held (Err fault) = Err fault

-- that at its place and 0, or a refusal's number, and the place as it was
abbrev pub FindsHandle : OwnedManager → Result Entry Fault → ℕ → HandleInfo → HandleInfo → Type 0
FindsHandle held (Ok entry) status before after = (status ≡ 0) × (after ≡ handle_info held entry)
FindsHandle held (Err fault) status before after = (status ≡ code_of fault) × (after ≡ before)
