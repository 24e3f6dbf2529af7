-- What C is told of what is only read.
use Rattle.std.specs.Prelude.{◌≡◌, ℕ, ◌+◌, Option, Some, None, Result, Ok, Err}
use Rattle.ob_rights.specs.Fault.{code_of}
use Rattle.ob_rights.specs.declared.fault.Fault.{Fault}
use Rattle.ob_rights.specs.declared.kind.Kind.{Kind}
use Rattle.ob_rights.specs.declared.kind.Kind.TheVariants.{Event, Mutex, Semaphore, Timer, Host}
use Rattle.pin_core.specs.declared.id.Id.{Id}
use Rattle.ob_manager.specs.declared.card.Card.{Card}
use Rattle.obman_c.specs.declared.values.Object.{Object}
use Rattle.obman_c.specs.declared.pinning.Description.{Description}
use Rattle.obman_c.specs.Telling.{object_of}

-- an Id at its place and 0, or a refusal's number, and the place as it was
abbrev pub Finds : Result Id Fault → ℕ → Object → Object → Type 0
Finds (Ok id) status before after = (status ≡ 0) × (after ≡ object_of id)
Finds (Err fault) status before after = (status ≡ code_of fault) × (after ≡ before)

-- the number of a kind
abbrev pub kind_number : Kind → ℕ
kind_number Event = 0
kind_number Mutex = 1
kind_number Semaphore = 2
kind_number Timer = 3
kind_number (Host object_type) = 256 + object_type

-- what an object was created as
abbrev pub description_of : Card → Description
description_of card = record {
  kind = kind_number card.descr.kind;
  max = card.descr.max;
  grant = card.grant.0;
  manual = card.descr.manual;
}

-- a description at its place and 0, or 6, and the place as it was
abbrev pub Describes : Option Card → ℕ → Description → Description → Type 0
Describes (Some card) status before after = (status ≡ 0) × (after ≡ description_of card)
Describes None status before after = (status ≡ 6) × (after ≡ before)
