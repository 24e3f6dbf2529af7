-- What C is told of a reply: a number, and the values that the reply has.
use Rattle.std.specs.Prelude.{◌≡◌, ℕ}
use Rattle.ob_rights.specs.Fault.{code_of}
use Rattle.pin_core.specs.declared.id.Id.{Id}
use Rattle.pin_words.specs.declared.pin_keeper.Reclaim.{Reclaim}
use Rattle.pin_words.specs.declared.pin_keeper.Reclaim.TheVariants.{Freed, Retired, Held}
use Rattle.ob_manager.specs.Calls.{Call}
use Rattle.ob_manager.specs.declared.reply.Reply.{Reply}
use Rattle.ob_manager.specs.declared.reply.Reply.TheVariants.{Spawned, Started, Made, Exists, Opened, Duplicated, Flags, Previous, Code, Pending, Signaled, Reaped, CountsAre, Refused}
use Rattle.obman_c_base.specs.Made.{Makes}
use Rattle.obman_c_base.specs.declared.owned.OwnedManager.{OwnedManager}
use Rattle.obman_c.specs.declared.values.Member.{Member}
use Rattle.obman_c.specs.declared.values.Object.{Object}
use Rattle.obman_c.specs.declared.values.Opening.{Opening}
use Rattle.obman_c.specs.declared.values.Reaping.{Reaping}
use Rattle.obman_c.specs.declared.values.References.{References}

-- 0, but ERROR_ALREADY_EXISTS for a name that was there, ERROR_IO_PENDING for a wait that is pending, and a refusal's
-- own number
abbrev pub status_of : Reply → ℕ
status_of (Exists handle id) = 183
status_of (Pending number) = 997
status_of (Signaled number) = 997
status_of (Refused fault) = code_of fault
status_of reply = 0

-- From a state a call is made, with some reply, and this number is told of the reply.
pub record TellsStatus (old : OwnedManager) (call : Call) (status : ℕ) (new : OwnedManager) : Type 0 where
  pub reply : Reply
  pub made : Makes old call reply new
  pub told : status ≡ status_of reply

-- the same where a value is told too, over what stood at its place
pub record TellsValue {V : Type 0} (value_of : Reply → V
    → V) (old : OwnedManager) (call : Call) (status : ℕ) (new : OwnedManager) (before after : V) : Type 0 where
  pub reply : Reply
  pub made : Makes old call reply new
  pub told : status ≡ status_of reply
  pub value : after ≡ value_of reply before

-- Each value by the replies that have one; no other reply changes what stood there.
abbrev pub object_of : Id → Object
object_of id = record { slot = id.slot; generation = id.generation }

abbrev pub member_in : Reply → Member → Member
member_in (Spawned process thread) before = record { process = process; thread = thread }
member_in reply before = before

abbrev pub thread_in : Reply → ℕ → ℕ
thread_in (Started thread) before = thread
thread_in reply before = before

abbrev pub opening_of : ℕ → Id → Opening
opening_of handle id = record { handle = handle; object = object_of id }

abbrev pub opening_in : Reply → Opening → Opening
opening_in (Made handle id) before = opening_of handle id
opening_in (Exists handle id) before = opening_of handle id
opening_in (Opened handle id) before = opening_of handle id
opening_in (Duplicated handle id) before = opening_of handle id
opening_in reply before = before

abbrev pub flags_in : Reply → ℕ → ℕ
flags_in (Flags bits) before = bits
flags_in reply before = before

abbrev pub count_in : Reply → ℕ → ℕ
count_in (Previous count) before = count
count_in reply before = before

-- a wait's code, or its number where it is pending
abbrev pub answer_in : Reply → ℕ → ℕ
answer_in (Code code) before = code
answer_in (Pending number) before = number
answer_in (Signaled number) before = number
answer_in reply before = before

-- what became of a slot: 0 where it is free, 1 where it was given up, 2 where somebody holds it
abbrev pub outcome_of : Reclaim → ℕ
outcome_of Freed = 0
outcome_of Retired = 1
outcome_of (Held pins) = 2

abbrev pub pins_of : Reclaim → ℕ
pins_of Freed = 0
pins_of Retired = 0
pins_of (Held pins) = pins

abbrev pub reaping_in : Reply → Reaping → Reaping
reaping_in (Reaped id outcome) before = record {
  object = object_of id;
  outcome = outcome_of outcome;
  pins = pins_of outcome;
}
reaping_in reply before = before

abbrev pub references_in : Reply → References → References
references_in (CountsAre handles waits hold) before = record { waits = waits; handles = handles; hold = hold }
references_in reply before = before
