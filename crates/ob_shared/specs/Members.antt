-- What a member's acts are answered with.
use Rattle.std.specs.Prelude.{◌≡◌, ◌≢◌, ◌⊎◌, ◌<◌, ◌≤◌, ℕ, Bool, true, false, List, [], ◌∷◌, ◌++◌, Option, Some, None, Result, Ok, Err, length, take, slice_index_or, vec_capacity}
use Rattle.ob_rights.specs.declared.fault.Fault.TheVariants.{Memory}
use Rattle.pin_core.specs.declared.descr.Descr.{Descr}
use Rattle.pin_core.specs.declared.id.Id.{Id}
use Rattle.pin_core.specs.Holds.{tally, same_id}
use Rattle.pin_words.specs.declared.fault.PinFault.{PinFault}
use Rattle.pin_words.specs.declared.view.ReaderView.{ReaderView}
use Rattle.pin_words.specs.Seats.{ReaderState}
use Rattle.pin_words.specs.Tries.{TriesUntilSettled}
use Rattle.pin_words.specs.Views.{reader_noted, reader_released}
use Rattle.ob_manager.specs.Calls.{begins_wait}
use Rattle.ob_manager.specs.declared.call.CallOf.TheVariants.{WaitResult}
use Rattle.ob_manager.specs.declared.card.Card.{Card}
use Rattle.ob_manager.specs.declared.reply.Reply.{Reply}
use Rattle.ob_manager.specs.declared.reply.Reply.TheVariants.{Pending, Refused, Signaled}
use Rattle.ob_shared.specs.declared.act.Act.{Act}
use Rattle.ob_shared.specs.declared.act.Act.TheVariants.{Ask, Pin, Unpin, ShowCard, Block}
use Rattle.ob_shared.specs.declared.act.Seen.{Seen}
use Rattle.ob_shared.specs.declared.act.Seen.TheVariants as sees
use Rattle.ob_shared.specs.declared.gate.Pass.{Pass}
use Rattle.ob_shared.specs.declared.gate.Pass.TheVariants.{Go, Stop}
use Rattle.ob_shared.specs.declared.member.Member.{Member}
use Rattle.ob_shared.specs.Lanes.{LaneState, Lists}

-- a member between two acts, with the waits that it may block on, the last at the end
pub record Between : Type 0 where
  pub lane : LaneState
  pub waits : List ℕ
  pub reader : ReaderState

abbrev pub between : LaneState → List ℕ → ReaderState → Between
between lane waits reader = record { lane = lane; waits = waits; reader = reader }

-- a call that is answered with the wait that it leaves pending leaves one more to block on
abbrev pub with_wait : Bool → Reply → List ℕ → List ℕ
with_wait true (Pending wait) waits = waits ++ wait ∷ []
with_wait true (Signaled wait) waits = waits ++ wait ∷ []
with_wait waited reply waits = waits

-- the last wait was blocked on: its result is listed, and the wait is taken unless memory was wanting
pub record Blocks (reply : Reply) (old : LaneState) (waits : List ℕ) (new : LaneState) (left : List ℕ) : Type 0 where
  pub wait : ℕ
  pub rest : List ℕ
  pub last : waits ≡ rest ++ wait ∷ []
  pub listed : Lists old (WaitResult wait) reply new
  pub answered : (w : ℕ) → reply ≢ Pending w
  pub taken : reply ≢ Refused Memory → left ≡ rest
  pub kept : reply ≡ Refused Memory → left ≡ waits

-- tries until one isn't answered busy, and the descriptor that is noted where that one pinned
abbrev pub Pins : ReaderView → Id → Result Descr PinFault → ReaderView → Type 0
Pins r id (Ok descr) v = (t : ReaderView) × TriesUntilSettled r id (Ok tt) t × (v ≡ reader_noted t id descr)
Pins r id (Err fault) v = TriesUntilSettled r id (Err fault) v

abbrev pub Unpins : ReaderView → Id → Bool → ReaderView → Type 0
Unpins r id true v = (0 < tally (same_id id) r.held) × (v ≡ reader_released r id)
Unpins r id false v = (tally (same_id id) r.held ≡ 0) × (v ≡ r)

-- a card is shown of a held Id alone, and it is that Id's
abbrev pub Shows : ReaderView → Id → Option Card → Type 0
Shows r id (Some card) = (0 < tally (same_id id) r.held) × (card.id ≡ id)
Shows r id None = Unit {0}

-- nothing but what the reader sees has changed
abbrev pub IsReading : Between → Between → Type 0
IsReading s t = (t.lane ≡ s.lane) × (t.waits ≡ s.waits) × (t.reader.table ≡ s.reader.table)

-- the answer of one act, with the member before and after
abbrev pub ActAnswered : Act → Seen → Between → Between → Type 0
ActAnswered (Ask call) (sees.Reply reply) s t = Lists s.lane call reply t.lane
    × (t.waits ≡ with_wait (begins_wait call) reply s.waits) × (t.reader ≡ s.reader)
ActAnswered (Pin id) (sees.Pinned answer) s t = Pins s.reader.view id answer t.reader.view × IsReading s t
ActAnswered (Unpin id) (sees.Unpinned was_held) s t = Unpins s.reader.view id was_held t.reader.view × IsReading s t
ActAnswered (ShowCard id) (sees.Shown card) s t = Shows s.reader.view id card × (t ≡ s)
ActAnswered Block (sees.Blocked (Some reply)) s t = Blocks reply s.lane s.waits t.lane t.waits × (t.reader ≡ s.reader)
ActAnswered Block (sees.Blocked None) s t = (s.waits ≡ []) × (t ≡ s)
ActAnswered act answer s t = ⊥

-- each act has its answer, one after another
abbrev pub Goes : List Act → List Seen → Between → Between → Type 0
Goes [] [] s t = t ≡ s
Goes (act ∷ acts) (answer ∷ answers) s t = (u : Between) × ActAnswered act answer s u × Goes acts answers u t
Goes [] (answer ∷ answers) s t = ⊥
Goes (act ∷ acts) [] s t = ⊥

-- what the gate may answer at each place of the member's acts
abbrev pub Passes : Type 1
Passes = ℕ → Pass → Type 0

-- what the gate was told of at each place
abbrev pub GateTold : Type 1
GateTold = ℕ → Seen → Type 0

-- told of the place, and not of what was seen there
abbrev pub of_places : (ℕ → ℕ → Type 0) → ℕ → GateTold
of_places told lane place seen = told lane place

-- the gate was told of each answer
pub record AreTold (told : GateTold) (seen : List Seen) : Type 0 where
  pub at : (place : ℕ) (d : Seen) → place < length seen → told place (slice_index_or seen place d)

-- each act was let pass, and answered, of which the gate was told
pub record IsWhole (may : Passes) (told : GateTold) (script : List Act) (seen : List Seen) (s t : Between)
    : Type 0 where
  pub passed : (place : ℕ) → place < length script → may place Go
  pub goes : Goes script seen s t
  pub tells : AreTold told seen

-- so was each act before a place, and the member was stopped there
pub record IsStopped (may : Passes) (told : GateTold) (script : List Act) (seen : List Seen) (s t : Between)
    : Type 0 where
  pub at : ℕ
  pub answers : List Seen
  pub within : at < length script
  pub passed : (place : ℕ) → place < at → may place Go
  pub stopped : may at Stop
  pub goes : Goes (take at script) answers s t
  pub tells : AreTold told answers
  pub ends : seen ≡ answers ++ sees.Stopped ∷ []

abbrev pub IsRun : Passes → GateTold → List Act → List Seen → Between → Between → Type 0
IsRun may told script seen s t = IsWhole may told script seen s t ⊎ IsStopped may told script seen s t

-- it has seen nothing
abbrev pub IsNew : Member → Type 0
IsNew m = m.seen.items ≡ []

-- it has room for its answers, too
abbrev pub IsReady : Member → Type 0
IsReady m = (m.seen.items ≡ []) × (length m.script.items ≤ vec_capacity m.seen)

-- but for room, the member is as it was
abbrev pub IsSame : Member → Member → Type 0
IsSame old new = (new.lane ≡ old.lane) × (new.reader ≡ old.reader) × (new.script ≡ old.script)
    × (new.seen.items ≡ old.seen.items)

-- a member without waits was run, where the gate may answer so, and is told of this, in each lane
pub record IsDriven (may : ℕ → ℕ → Pass → Type 0) (told : ℕ → GateTold) (old new : Member) : Type 0 where
  pub waits : List ℕ
  pub script : new.script ≡ old.script
  pub number : new.lane.number ≡ old.lane.number
  pub run : IsRun (may old.lane.number) (told old.lane.number) old.script.items new.seen.items
      (between old.lane [] old.reader) (between new.lane waits new.reader)
