-- What is proved of the object manager, in five statements, and two that follow. Each is a record over the definitions
-- of the crates below, under its sentences of plain English. src/law.rt has for each its law, of every step, history
-- or world, and the function of the code that has it.
use Rattle.std.specs.Prelude.{All, ◌≡◌, ◌⊎◌, ℕ, ◌<◌, ◌≤◌, Bool, true, false, List, [], ◌∷◌, ◌++◌, None, Some, Ok, is_ok, map, slice_index_or}
use Rattle.pin_core.specs.declared.id.Id.{Id}
use Rattle.pin_core.specs.declared.descr.Descr.{Descr}
use Rattle.pin_core.specs.declared.holders.Hold.{Hold}
use Rattle.pin_core.specs.declared.event.Event.{Event}
use Rattle.pin_core.specs.declared.event.Event.TheVariants.{Publish, ReadDescr}
use Rattle.pin_core.specs.Holds.{hold_of, same_id, tally}
use Rattle.pin_core.specs.Worlds.{WorldState, at, given, given_as, pins, slot_of, times}
use Rattle.pin_core.specs.Events.{after, refusal}
use Rattle.pin_core.specs.Safety.{StaysGiven, age}
use Rattle.pin_words.specs.declared.pin_keeper.Reclaim.TheVariants.{Held}
use Rattle.pin_words.specs.declared.view.ReaderView.{ReaderView}
use Rattle.pin_words.specs.declared.view.View.{View}
use Rattle.pin_words.specs.Shown.{Table}
use Rattle.pin_words.specs.Stepped.{IsHold, Pinned, ReaderAt}
use Rattle.ob_rights.specs.declared.fault.Fault.{Fault}
use Rattle.ob_rights.specs.declared.fault.Fault.TheVariants.{Memory}
use Rattle.ob_tables.specs.declared.limits.Limits.{Limits}
use Rattle.ob_store.specs.Consistent.{IsConsistent}
use Rattle.ob_store.specs.Moves.{OnlyCloses}
use Rattle.ob_store.specs.Objects.{Object}
use Rattle.ob_store.specs.State.{State, Whole, opening, settled, without_entry}
use Rattle.ob_manager.specs.Calls.{Call}
use Rattle.ob_manager.specs.declared.call.CallOf.TheVariants as calls
use Rattle.ob_manager.specs.declared.reply.Reply.{Reply}
use Rattle.ob_manager.specs.declared.reply.Reply.TheVariants.{Reaped, Refused}
use Rattle.ob_manager.specs.Copying.{closes}
use Rattle.ob_manager.specs.Savestates.{load, saved}
use Rattle.ob_manager.specs.Steps.{Step, is_lack, next, outcome_of, reclaim_in, takes_memory}
use Rattle.ob_script.specs.Commands.{Command, Asks}
use Rattle.ob_script.specs.Grammar.{command_of}
use Rattle.ob_script.specs.Printed.{printed}
use Rattle.ob_script.specs.Recording.{Notes, Recording}
use Rattle.ob_script.specs.Telling.{text_for}
use Rattle.ob_console.specs.Pinning.{phase_at}
use Rattle.ob_console.specs.Runs.{AnswersTo, IsOpening, Point, last_line}
use Rattle.ob_shared.specs.Closing.{IsPart, has_number}
use Rattle.ob_shared.specs.Journal.{IsHistory, Replays, replay}
use Rattle.ob_shared.specs.Lanes.{LaneState}
use Rattle.ob_shared.specs.declared.book.Entry.{Entry}
use Rattle.ob_console.specs.Retelling.{RetellsTo, script_of}
use Rattle.obman_theorems.specs.Refusals.{IsAmong, refusals_of}

-- 1. TOTAL

-- the call is a duplicate that closes its source, and the state is the first without the source's entry
abbrev pub ClosesSource : State → Call → State → Type 0
ClosesSource s (calls.Duplicate thread source handle target mask inherit options) t =
    (closes options ≡ true) × (t ≡ settled (without_entry s source handle))
ClosesSource s call t = ⊥

-- A refused call changes nothing, of the state and of what is said of the slots; only a duplicate with the option to
-- close its source may have closed the source, and nothing else. A call is refused with one of its own numbers, or
-- with 8 for want of memory; with 8 only where it takes memory in that state, and then nothing has changed. Nothing
-- bounds how often memory is wanting. That each call returns, and that none faults, is no part of the record: the
-- gate's verdict says it of the code, where the stack suffices.
pub record IsRefused (w : Whole) (call : Call) (fault : Fault) (v : Whole) : Type 0 where
  pub own : IsAmong (Memory ∷ refusals_of call) fault
  pub memory : fault ≡ Memory → (takes_memory w.state call ≡ true) × (v ≡ w)
  pub leaves : (v ≡ w) ⊎ (ClosesSource w.state call v.state × OnlyCloses w.keeper v.keeper)

-- 2. STEPS

-- Whenever no call is under way, all that `IsConsistent` lists holds, and each slot is in the phase that the state
-- says: live while its object has a body, closing once the object ended, and without an object free, or retired for
-- good.
pub record IsAtRest (w : Whole) : Type 0 where
  pub kept : IsConsistent w
  pub phases : (k : ℕ) → k < w.keeper.shape.slots → (slot_of w.keeper.slots k).phase ≡ phase_at w.state k

-- Each call is one step of a plain model, from rest to rest: its reply and the state behind it are those of the call's
-- definition. Two things are left open: a call that takes memory, and that nothing else refuses, may be answered 8 and
-- change nothing; and whether a slot that is reaped is still held, the keeper of the slots says. So the state behind a
-- call is a function of the state before it, the call and the reply. No call changes the limits. A slot closes at the
-- call at which its object ends, and at no other.
pub record IsMade (w : Whole) (call : Call) (reply : Reply) (v : Whole) : Type 0 where
  pub before : IsAtRest w
  pub step : Step w call reply v
  pub state : v.state ≡ next w.state call reply
  pub limits : v.state.limits ≡ w.state.limits
  pub refused : (fault : Fault) → reply ≡ Refused fault → IsRefused w call fault v
  pub behind : IsAtRest v

-- What is left open may be chosen each time: 8 of a call that takes memory and that nothing else refuses; and that a
-- slot is held, by any number of pins that it may have, though its object ended.
pub record IsLeftOpen (w : Whole) : Type 0 where
  pub memory : (call : Call) → takes_memory w.state call ≡ true
      → is_ok (outcome_of w.state call (Refused Memory)) ≡ true → Step w call (Refused Memory) w
  pub held : (slot pins : ℕ) (object : Object) → slot < w.state.limits.slots
      → slice_index_or w.state.objects slot None ≡ Some object → slice_index_or w.state.bodies slot None ≡ None
      → 0 < pins → pins ≤ w.keeper.shape.max_pins → Step w (calls.Reap slot) (Reaped object.id (Held pins)) w

-- 3. RECOUNTS

-- The state of a manager is what its journal recounts: the state with which the manager began, and then, entry by
-- entry, the state behind that call with that reply. The premise is that the journal has every call since then
-- (`IsHistoryFrom`), as that of a book does, and of what is under the lock.
pub record IsRecounted (from : State) (journal : List Entry) (w : Whole) : Type 0 where
  pub state : w.state ≡ replay from journal
  pub rest : IsAtRest w

-- the entries of one line: of a call the call with the reply that was printed, and of any other line none
abbrev pub Enters : Command → List ℕ → List Entry → Type 0
Enters (Asks call) output entries = (entry : Entry) × (entries ≡ entry ∷ []) × (entry.call ≡ call)
    × (output ≡ printed entry.reply)
Enters act output entries = entries ≡ []

-- the entries of all lines, in order, where the lines that `--more` adds are read or aren't
abbrev pub AreEntered : Bool → List (List ℕ) → List (List ℕ) → List Entry → Type 0
AreEntered more [] [] entries = entries ≡ []
AreEntered more (line ∷ lines) (output ∷ outputs) entries = (here rest : List Entry) × (entries ≡ here ++ rest)
    × Enters (command_of more line) output here × AreEntered more lines outputs rest
AreEntered more lines outputs entries = ⊥

-- What a run of a script prints is what a run of the model answers, from a new manager with these limits: line by line
-- the reply of its call's step, or what the reader of the pins is answered (`Prints`). The state at the end is what
-- the script's calls, with the replies that were printed for them, recount. Three answers are left open: 8 of a call
-- that takes memory; that a slot which is reaped is held; and that a pin is refused as busy or full. The last two are
-- told by a word that the slot may have, though nobody but the one reader made its pins. The premise is that the run
-- ended with its input; what a run that was cut short had answered, `IsCut` says. With or without the lines that
-- `--more` adds.
pub record IsRun (more : Bool) (limits : Limits) (input output : List ℕ) : Type 0 where
  pub first : Point
  pub last : Point
  pub opens : IsOpening more limits first
  pub answers : AnswersTo first input output last
  pub asked : List Entry
  pub entered : AreEntered more (answers.lines ++ last_line answers.rest) answers.answers.outputs asked
  pub state : last.whole.state ≡ replay (opening limits) asked

-- 4. PINS

-- In a world of pins a slot that somebody has pinned is neither stored to, published nor taken back, so nobody else is
-- given it; a slot is published only while nobody has it pinned; no Id is published twice; a descriptor that is read
-- under a pin is the one that was published with the Id; and no event lowers a slot's generation, or its phase within
-- one. The premise is that each event was possible where it stood (`refusal`), whatever the order of all of them. No
-- answer is bounded: a pin may be refused as busy or full, and a reap answered as held, though none had to be.
pub record IsPinned (w : WorldState) : Type 0 where
  pub stays : (h : Hold) → 0 < times w h → StaysGiven w h.id.slot
  pub alone : (s : ℕ) → refusal w (Publish s) ≡ None → pins w s ≡ 0
  pub once : (id : Id) → given w id ≤ 1
  pub shown : (r : ℕ) (id : Id) (d : Descr) → refusal w (ReadDescr r id d) ≡ None → given_as w id d ≡ 1
  pub onward : (e : Event) (s : ℕ) → refusal w e ≡ None → age (at w s) ≤ age (at (after w e) s)

-- Words that show a safe world (`IsShown`) show such a world, and each copy that a reader of them has is one hold of
-- it.
pub record IsHeldInWords (s : Table) (w : WorldState) : Type 0 where
  pub world : IsPinned w
  pub copies : (j : ℕ) (v : View) (r : ReaderView) (id : Id) (n : ℕ) → ReaderAt s j v r → 1 ≤ n
      → n ≤ tally (same_id id) r.held → (times w (hold_of r.number id n) ≡ 1) × StaysGiven w id.slot

-- A pin that went through is a part of such a world: its look and its exchange were each an event that was possible in
-- a safe world, which some words showed that had this reader among their users; and behind the exchange its copy is
-- one hold of the world. That these were the words of the reader's own table no clause can say: for that one reads the
-- functions that make the steps, a line each.
pub record IsHeld (r : ReaderView) (id : Id) (r' : ReaderView) : Type 0 where
  pub steps : Pinned r id r'
  pub hold : IsHold r' id
  pub world : IsHeldInWords hold.table hold.world

-- 5. LANES

-- All lanes stand in one legal history: the list of each is its part of the history, in order and whole, and each call
-- of the history is of just one of them. The premise is that the lanes are those that were given (`AreWhole`), which
-- is looked at; that one lock stood before all their calls is what the types say. A call that is answered 8 may be in
-- no list (`Lists`), since memory may be wanting before the manager is asked.
pub record AreOneHistory (given : ℕ) (lanes : List LaneState) (journal : List Entry) (w : Whole) : Type 0 where
  pub history : IsHistory journal w
  pub recounts : IsRecounted (opening w.state.limits) journal w
  pub parts : All (IsPart journal) lanes
  pub one : All (λ (entry : Entry). tally (has_number entry.lane) lanes ≡ 1) journal

-- 6. SAVESTATES, from 2

-- the same calls, in whose replies neither memory was wanting nor another thing became of a slot
abbrev pub AreAskedAlike : List Entry → List Entry → Type 0
AreAskedAlike [] [] = Unit {0}
AreAskedAlike (x ∷ xs) (y ∷ ys) = (x.call ≡ y.call) × (is_lack x.reply ≡ false) × (is_lack y.reply ≡ false)
    × (reclaim_in x.reply ≡ reclaim_in y.reply) × AreAskedAlike xs ys
AreAskedAlike xs ys = ⊥

-- Two managers of one state answer every list of calls alike, and come to one state again: unless memory is wanting,
-- or a slot that is reaped isn't found alike, free, retired or held by as many pins.
pub record AreAlike (a b : Whole) : Type 0 where
  pub state : a.state ≡ b.state
  pub answers : (xs ys : List Entry) (v w : Whole) → Replays a xs v → Replays b ys w → AreAskedAlike xs ys
      → (map (λ (x : Entry). x.reply) xs ≡ map (λ (y : Entry). y.reply) ys) × (v.state ≡ w.state)

-- A state has one savestate, whatever the manager; and what is loaded of it is a manager of that very state, so it
-- answers every list of calls as the first one does.
pub record IsSaved (w : Whole) (bytes : List ℕ) : Type 0 where
  pub one : (v : Whole) → IsConsistent v → v.state ≡ w.state → saved v ≡ bytes
  pub loads : (v : Whole) × (load bytes ≡ Ok v) × AreAlike w v

-- 7. REPLAY, from 2 and 3

-- A run of a journal's script prints what its entries were answered, of each that a line can ask for again, in their
-- order, up to the first that is answered otherwise: since memory was wanting, or another thing became of a slot that
-- is reaped (`AnswersOtherwise`).
-- Where there is no such line the run ends in the state of the journal's manager. The premises are that the journal
-- has every call since a state, that the run begins in that state and reads the lines that `--more` adds, and that the
-- numbers of its calls fit their types.
pub record IsReplayed (journal : List Entry) (w : Whole) (output : List ℕ) (last : Point) : Type 0 where
  pub retells : RetellsTo journal output (last.whole.state ≡ w.state)

-- what a recorder notes on its way from one text to another: these entries, in their order
abbrev pub AreNoted : Recording → List Entry → Recording → Type 0
AreNoted r [] t = t ≡ r
AreNoted r (entry ∷ entries) t = (s : Recording) × Notes r (text_for entry.call entry.reply) s × AreNoted s entries t

-- A record of C's calls is the script of these entries, as long as it is on: so a run of it prints what `IsReplayed`
-- says. Where memory was wanting it is off, and ends in a line that says so. C takes it line by line, from its front.
abbrev pub IsRecord : List Entry → Recording → Type 0
IsRecord journal r = r.is_on ≡ true → r.text ≡ script_of journal
