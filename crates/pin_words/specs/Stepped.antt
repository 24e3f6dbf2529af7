-- The steps of readers, each on a table whose words show a safe world.
use Rattle.std.specs.Prelude.{◌≡◌, ℕ, ◌+◌, ◌-◌, List, slice_index, slice_set, Some}
use mathlib.Core.Option.{some}
use lib.ListN.{get_elem?}
use Rattle.pin_core.specs.declared.id.Id.{Id}
use Rattle.pin_core.specs.declared.descr.Descr.{Descr}
use Rattle.pin_core.specs.declared.shape.Shape.{Shape}
use Rattle.pin_core.specs.declared.word.Phase.TheVariants.{Closing}
use Rattle.pin_core.specs.declared.world.Slot.{Slot}
use Rattle.pin_core.specs.declared.event.Event.{Event}
use Rattle.pin_core.specs.declared.event.Event.TheVariants as event
use Rattle.pin_core.specs.Words.{decoded}
use Rattle.pin_core.specs.Holds.{tally, hold_of, same_id}
use Rattle.pin_core.specs.Worlds.{WorldState, times}
use Rattle.pin_core.specs.Events.{Transition, after, in_phase, reclaimed}
use Rattle.pin_core.specs.Safety.{IsSafe, StaysGiven}
use Rattle.pin_words.specs.declared.view.KeeperView.{KeeperView}
use Rattle.pin_words.specs.declared.view.ReaderView.{ReaderView}
use Rattle.pin_words.specs.declared.view.View.{View}
use Rattle.pin_words.specs.Places.{place_of, descr_place, pin_word}
use Rattle.pin_words.specs.Views.{view, reader_looked, reader_got, reader_released, reader_noted}
use Rattle.pin_words.specs.Shown.{Table, IsShown}

-- the seat j has the view v, with this part of a reader, or of the keeper
pub record ReaderAt (s : Table) (j : ℕ) (v : View) (r : ReaderView) : Type 0 where
  pub seated : get_elem? s.views j ≡ some v
  pub part : v.reader ≡ Some r

pub record KeeperAt (s : Table) (j : ℕ) (v : View) (k : KeeperView) : Type 0 where
  pub seated : get_elem? s.views j ≡ some v
  pub part : v.keeper ≡ Some k

-- the view with another part
abbrev pub with_reader : View → ReaderView → View
with_reader v r = view v.keeper (Some r)

abbrev pub with_keeper : View → KeeperView → View
with_keeper v k = view (Some k) v.reader

-- the pin word of the slot i, and its descriptor's
abbrev pub word : Table → ℕ → ℕ
word s i = slice_index s.words (place_of i)

abbrev pub descr_word : Table → ℕ → ℕ
descr_word s i = slice_index s.words (descr_place i)

-- the table after the word at the place i became n, and the seat j got the view v
abbrev pub after_step : Table → ℕ → ℕ → ℕ → View → Table
after_step s i n j v = record s { words = slice_set s.words i n; views = slice_set s.views j v }

abbrev pub with_views : Table → List View → Table
with_views s views = record s { views = views }

-- the step takes the world to its successor by the event: the event is possible, and the table then shows the world
-- after it
pub record StepsBy (k : Shape) (w : WorldState) (e : Event) (s' : Table) : Type 0 where
  pub can : Transition w e (after w e)
  pub shown : IsShown k s' (after w e)

-- the word of a closing slot without pins, and the word that it is exchanged for
abbrev pub closing_word : Slot → ℕ
closing_word x = pin_word (in_phase x Closing)

abbrev pub next_word : ℕ → Slot → ℕ
next_word max_gen x = pin_word (reclaimed max_gen x)

-- The word n stood at the place p of a table whose words show a safe world, and a seat of it is this reader's. A table
-- is all words and all that their users know of them, at one moment.
pub record Stands (r : ReaderView) (p n : ℕ) : Type 0 where
  pub table : Table
  pub world : WorldState
  pub seat : ℕ
  pub view : View
  pub shown : IsShown r.shape table world
  pub here : ReaderAt table seat view r
  pub found : slice_index table.words p ≡ n

-- The reader made a step on such a table: the word became m by an event that is possible in that world, and the table
-- then shows the world after the event, with what the reader then knows.
pub record Stepped (r : ReaderView) (e : Event) (p n m : ℕ) (r' : ReaderView) : Type 0 where
  pub stands : Stands r p n
  pub steps : StepsBy r.shape stands.world e (after_step stands.table p m stands.seat (with_reader stands.view r'))

-- a load of the word of the slot s, which is n
abbrev pub LoadStep : ReaderView → ℕ → ℕ → Type 0
LoadStep r s n = Stepped r (event.Load r.number s) (place_of s) n n (reader_looked r s n)

-- an exchange of the word n for one with one more pin, which is a copy of the Id
abbrev pub PinStep : ReaderView → Id → ℕ → Type 0
PinStep r id n = Stepped r (event.Pin r.number id.slot (decoded n)) (place_of id.slot) n (n + 1) (reader_got r id n)

-- a subtraction of one pin
abbrev pub ReleaseStep : ReaderView → Id → Type 0
ReleaseStep r id = (n : ℕ) × Stepped r (event.Release r.number id) (place_of id.slot) n (n - 1) (reader_released r id)

-- a load of the descriptor of an Id that is held
abbrev pub DescrStep : ReaderView → Id → Descr → Type 0
DescrStep r id d = (n : ℕ) × Stepped r (event.ReadDescr r.number id d) (descr_place id.slot) n n (reader_noted r id d)

-- a try to pin that went through: a load that found the word n, and an exchange of it
pub record Pinned (r : ReaderView) (id : Id) (r' : ReaderView) : Type 0 where
  pub word_found : ℕ
  pub loads : LoadStep r id.slot word_found
  pub pins : PinStep (reader_looked r id.slot word_found) id word_found
  pub now : r' ≡ reader_got (reader_looked r id.slot word_found) id word_found

-- The reader's last copy of the Id is one hold of a safe world that the words of a table show, of which a seat is this
-- reader's; and no event that is possible there takes its slot.
pub record IsHold (r : ReaderView) (id : Id) : Type 0 where
  pub table : Table
  pub world : WorldState
  pub seat : ℕ
  pub view : View
  pub shown : IsShown r.shape table world
  pub safe : IsSafe world
  pub here : ReaderAt table seat view r
  pub hold : times world (hold_of r.number id (tally (same_id id) r.held)) ≡ 1
  pub stays : StaysGiven world id.slot
