-- What each atomic step does to the world that the seats make.
use Rattle.std.specs.Prelude.{◌≡◌, ◌≢◌, ◌⊎◌, ℕ, ◌+◌, ◌-◌, ◌<◌, ◌≤◌, List, [], ◌∷◌, ◌++◌, slice_set, bit_or, Some, None, Result, Ok, Err}
use mathlib.Core.Option.{some}
use lib.ListN.{get_elem?}
use Rattle.pin_core.specs.declared.word.Phase.TheVariants.{Free, Live, Closing}
use Rattle.pin_core.specs.declared.id.Id.{Id}
use Rattle.pin_core.specs.declared.word.Word.{Word}
use Rattle.pin_core.specs.declared.descr.Descr.{Descr}
use Rattle.pin_core.specs.declared.shape.Shape.{Shape}
use Rattle.pin_core.specs.declared.holders.Hold.{Hold}
use Rattle.pin_core.specs.declared.event.Event.TheVariants as event
use Rattle.pin_core.specs.Words.{decoded}
use Rattle.pin_core.specs.Descrs as descr_code
use Rattle.pin_core.specs.Holds.{tally, hold_of, same_id}
use Rattle.pin_core.specs.Worlds.{WorldState, opening_of, slot_of, times, given_as}
use Rattle.pin_core.specs.Safety.{IsSafe, StaysGiven}
use Rattle.pin_words.specs.declared.fault.PinFault.{PinFault}
use Rattle.pin_words.specs.declared.fault.PinFault.TheVariants as fault
use Rattle.pin_words.specs.declared.view.Note.{Note}
use Rattle.pin_words.specs.declared.view.KeeperView.{KeeperView}
use Rattle.pin_words.specs.declared.view.ReaderView.{ReaderView}
use Rattle.pin_words.specs.declared.view.View.{View}
use Rattle.pin_words.specs.Places.{place_of, descr_place}
use Rattle.pin_words.specs.Views.{view, id_in, reader_looked, reader_got, reader_released, reader_noted, keeper_looked, keeper_stored, keeper_published, keeper_closed, keeper_reclaimed}
use Rattle.pin_words.specs.Shown.{Table, IsShown}
pub use Rattle.pin_words.specs.Stepped.{ReaderAt, KeeperAt, with_reader, with_keeper, word, descr_word, after_step, with_views, StepsBy, closing_word, next_word, Stands, LoadStep, PinStep, Pinned, IsHold}
use Rattle.pin_words.specs.Plays.{NoLater, gave, given, spent}
use Rattle.pin_words.specs.Tries.{Tries, WasStale}

-- each note is the descriptor that was published with its Id
abbrev pub ArePublished : WorldState → List Note → Type 0
ArePublished w [] = Unit {0}
ArePublished w (x ∷ xs) = (given_as w x.id x.descr ≡ 1) × ArePublished w xs

-- the same slots, the same published list, the same set of holds
abbrev pub AreAlike : WorldState → WorldState → Type 0
AreAlike a b = (a.shape ≡ b.shape) × (a.slots ≡ b.slots) × (a.published ≡ b.published)
    × ((t : Hold) → times a t ≡ times b t)

-- a table shows one world
abbrev pub ShowsOneWorld : Type 0
ShowsOneWorld = (k : Shape) (s : Table) (a b : WorldState) → IsShown k s a → IsShown k s b → AreAlike a b

-- whatever the table is: as long as the keeper's seat knows this, it shows the opening world
abbrev pub ShowsOpening : KeeperView → Type 0
ShowsOpening q = (s : Table) (w : WorldState) (j : ℕ) (v : View) → IsShown q.shape s w → KeeperAt s j v q
    → AreAlike w (opening_of q.shape)

abbrev pub ShowsSafeWorld : Type 0
ShowsSafeWorld = (k : Shape) (s : Table) (w : WorldState) → IsShown k s w → IsSafe w

-- a reader's load of a pin word
abbrev pub LoadSteps : Type 0
LoadSteps = (k : Shape) (s : Table) (w : WorldState) (j i : ℕ) (v : View) (r : ReaderView) → IsShown k s w
    → ReaderAt s j v r → i < k.slots
    → StepsBy k w (event.Load r.number i) (after_step s (place_of i) (word s i) j
    (with_reader v (reader_looked r i (word s i))))

-- a reader's exchange of a pin word for one with one more pin, where it is the word that was expected; else it is a
-- load
abbrev pub PinSteps : Type 0
PinSteps = (k : Shape) (s : Table) (w : WorldState) (j i : ℕ) (v : View) (r : ReaderView) → IsShown k s w
    → ReaderAt s j v r → i < k.slots
    → (decoded (word s i)).phase ≡ Live → (decoded (word s i)).pins ≢ k.max_pins
    → StepsBy k w (event.Pin r.number i (decoded (word s i)))
    (after_step s (place_of i) (word s i + 1) j (with_reader v (reader_got r (id_in i (word s i)) (word s i))))

-- a reader's subtraction of one pin
abbrev pub ReleaseSteps : Type 0
ReleaseSteps = (k : Shape) (s : Table) (w : WorldState) (j : ℕ) (v : View) (r : ReaderView) (id : Id) → IsShown k s w
    → ReaderAt s j v r → 0 < tally (same_id id) r.held
    → StepsBy k w (event.Release r.number id) (after_step s (place_of id.slot) (word s id.slot - 1) j
    (with_reader v (reader_released r id)))

-- the keeper sets bit 30 of the word by an atomic or: publish
abbrev pub PublishSteps : Type 0
PublishSteps = (k : Shape) (s : Table) (w : WorldState) (j i : ℕ) (v : View) (q : KeeperView) → IsShown k s w
    → KeeperAt s j v q → i < k.slots → (slot_of q.slots i).phase ≡ Free
    → StepsBy k w (event.Publish i) (after_step s (place_of i) (bit_or (word s i) 1073741824) j
    (with_keeper v (keeper_published q i)))

-- the keeper sets bit 31 of the word by an atomic or: close
abbrev pub CloseSteps : Type 0
CloseSteps = (k : Shape) (s : Table) (w : WorldState) (j i : ℕ) (v : View) (q : KeeperView) → IsShown k s w
    → KeeperAt s j v q → i < k.slots → (slot_of q.slots i).phase ≡ Live
    → StepsBy k w (event.CloseSlot i) (after_step s (place_of i) (bit_or (word s i) 2147483648) j
    (with_keeper v (keeper_closed q i)))

-- the keeper's exchange of a closing word without pins
abbrev pub ReclaimSteps : Type 0
ReclaimSteps = (k : Shape) (s : Table) (w : WorldState) (j i : ℕ) (v : View) (q : KeeperView) → IsShown k s w
    → KeeperAt s j v q → i < k.slots → (slot_of q.slots i).phase ≡ Closing
    → word s i ≡ closing_word (slot_of q.slots i)
    → StepsBy k w (event.Reclaim i) (after_step s (place_of i) (next_word k.max_gen (slot_of q.slots i)) j
    (with_keeper v (keeper_reclaimed q i (word s i))))

-- that exchange where it fails: there are pins, and it is a load. The keeper stands in the place of a reader, of
-- whatever number
abbrev pub FailedReclaimSteps : Type 0
FailedReclaimSteps = (k : Shape) (s : Table) (w : WorldState) (j i n : ℕ) (v : View) (q : KeeperView) → IsShown k s w
    → KeeperAt s j v q → i < k.slots → (slot_of q.slots i).phase ≡ Closing
    → word s i ≢ closing_word (slot_of q.slots i)
    → (0 < (decoded (word s i)).pins) × StepsBy k w (event.Load n i)
    (after_step s (place_of i) (word s i) j (with_keeper v (keeper_looked q i (word s i))))

-- the keeper's store of a descriptor word
abbrev pub StoreSteps : Type 0
StoreSteps = (k : Shape) (s : Table) (w : WorldState) (j i : ℕ) (v : View) (q : KeeperView) (d : Descr) → IsShown k s w
    → KeeperAt s j v q → i < k.slots → (slot_of q.slots i).phase ≡ Free → descr_code.IsGiven d
    → StepsBy k w (event.StoreDescr i d) (after_step s (descr_place i) (descr_code.encoded d) j
    (with_keeper v (keeper_stored q i d)))

-- a reader's load of the descriptor word of a slot that it holds
abbrev pub ReadSteps : Type 0
ReadSteps = (k : Shape) (s : Table) (w : WorldState) (j : ℕ) (v : View) (r : ReaderView) (id : Id) (d : Descr)
    → IsShown k s w → ReaderAt s j v r → 0 < tally (same_id id) r.held
    → descr_code.decoded (descr_word s id.slot) ≡ Some d
    → StepsBy k w (event.ReadDescr r.number id d) (after_step s (descr_place id.slot) (descr_word s id.slot) j
    (with_reader v (reader_noted r id d)))

-- the keeper makes a reader's seat from its own; a seat makes one that knows nothing; the keeper's and a reader's are
-- joined, and parted again: the world stays
abbrev pub GivesReader : Type 0
GivesReader = (k : Shape) (s : Table) (w : WorldState) (j : ℕ) (v : View) (q : KeeperView) → IsShown k s w
    → KeeperAt s j v q
    → IsShown k (with_views s (slice_set s.views j (gave v) ++ given v ∷ [])) w

abbrev pub GivesBlank : Type 0
GivesBlank = (k : Shape) (s : Table) (w : WorldState) (j : ℕ) (v : View) → IsShown k s w → get_elem? s.views j ≡ some v
    → IsShown k (with_views s (slice_set s.views j v ++ spent ∷ [])) w

abbrev pub JoinsSeats : Type 0
JoinsSeats = (k : Shape) (s : Table) (w : WorldState) (i j : ℕ) (q : KeeperView) (r : ReaderView) → IsShown k s w
    → get_elem? s.views i ≡ some (view (Some q) None)
    → j ≢ i → get_elem? (slice_set s.views i (view (Some q) (Some r))) j ≡ some (view None (Some r))
    → IsShown k (with_views s (slice_set (slice_set s.views i (view (Some q) (Some r))) j spent)) w

abbrev pub PartsSeats : Type 0
PartsSeats = (k : Shape) (s : Table) (w : WorldState) (j : ℕ) (q : KeeperView) (r : ReaderView) → IsShown k s w
    → get_elem? s.views j ≡ some (view (Some q) (Some r))
    → IsShown k (with_views s (slice_set s.views j (view (Some q) None) ++ view None (Some r) ∷ [])) w

-- each copy that a reader's view has is one hold of the world, and its slot can't be taken
abbrev pub CopiesStay : Type 0
CopiesStay = (k : Shape) (s : Table) (w : WorldState) (j : ℕ) (v : View) (r : ReaderView) (id : Id) (n : ℕ)
    → IsShown k s w → ReaderAt s j v r → 1 ≤ n → n ≤ tally (same_id id) r.held
    → (times w (hold_of r.number id n) ≡ 1) × StaysGiven w id.slot

abbrev pub NotesArePublished : Type 0
NotesArePublished = (k : Shape) (s : Table) (w : WorldState) (j : ℕ) (v : View) (r : ReaderView) → IsShown k s w
    → ReaderAt s j v r → ArePublished w r.notes

-- a try that lost its exchange found two words, of which the second, which it shows, is no earlier than the first
abbrev pub LostSeesNoEarlier : Type 0
LostSeesNoEarlier = (r r' : ReaderView) (id : Id) (seen : Word) → Tries r id (Err (fault.Busy seen)) r'
    → (n : ℕ) × (m : ℕ) × (r' ≡ reader_looked (reader_looked r id.slot n) id.slot m) × (seen ≡ decoded m) × NoLater n m

-- a try to pin that went through made two steps, each on a table that shows a safe world, and its copy is a hold of one
abbrev pub TriesPin : Type 0
TriesPin = (r r' : ReaderView) (id : Id) → Tries r id (Ok tt) r' → Pinned r id r' × IsHold r' id

-- a try to pin an Id that an earlier look found stale is refused as stale, or since 16 copies are held
abbrev pub StaleStays : Type 0
StaleStays = (r r' : ReaderView) (id : Id) (answer : Result (Unit {0}) PinFault) → Tries r id answer r'
    → id.slot < r.shape.slots → WasStale r.shape.max_pins id r.looks
    → (answer ≡ Err fault.Stale) ⊎ (answer ≡ Err fault.HeldFull)
