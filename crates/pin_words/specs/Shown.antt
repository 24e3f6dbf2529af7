-- The rule of the table: what the seats know makes a world, and the words are those of that world.
use Rattle.std.specs.Prelude.{◌≡◌, ◌⊎◌, ℕ, ◌+◌, ◌*◌, ◌<◌, ◌≤◌, List, [], ◌∷◌, length, slice_index, Some, IfSome}
use mathlib.Core.Option.{some}
use lib.ListN.{get_elem?}
use Rattle.atomic_table.specs.Table.{State}
use Rattle.pin_core.specs.declared.id.Id.{Id}
use Rattle.pin_core.specs.declared.word.Phase.TheVariants.{Retired}
use Rattle.pin_core.specs.declared.shape.Shape.{Shape}
use Rattle.pin_core.specs.Shapes.{IsWithinLimits}
use Rattle.pin_core.specs.Words as word_code
use Rattle.pin_core.specs.Descrs as descr_code
use Rattle.pin_core.specs.Holds.{tally, same_id}
use Rattle.pin_core.specs.Worlds.{WorldState, at, word_at, copies, given_as}
use Rattle.pin_core.specs.Safety.{IsSafe, rank_of, age}
use Rattle.pin_words.specs.declared.view.Look.{Look}
use Rattle.pin_words.specs.declared.view.Note.{Note}
use Rattle.pin_words.specs.declared.view.KeeperView.{KeeperView}
use Rattle.pin_words.specs.declared.view.ReaderView.{ReaderView}
use Rattle.pin_words.specs.declared.view.View.{View}
use Rattle.pin_words.specs.Places.{words_of, place_of, descr_place}

-- the generation and phase of a word, in one number that never falls
abbrev pub word_age : ℕ → ℕ
word_age n = (word_code.decoded n).generation * 4 + rank_of (word_code.decoded n).phase

-- a word that was found isn't ahead of its slot, and a retired one is at the last generation
abbrev pub IsPast : WorldState → Look → Type 0
IsPast w l = (word_age l.word ≤ age (at w l.slot))
    × ((word_code.decoded l.word).phase ≡ Retired → w.shape.max_gen ≤ (word_code.decoded l.word).generation)

abbrev pub NotAhead : WorldState → List Look → Type 0
NotAhead w [] = Unit {0}
NotAhead w (l ∷ ls) = IsPast w l × NotAhead w ls

-- each note was published with its Id
abbrev pub AreNoted : WorldState → List Note → Type 0
AreNoted w [] = Unit {0}
AreNoted w (x ∷ xs) = (0 < given_as w x.id x.descr) × AreNoted w xs

-- the reader of the number r holds these Ids
abbrev pub HoldsJust : WorldState → ℕ → List Id → Type 0
HoldsJust w r held = (id : Id) → copies w r id ≡ tally (same_id id) held

-- the keeper's part tells the slots and the published list; its seat is the keeper's
pub record OfKeeper (w : WorldState) (keeper next seat : ℕ) (k : KeeperView) : Type 0 where
  pub shape : k.shape ≡ w.shape
  pub mine : seat ≡ keeper
  pub slots : k.slots ≡ w.slots
  pub published : k.published ≡ w.published
  pub next_is : k.next ≡ next
  pub looks : NotAhead w k.looks

-- a reader's part tells what it holds; its number was given, and to this seat
pub record OfReader (w : WorldState) (next : ℕ) (owner : ℕ → ℕ) (seat : ℕ) (r : ReaderView) : Type 0 where
  pub shape : r.shape ≡ w.shape
  pub born : r.number < next
  pub mine : owner r.number ≡ seat
  pub held : HoldsJust w r.number r.held
  pub notes : AreNoted w r.notes
  pub looks : NotAhead w r.looks

abbrev pub Agrees : WorldState → ℕ → ℕ → (ℕ → ℕ) → ℕ → View → Type 0
Agrees w keeper next owner seat v = IfSome v.keeper (OfKeeper w keeper next seat)
    × IfSome v.reader (OfReader w next owner seat)

-- the seat j has the keeper's part; the seat j has the part of the reader r
abbrev pub HasKeeper : List View → ℕ → Type 0
HasKeeper vs j = (v : View) × (k : KeeperView) × (get_elem? vs j ≡ some v) × (v.keeper ≡ Some k)

abbrev pub HasReader : List View → ℕ → ℕ → Type 0
HasReader vs j r = (v : View) × (x : ReaderView) × (get_elem? vs j ≡ some v) × (v.reader ≡ Some x) × (x.number ≡ r)

abbrev pub Table : Type 0
Table = State (Unit {0}) View

-- each slot has two words, of which the first tells the slot and the second its descriptor. The world is safe,
-- and each seat agrees with it; one seat has the keeper's part, and every reader that holds something has a seat of its
-- own. For whoever knows hazard pointers: the pins in a word are the number of hazard pointers to its slot, published
-- by the very exchange that checks the generation, and this says that the number and the holders never part
pub record IsShown (k : Shape) (s : Table) (world : WorldState) : Type 0 where
  pub fits : IsWithinLimits k
  pub shape : world.shape ≡ k
  pub wide : length s.words ≡ words_of k.slots
  pub safe : IsSafe world
  pub words : (i : ℕ) → i < k.slots → slice_index s.words (place_of i) ≡ word_code.encoded (word_at world i)
  pub descrs : (i : ℕ) → i < k.slots → slice_index s.words (descr_place i) ≡ descr_code.encoded (at world i).descr
  pub given : (i : ℕ) → i < k.slots → descr_code.IsGiven (at world i).descr
  pub keeper : ℕ
  pub next : ℕ
  pub owner : ℕ → ℕ
  pub each : (j : ℕ) (v : View) → get_elem? s.views j ≡ some v → Agrees world keeper next owner j v
  pub unborn : (r : ℕ) → next ≤ r → HoldsJust world r []
  pub kept : HasKeeper s.views keeper
  pub owned : (r : ℕ) → HoldsJust world r [] ⊎ HasReader s.views (owner r) r

abbrev pub Shown : Shape → Table → Type 0
Shown k s = (w : WorldState) × IsShown k s w
