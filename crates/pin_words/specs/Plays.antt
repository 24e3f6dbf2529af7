-- What each atomic step tells the seat that makes it.
use Rattle.std.specs.Prelude.{◌≡◌, ◌≢◌, ℕ, ◌<◌, ◌≤◌, true, List, [], ◌∷◌, Option, Some, None, IfSome, option_map}
use Rattle.std.specs.Option.{option_or}
use Rattle.atomic_table.specs.Table.{Step}
use Rattle.pin_core.specs.declared.id.Id.{Id}
use Rattle.pin_core.specs.declared.descr.Descr.{Descr}
use Rattle.pin_core.specs.declared.word.Phase.TheVariants.{Retired}
use Rattle.pin_core.specs.declared.shape.Shape.{Shape}
use Rattle.pin_core.specs.declared.world.Slot.{Slot}
use Rattle.pin_core.specs.Words.{decoded}
use Rattle.pin_core.specs.Descrs as descr_code
use Rattle.pin_core.specs.Holds.{tally, same_id}
use Rattle.pin_core.specs.Worlds.{slot_of, is_with}
use Rattle.pin_core.specs.Safety.{may_be_held}
use Rattle.pin_words.specs.declared.view.Look.{Look}
use Rattle.pin_words.specs.declared.view.Note.{Note}
use Rattle.pin_words.specs.declared.view.KeeperView.{KeeperView}
use Rattle.pin_words.specs.declared.view.ReaderView.{ReaderView}
use Rattle.pin_words.specs.declared.view.View.{View}
use Rattle.pin_words.specs.Views.{M, view, is_of_slot, id_of, id_in, reader_looked, reader_got, reader_released, reader_noted, reader_given, keeper_looked, keeper_stored, keeper_published, keeper_closed, keeper_reclaimed, keeper_gave}
use Rattle.pin_words.specs.Places.{IsPlace, AtSlot, place_of, descr_place}
use Rattle.pin_words.specs.Shown.{word_age}
use Rattle.pin_words.specs.Stepped.{Stands}

-- the word m is no later than the word n, and retired is for good
abbrev pub NoLater : ℕ → ℕ → Type 0
NoLater m n = (word_age m ≤ word_age n) × ((decoded m).phase ≡ Retired → (decoded n).phase ≡ Retired)

-- each earlier look at the slot is no later than the word n
abbrev pub Behind : List Look → ℕ → ℕ → Type 0
Behind [] s n = Unit {0}
Behind (l ∷ ls) s n = (l.slot ≡ s → NoLater l.word n) × Behind ls s n

-- what the word n of the slot s tells a reader: it has at least its own pins, what it holds there is of this
-- generation, and live or closing, no earlier look is ahead of it, and it stood in a table that shows a safe world
pub record TellsReader (r : ReaderView) (s n : ℕ) : Type 0 where
  pub pins : tally (is_of_slot s) r.held ≤ (decoded n).pins
  pub room : (decoded n).pins ≤ r.shape.max_pins
  pub held : (id : Id) → 0 < tally (same_id id) r.held → id.slot ≡ s
      → ((decoded n).generation ≡ id.generation) × (may_be_held (decoded n).phase ≡ true)
  pub looks : Behind r.looks s n
  pub stands : Stands r (place_of s) n

-- what the word n of the slot s tells the keeper: it is the word of that slot, with no more pins than there may be
pub record TellsKeeper (shape : Shape) (slots : List Slot) (s n : ℕ) : Type 0 where
  pub generation : (decoded n).generation ≡ (slot_of slots s).generation
  pub phase : (decoded n).phase ≡ (slot_of slots s).phase
  pub room : (decoded n).pins ≤ shape.max_pins

-- each note is in the list of what was published
abbrev pub AreListed : List (Id × Descr) → List Note → Type 0
AreListed ps [] = Unit {0}
AreListed ps (x ∷ xs) = (0 < tally (is_with x.id x.descr) ps) × AreListed ps xs

-- the notes of the Id have this descriptor
abbrev pub Show : Id → Descr → List Note → Type 0
Show id d [] = Unit {0}
Show id d (x ∷ xs) = (x.id ≡ id → x.descr ≡ d) × Show id d xs

-- what the word n of the slot s tells a reader that meets the keeper: it is the keeper's slot; what the reader holds
-- there is the slot's present Id, live or closing, which is published with the slot's descriptor; and notes are of what
-- was published
pub record Meets (k : KeeperView) (r : ReaderView) (s n : ℕ) : Type 0 where
  pub generation : (decoded n).generation ≡ (slot_of k.slots s).generation
  pub phase : (decoded n).phase ≡ (slot_of k.slots s).phase
  pub held : (id : Id) → 0 < tally (same_id id) r.held → id.slot ≡ s
      → (id ≡ id_of k.slots s) × (may_be_held (slot_of k.slots s).phase ≡ true)
  pub given : may_be_held (slot_of k.slots s).phase ≡ true
      → 0 < tally (is_with (id_of k.slots s) (slot_of k.slots s).descr) k.published
  pub notes : AreListed k.published r.notes
  pub shown : may_be_held (slot_of k.slots s).phase ≡ true → Show (id_of k.slots s) (slot_of k.slots s).descr r.notes

abbrev pub MeetsBoth : Option KeeperView → Option ReaderView → ℕ → ℕ → Type 0
MeetsBoth (Some k) (Some r) s n = Meets k r s n
MeetsBoth None r s n = Unit {0}
MeetsBoth (Some k) None s n = Unit {0}

abbrev St : Type 0
St = Step (Unit {0})

abbrev pub looked_view : View → ℕ → ℕ → View
looked_view v s n = view v.keeper (option_map (λ r. reader_looked r s n) v.reader)

abbrev pub got_view : View → ℕ → ℕ → View
got_view v s n = view v.keeper (option_map (λ r. reader_got r (id_in s n) n) v.reader)

abbrev pub released_view : View → ℕ → ℕ → View
released_view v s n = view v.keeper (option_map (λ r. reader_released r (id_in s n)) v.reader)

-- a load of the word of the slot s
abbrev pub LookedAt : M → ℕ → M → ℕ → Type 0
LookedAt m n m' s = (m' ≡ (looked_view m.0 s n, m.1)) × IfSome m.0.reader (λ r. TellsReader r s n)
    × MeetsBoth m.0.keeper m.0.reader s n

abbrev pub looked : St → M → ℕ → M → Type 0
looked st m n m' = AtSlot st.word (LookedAt m n m')

-- an exchange of a slot's word for one with one more pin
abbrev pub PinnedAt : ℕ → M → ℕ → M → ℕ → Type 0
PinnedAt first m n m' s = (n ≡ first → m' ≡ (got_view m.0 s n, m.1)) × (n ≢ first → m' ≡ (looked_view m.0 s n, m.1))
    × IfSome m.0.reader (λ r. TellsReader r s n)

abbrev pub pinned : St → M → ℕ → M → Type 0
pinned st m n m' = AtSlot st.word (PinnedAt st.first m n m')

-- a subtraction of one pin
abbrev pub ReleasedAt : M → ℕ → M → ℕ → Type 0
ReleasedAt m n m' s = (m' ≡ (released_view m.0 s n, m.1)) × IfSome m.0.reader (λ r. TellsReader r s n)

abbrev pub released : St → M → ℕ → M → Type 0
released st m n m' = AtSlot st.word (ReleasedAt m n m')

-- a load of the descriptor word of a slot that the reader holds
abbrev pub noted : St → M → ℕ → M → Type 0
noted st m n m' = (r : ReaderView) (id : Id) → m.0.reader ≡ Some r → 0 < tally (same_id id) r.held
    → IsPlace descr_place st.word id.slot
    → (d : Descr) × (descr_code.decoded n ≡ Some d) × (m' ≡ (view m.0.keeper (Some (reader_noted r id d)), m.1))
    × Stands r (descr_place id.slot) n

-- the keeper changes what it knows of the slot s
abbrev pub KeptAs : (KeeperView → ℕ → KeeperView) → M → M → ℕ → Type 0
KeptAs f m m' s = m' ≡ (view (option_map (λ k. f k s) m.0.keeper) m.0.reader, m.1)

-- bit 30 is set: live
abbrev pub published : St → M → ℕ → M → Type 0
published st m n m' = AtSlot st.word (KeptAs keeper_published m m')

-- bit 31 is set: closing
abbrev pub closed : St → M → ℕ → M → Type 0
closed st m n m' = AtSlot st.word (KeptAs keeper_closed m m')

-- a store of a descriptor word
abbrev pub stored : St → M → ℕ → M → Type 0
stored st m n m' = (k : KeeperView) (s : ℕ) (d : Descr) → m.0.keeper ≡ Some k → IsPlace descr_place st.word s
    → descr_code.IsGiven d → n ≡ descr_code.encoded d
    → m' ≡ (view (Some (keeper_stored k s d)) m.0.reader, m.1)

-- an exchange of the word of a closing slot without pins for the next
abbrev pub ReclaimedAt : ℕ → M → ℕ → M → ℕ → Type 0
ReclaimedAt first m n m' s = (n ≡ first → KeptAs (λ k s. keeper_reclaimed k s n) m m' s)
    × (n ≢ first → KeptAs (λ k s. keeper_looked k s n) m m' s × (0 < (decoded n).pins))
    × IfSome m.0.keeper (λ k. TellsKeeper k.shape k.slots s n)

abbrev pub reclaiming : St → M → ℕ → M → Type 0
reclaiming st m n m' = AtSlot st.word (ReclaimedAt st.first m n m')

-- the keeper makes the seat of a reader of the next number from its own
abbrev pub gave : View → View
gave v = view (option_map keeper_gave v.keeper) v.reader

abbrev pub reader_from : Option KeeperView → Option ReaderView
reader_from (Some k) = Some (reader_given k)
reader_from None = None

abbrev pub given : View → View
given v = view None (reader_from v.keeper)

abbrev pub spent : View
spent = view None None

-- two seats in one, and one in its two parts
abbrev pub joined : View → View → View
joined v w = view (option_or v.keeper w.keeper) (option_or v.reader w.reader)

abbrev pub keeper_part : View → View
keeper_part v = view v.keeper None

abbrev pub reader_part : View → View
reader_part v = view None v.reader
