-- What the seats at the table know, and how each step changes it.
use Rattle.std.specs.Prelude.{◌≡◌, ℕ, ◌+◌, ◌==◌, nat_lt, Bool, if◌then◌else◌, List, [], ◌∷◌, ◌++◌, replicate, slice_set, Option, Some, None, unwrap_or}
use Rattle.atomic_table.specs.Table.{Me}
use Rattle.pin_core.specs.declared.id.Id.{Id}
use Rattle.pin_core.specs.declared.descr.Descr.{Descr}
use Rattle.pin_core.specs.declared.word.Phase.TheVariants.{Live, Closing}
use Rattle.pin_core.specs.declared.shape.Shape.{Shape}
use Rattle.pin_core.specs.declared.world.Slot.{Slot}
use Rattle.pin_core.specs.Opened.{shown_from}
use Rattle.pin_core.specs.Words.{decoded}
use Rattle.pin_core.specs.Holds.{tally, same_id, drop_last}
use Rattle.pin_core.specs.Worlds.{opening_slot, slot_of}
use Rattle.pin_core.specs.Events.{in_phase, with_descr, reclaimed}
use Rattle.pin_words.specs.declared.view.Look.{Look}
use Rattle.pin_words.specs.declared.view.Note.{Note}
use Rattle.pin_words.specs.declared.view.KeeperView.{KeeperView}
use Rattle.pin_words.specs.declared.view.ReaderView.{ReaderView}
use Rattle.pin_words.specs.declared.view.View.{View}

abbrev pub view : Option KeeperView → Option ReaderView → View
view k r = record { keeper = k; reader = r }

abbrev pub look : ℕ → ℕ → Look
look s n = record { slot = s; word = n }

abbrev pub note : Id → Descr → Note
note id d = record { id = id; descr = d }

abbrev pub is_of_slot : ℕ → Id → Bool
is_of_slot s x = x.slot == s

abbrev pub id_of : List Slot → ℕ → Id
id_of slots s = record { slot = s; generation = (slot_of slots s).generation }

-- the Id that a word names, at its slot
abbrev pub id_in : ℕ → ℕ → Id
id_in s n = record { slot = s; generation = (decoded n).generation }

-- the notes of Ids that are held
abbrev pub notes_of : List Id → List Note → List Note
notes_of held [] = []
notes_of held (x ∷ xs) = if nat_lt 0 (tally (same_id x.id) held) then (x ∷ notes_of held xs) else notes_of held xs

abbrev pub reader_with : ReaderView → List Id → List Note → List Look → ReaderView
reader_with r held notes looks = record r { held = held; notes = notes; looks = looks }

abbrev pub reader_looked : ReaderView → ℕ → ℕ → ReaderView
reader_looked r s n = record r { looks = look s n ∷ r.looks }

-- a look, and a copy of the Id
abbrev pub reader_got : ReaderView → Id → ℕ → ReaderView
reader_got r id n = reader_with r (r.held ++ id ∷ []) r.notes (look id.slot n ∷ r.looks)

-- the last copy of the Id less, and where it was the only one the notes
abbrev pub reader_released : ReaderView → Id → ReaderView
reader_released r id = reader_with r (drop_last (same_id id) r.held)
    (notes_of (drop_last (same_id id) r.held) r.notes) r.looks

abbrev pub reader_noted : ReaderView → Id → Descr → ReaderView
reader_noted r id d = record r { notes = note id d ∷ r.notes }

abbrev pub keeper_with : KeeperView → List Slot → List (Id × Descr) → List Look → KeeperView
keeper_with k slots published looks = record k { slots = slots; published = published; looks = looks }

abbrev pub keeper_looked : KeeperView → ℕ → ℕ → KeeperView
keeper_looked k s n = record k { looks = look s n ∷ k.looks }

abbrev pub keeper_stored : KeeperView → ℕ → Descr → KeeperView
keeper_stored k s d = keeper_with k (slice_set k.slots s (with_descr (slot_of k.slots s) d)) k.published k.looks

abbrev pub keeper_published : KeeperView → ℕ → KeeperView
keeper_published k s = keeper_with k (slice_set k.slots s (in_phase (slot_of k.slots s) Live)) (k.published
    ++ (id_of k.slots s, (slot_of k.slots s).descr) ∷ []) k.looks

abbrev pub keeper_closed : KeeperView → ℕ → KeeperView
keeper_closed k s = keeper_with k (slice_set k.slots s (in_phase (slot_of k.slots s) Closing)) k.published k.looks

abbrev pub keeper_reclaimed : KeeperView → ℕ → ℕ → KeeperView
keeper_reclaimed k s n = keeper_with k (slice_set k.slots s (reclaimed k.shape.max_gen (slot_of k.slots s))) k.published
    (look s n ∷ k.looks)

-- one reader more was given
abbrev pub keeper_gave : KeeperView → KeeperView
keeper_gave k = record k { next = k.next + 1 }

-- a reader of the next number, which holds nothing
abbrev pub reader_given : KeeperView → ReaderView
reader_given k = record { shape = k.shape; number = k.next; held = []; notes = []; looks = [] }

abbrev pub opening_keeper : Shape → KeeperView
opening_keeper k = record { shape = k; slots = replicate k.slots opening_slot; published = []; next = 1; looks = [] }

-- the same over given slots, which nobody holds
abbrev pub keeper_with_slots : Shape → List Slot → KeeperView
keeper_with_slots k slots = record { shape = k; slots = slots; published = shown_from 0 slots; next = 1; looks = [] }

abbrev pub view_with_slots : Shape → List Slot → View
view_with_slots k slots = view (Some (keeper_with_slots k slots)) None

abbrev pub M : Type 0
M = Me (Unit {0}) View

abbrev pub no_shape : Shape
no_shape = record { slots = 0; max_pins = 0; max_gen = 0 }

abbrev pub no_reader : ReaderView
no_reader = record { shape = no_shape; number = 0; held = []; notes = []; looks = [] }

abbrev pub reader_of : View → ReaderView
reader_of v = unwrap_or v.reader no_reader

abbrev pub keeper_of : View → KeeperView
keeper_of v = unwrap_or v.keeper (opening_keeper no_shape)

-- the seat is a reader's, or the keeper's
abbrev pub IsReaders : M → Type 0
IsReaders m = m ≡ (view None (Some (reader_of m.0)), [])

abbrev pub IsKeepers : M → Type 0
IsKeepers m = m ≡ (view (Some (keeper_of m.0)) None, [])
