-- What the calls of readers and of the keeper answer.
use Rattle.std.specs.Prelude.{◌≡◌, ◌≢◌, ◌⊎◌, ℕ, ◌<◌, ◌≤◌, nat_lt, if◌then◌else◌, List, [], ◌∷◌, ◌++◌, length, Result, Ok, Err}
use Rattle.pin_core.specs.declared.id.Id.{Id}
use Rattle.pin_core.specs.declared.word.Word.{Word}
use Rattle.pin_core.specs.Words.{decoded}
use Rattle.pin_core.specs.Worlds.{slot_of}
use Rattle.pin_words.specs.declared.fault.Verdict.{Verdict}
use Rattle.pin_words.specs.declared.fault.Verdict.TheVariants.{Unborn, Stale, PinsFull, Go}
use Rattle.pin_words.specs.declared.fault.PinFault.{PinFault}
use Rattle.pin_words.specs.declared.fault.PinFault.TheVariants as fault
use Rattle.pin_words.specs.declared.pin_keeper.Reclaim.{Reclaim}
use Rattle.pin_words.specs.declared.pin_keeper.Reclaim.TheVariants.{Freed, Retired, Held}
use Rattle.pin_words.specs.declared.view.Look.{Look}
use Rattle.pin_words.specs.declared.view.KeeperView.{KeeperView}
use Rattle.pin_words.specs.declared.view.ReaderView.{ReaderView}
use Rattle.pin_words.specs.Verdicts.{verdict_of}
use Rattle.pin_words.specs.Views.{reader_with, reader_looked, reader_got, keeper_looked, keeper_reclaimed}
use Rattle.pin_words.specs.Plays.{TellsReader, TellsKeeper, Meets}

-- what follows a first look that found the word n: at Go one exchange, which finds the word m. That one tells as a look
-- does, so it is no earlier than n
abbrev pub FollowsLook : Verdict → ReaderView → Id → ℕ → Result (Unit {0}) PinFault → ReaderView → Type 0
FollowsLook Unborn r id n res r' = (res ≡ Err fault.Unborn) × (r' ≡ reader_looked r id.slot n)
FollowsLook Stale r id n res r' = (res ≡ Err fault.Stale) × (r' ≡ reader_looked r id.slot n)
FollowsLook PinsFull r id n res r' = (res ≡ Err fault.PinsFull) × (r' ≡ reader_looked r id.slot n)
FollowsLook Go r id n res r' = (m : ℕ) × TellsReader (reader_looked r id.slot n) id.slot m
    × (m ≡ n → (res ≡ Ok tt) × (r' ≡ reader_got (reader_looked r id.slot n) id m))
    × (m ≢ n → (res ≡ Err (fault.Busy (decoded m))) × (r' ≡ reader_looked (reader_looked r id.slot n) id.slot m))

-- the answer of one try to pin, with the reader's view before and after
pub record Tries (r : ReaderView) (id : Id) (res : Result (Unit {0}) PinFault) (r' : ReaderView) : Type 0 where
  pub no_slot : r.shape.slots ≤ id.slot → (res ≡ Err fault.NoSuchSlot) × (r' ≡ r)
  pub full : id.slot < r.shape.slots → 16 ≤ length r.held → (res ≡ Err fault.HeldFull) × (r' ≡ r)
  pub tried : id.slot < r.shape.slots → length r.held < 16
      → (n : ℕ) × TellsReader r id.slot n × FollowsLook (verdict_of r.shape.max_pins id (decoded n)) r id n res r'

-- a chain of tries from r on that each were answered busy, with the view before each of them, the last one first
abbrev pub AreBusy : List ReaderView → ReaderView → Id → ReaderView → Type 0
AreBusy [] r id r' = r' ≡ r
AreBusy (s ∷ ss) r id r' = AreBusy ss r id s × (seen : Word) × Tries s id (Err (fault.Busy seen)) r'

-- tries that were answered busy, and then one that wasn't, whose answer it is
pub record TriesUntilSettled (r : ReaderView) (id : Id) (res : Result (Unit {0}) PinFault)
    (r' : ReaderView) : Type 0 where
  pub busy : List ReaderView
  pub last : ReaderView
  pub are_busy : AreBusy busy r id last
  pub tries : Tries last id res r'
  pub settled : (seen : Word) → res ≢ Err (fault.Busy seen)

-- nothing changed but that the reader looked
abbrev pub HasOnlyLooked : ReaderView → ReaderView → Type 0
HasOnlyLooked r r' = (ls : List Look) × (r' ≡ reader_with r r.held r.notes (ls ++ r.looks))

-- some look found the Id stale
abbrev pub WasStale : ℕ → Id → List Look → Type 0
WasStale max_pins id [] = ⊥
WasStale max_pins id (l ∷ ls) = ((l.slot ≡ id.slot) × (verdict_of max_pins id (decoded l.word) ≡ Stale))
    ⊎ WasStale max_pins id ls

-- the answer of one reclaim, which found the word n of the slot
abbrev pub ReclaimsByLook : KeeperView → ℕ → Reclaim → KeeperView → Type 0
ReclaimsByLook k s res k' = (n : ℕ) × TellsKeeper k.shape k.slots s n
    × ((decoded n).pins ≡ 0 → (k' ≡ keeper_reclaimed k s n)
    × (res ≡ (if nat_lt (slot_of k.slots s).generation k.shape.max_gen then Freed else Retired)))
    × (0 < (decoded n).pins → (k' ≡ keeper_looked k s n) × (res ≡ Held (decoded n).pins))

-- one look at the slot s by a reader that meets the keeper
abbrev pub Met : KeeperView → ReaderView → ℕ → ReaderView → Type 0
Met k r s r' = (n : ℕ) × (r' ≡ reader_looked r s n) × TellsReader r s n × Meets k r s n
