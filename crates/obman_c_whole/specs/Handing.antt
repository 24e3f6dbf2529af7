-- What C is told of bytes for which it gave a room.
use Rattle.std.specs.Prelude.{◌≡◌, ◌<◌, ◌≤◌, ℕ, List, ◌++◌, ◌⊎◌, drop, length}

-- the bytes stand at the front and 0 is told; or they don't fit, and 122 is told
abbrev pub HandsOver : List ℕ → ℕ → List ℕ → List ℕ → ℕ → Type 0
HandsOver bytes status room room' length' = (length' ≡ length bytes)
    × (((length bytes ≤ length room) × (status ≡ 0) × (room' ≡ bytes ++ drop (length bytes) room))
    ⊎ ((length room < length bytes) × (status ≡ 122) × (room' ≡ room)))

-- they are handed over; or 8 is told, for want of memory, and nothing changes
pub data Gives (bytes : List ℕ) (status : ℕ) (room room' : List ℕ) (before after : ℕ) : Type 0 where
  gives : HandsOver bytes status room room' after → Gives bytes status room room' before after
  lacks : status ≡ 8 → room' ≡ room → after ≡ before → Gives bytes status room room' before after
