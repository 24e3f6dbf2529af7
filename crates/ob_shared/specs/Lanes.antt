-- A lane's list, and what a call adds to it.
use Rattle.std.specs.Prelude.{◌≡◌, ◌⊎◌, ◌==◌, ◌^◌, ℕ, List, [], ◌∷◌, ◌++◌, if◌then◌else◌}
use Rattle.ob_rights.specs.declared.fault.Fault.TheVariants.{Memory}
use Rattle.ob_manager.specs.Calls.{Call}
use Rattle.ob_manager.specs.declared.reply.Reply.{Reply}
use Rattle.ob_manager.specs.declared.reply.Reply.TheVariants.{Refused}
use Rattle.ob_shared.specs.declared.book.Entry.{Entry}

-- how many lanes there may be
abbrev pub lanes_most : ℕ
lanes_most = 2 ^ 16

pub record LaneState : Type 0 where
  pub number : ℕ
  pub list : List Entry

-- each entry is of the lane
abbrev pub AreOf : ℕ → List Entry → Type 0
AreOf number [] = Unit {0}
AreOf number (entry ∷ entries) = (entry.lane ≡ number) × AreOf number entries

-- the call and its reply are listed; or memory was wanting, and nothing is
abbrev pub Lists : LaneState → Call → Reply → LaneState → Type 0
Lists old call reply new = (new ≡ record {
  number = old.number;
  list = old.list ++ record { lane = old.number; call = call; reply = reply } ∷ [];
})
    ⊎ ((new ≡ old) × (reply ≡ Refused Memory))

-- the entries of one lane, in order
abbrev pub part : ℕ → List Entry → List Entry
part number [] = []
part number (entry ∷ entries) = if entry.lane == number then (entry ∷ part number entries) else part number entries
