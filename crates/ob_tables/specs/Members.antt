-- The live threads of each process, in order: an ordered set of numbers, one for each.
use Rattle.std.specs.Prelude.{◌≡◌, ℕ, ◌+◌, ◌*◌, ◌<◌, ◌≤◌, List, Option, None, length, slice_index_or}
use Rattle.std.specs.BTreeSet.{BTreeSet, contains}
use Rattle.std.specs.Ordering.{nat_cmp}
use Rattle.ob_tables.specs.Processes.{is_of}

-- a thread of a process as one number: those of one process stand together, by rising number
abbrev pub key : ℕ → ℕ → ℕ
key process thread = process * 4294967296 + thread

pub record AreMembers (threads : List (Option ℕ)) (members : BTreeSet ℕ) : Type 0 where
  pub few : length threads ≤ 65537
  pub each : (p t : ℕ) → t < 4294967296
      → contains nat_cmp members (key p t) ≡ is_of p (slice_index_or threads t None)
