-- How the code keeps numbers: what stands at each, and beside it the set of those that are live, each less by one.
use Rattle.std.specs.Prelude.{◌≡◌, ℕ, ◌+◌, ◌<◌, ◌≤◌, is_some, None, length, slice_index_or, vec_capacity, vec_len}
use Rattle.least.specs.Taken.{is_taken}
use Rattle.ob_tables.specs.declared.numbers.Numbers.{Numbers}
use Rattle.ob_tables.specs.Processes.{IsFromOne}

pub record AreNumbers (m : Numbers) : Type 0 where
  pub from_one : IsFromOne m.places.items
  pub few : length m.places.items ≤ 65537
  pub taken : (k : ℕ) → is_taken m.taken k ≡ is_some (slice_index_or m.places.items (k + 1) None)
  pub long : length m.places.items ≤ length m.taken + 1

-- giving this number takes no memory
pub record HasRoom (m : Numbers) (number : ℕ) : Type 0 where
  pub place : length m.places.items ≤ number → vec_len m.places < vec_capacity m.places
  pub bit : number ≤ length m.taken
