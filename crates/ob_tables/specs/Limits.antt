-- The ranges of a manager's limits.
use Rattle.std.specs.Prelude.{ℕ, ◌+◌, ◌≤◌, Bool, if◌then◌else◌}

-- each number is within the range of its limit
pub record AreInRange (slots processes threads handles waits max_pins max_gen max_recursion : ℕ) : Type 0 where
  pub slots_in_range : (1 ≤ slots) × (slots ≤ 65536)
  pub processes_in_range : (1 ≤ processes) × (processes ≤ 65536)
  pub threads_in_range : (1 ≤ threads) × (threads ≤ 65536)
  pub handles_in_range : (1 ≤ handles) × (handles ≤ 16384)
  pub waits_in_range : (1 ≤ waits) × (waits ≤ 4294967295)
  pub max_pins_in_range : (1 ≤ max_pins) × (max_pins ≤ 1073741823)
  pub max_gen_in_range : (1 ≤ max_gen) × (max_gen ≤ 4294967295)
  pub max_recursion_in_range : (1 ≤ max_recursion) × (max_recursion ≤ 2147483647)

-- a number of limits in a savestate, with the highest of 32 bits set where something is so
abbrev pub flagged : ℕ → Bool → ℕ
flagged number flag = if flag then number + 2147483648 else number
