-- Limits of a manager, as C gives them.
use Rattle.std.specs.Prelude.{◌≡◌}
use Rattle.ob_tables.specs.declared.limits.Limits.{Limits}
use Rattle.ob_tables.specs.Limits.{AreInRange}
use Rattle.obman_c_base.specs.declared.limits.CLimits.{CLimits}

-- each is within its range
abbrev pub AreAllowed : CLimits → Type 0
AreAllowed b = AreInRange b.slots b.processes b.threads b.handles b.waits b.max_pins b.max_gen b.max_recursion

-- limits that are as C gave them
pub record AreAs (b : CLimits) (limits : Limits) : Type 0 where
  pub slots : limits.slots ≡ b.slots
  pub processes : limits.processes ≡ b.processes
  pub threads : limits.threads ≡ b.threads
  pub handles : limits.handles ≡ b.handles
  pub waits : limits.waits ≡ b.waits
  pub max_pins : limits.max_pins ≡ b.max_pins
  pub max_gen : limits.max_gen ≡ b.max_gen
  pub max_recursion : limits.max_recursion ≡ b.max_recursion
