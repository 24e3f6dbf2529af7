-- The limits of a shape.
use Rattle.std.specs.Prelude.{ℕ, ◌≤◌}
use Rattle.pin_core.specs.declared.shape.Shape.{Shape}

abbrev pub shape_of : ℕ → ℕ → ℕ → Shape
shape_of slots max_pins max_gen = record { slots = slots; max_pins = max_pins; max_gen = max_gen }

-- 30 bits of a word count the pins
abbrev pub IsWithinLimits : Shape → Type 0
IsWithinLimits k = (1 ≤ k.slots) × (k.slots ≤ 65536) × (1 ≤ k.max_pins) × (k.max_pins ≤ 1073741823) × (1 ≤ k.max_gen)
