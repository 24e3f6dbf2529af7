-- A slot's word: the generation, two bits for the phase, and 30 bits for the pins.
use Rattle.std.specs.Prelude.{ℕ, ◌+◌, ◌*◌, ◌/◌, ◌%◌, ◌==◌, if◌then◌else◌}
use Rattle.pin_core.specs.declared.word.Word.{Word}
use Rattle.pin_core.specs.declared.word.Phase.{Phase}
use Rattle.pin_core.specs.declared.word.Phase.TheVariants.{Free, Live, Retired, Closing}

-- the two bits of a phase
abbrev pub code_of : Phase → ℕ
code_of Free = 0
code_of Live = 1
code_of Retired = 2
code_of Closing = 3

abbrev pub phase_of : ℕ → Phase
phase_of n = if n == 0 then Free else (if n == 1 then Live else (if n == 2 then Retired else Closing))

-- generation, phase and pins side by side: the pins take 30 bits
abbrev pub packed : ℕ → ℕ → ℕ → ℕ
packed g p n = (g * 4 + p) * 1073741824 + n

abbrev pub encoded : Word → ℕ
encoded w = packed w.generation (code_of w.phase) w.pins

abbrev pub decoded : ℕ → Word
decoded n = record { generation = n / 4294967296; phase = phase_of (n / 1073741824 % 4); pins = n % 1073741824 }
