-- Access masks as sets of bits.
use Rattle.std.specs.Prelude.{ℕ, Bool, ◌==◌, bit_and, IsBitSet}
use Rattle.ob_rights.specs.declared.kind.Kind.{Kind}
use Rattle.ob_rights.specs.declared.rights.Rights.{Rights}
use Rattle.ob_rights.specs.declared.kind.Kind.TheVariants.{Event, Mutex, Semaphore, Timer, Host}

-- each bit of the one mask is a bit of the other
abbrev pub IsWithin : ℕ → ℕ → Type 0
IsWithin asked held = (bit : ℕ) → IsBitSet asked bit → IsBitSet held bit

-- the same, as a test
abbrev pub within : ℕ → ℕ → Bool
within asked held = bit_and held asked == asked

-- the rights of each kind: DELETE, READ_CONTROL, WRITE_DAC, WRITE_OWNER, SYNCHRONIZE, and the kind's own two low bits,
-- of which a host's object has sixteen
abbrev pub all_access : Kind → Rights
all_access Event = record { 0 = 0x1F0003 }
all_access Mutex = record { 0 = 0x1F0001 }
all_access Semaphore = record { 0 = 0x1F0003 }
all_access Timer = record { 0 = 0x1F0003 }
all_access (Host t) = record { 0 = 0x1FFFFF }
