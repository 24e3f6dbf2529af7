-- What a source gives and a sink takes in one call, and in how many.
use Rattle.std.specs.Prelude.{◌≡◌, ◌+◌, ◌<◌, ◌^◌, ◌⊎◌, ℕ, zero, suc, List, [], ◌++◌, Result, Ok, Err, take}
use Rattle.ob_script.specs.declared.device.DeviceError.{DeviceError}
use Rattle.ob_script.specs.declared.device.DeviceError.TheVariants.{Interrupted, Failed}

-- how many reads, and how many writes, a run of a script makes at most
abbrev pub calls_most : ℕ
calls_most = 10 ^ 9

-- the bytes that a call moved
abbrev pub moved : Result ℕ DeviceError → List ℕ → List ℕ
moved (Ok count) bytes = take count bytes
moved (Err device_error) bytes = []

-- a read that failed is a fault; one that was interrupted isn't
abbrev pub read_faults : Result ℕ DeviceError → ℕ
read_faults (Ok count) = 0
read_faults (Err Interrupted) = 0
read_faults (Err Failed) = 1

-- the same of a write, where a write of no bytes is a fault too
abbrev pub write_faults : Result ℕ DeviceError → ℕ
write_faults (Ok zero) = 1
write_faults (Ok (suc count)) = 0
write_faults (Err Interrupted) = 0
write_faults (Err Failed) = 1

-- of all these bytes some were written, and the others are missing
pub record Writes (before after whole missing : List ℕ) : Type 0 where
  pub done : List ℕ
  pub grown : after ≡ before ++ done
  pub part : done ++ missing ≡ whole

-- the beginning of these bytes was written
abbrev pub Begins : List ℕ → List ℕ → List ℕ → Type 0
Begins before after whole = (missing : List ℕ) × Writes before after whole missing

-- what stopped the calls of a device: one of them failed, or as many were made as may be
abbrev pub FailedOrSpent : {D : Type 0} → (D → ℕ) → (D → ℕ) → D → D → ℕ → Type 0
FailedOrSpent faults calls before after most = (faults before < faults after) ⊎ (calls after ≡ calls before + most)
