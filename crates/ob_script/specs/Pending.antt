-- Answers that are printed and not yet written.
use Rattle.std.specs.Prelude.{◌≡◌, ◌+◌, ◌<◌, ◌≤◌, ◌⊎◌, ℕ, List, Result, MatchResult, OnErr}
use Rattle.ob_script.specs.declared.output.NotWritten.{NotWritten}
use Rattle.ob_script.specs.Devices.{Writes, Begins}

pub record Pending : Type 0 where
  pub bytes : List ℕ  -- what is to be written
  pub writes_left : ℕ  -- how many writes may still be made

-- What was to be written is written or pending, or its beginning is written where the sink failed.
abbrev pub IsWritten : Result (Unit {0}) NotWritten → List ℕ → List ℕ → List ℕ → List ℕ → Type 0
IsWritten result before after whole pending = MatchResult result (λ _. Writes before after whole pending)
    (λ _. Begins before after whole)

-- Each write that was made to a sink is one less that may still be made, and no fault of it is forgotten.
pub record Spends {S : Type 0} (calls faults : S → ℕ) (sink sink' : S) (pending pending' : Pending) : Type 0 where
  pub made : calls sink' + pending'.writes_left ≡ calls sink + pending.writes_left
  pub known : faults sink ≤ faults sink'

-- what stopped the writes to a sink: one of them failed, or none was left
abbrev pub FailedOrLast : {S : Type 0} → (S → ℕ) → S → S → ℕ → Type 0
FailedOrLast faults sink sink' writes_left = (faults sink < faults sink') ⊎ (writes_left ≡ 0)

-- Each write is known, as `Spends` says, and where some bytes weren't written something stopped the writes.
pub record UsesSink {S : Type 0} (calls faults : S
    → ℕ) (result : Result (Unit {0}) NotWritten) (sink sink' : S) (pending pending' : Pending) : Type 0 where
  pub spends : Spends calls faults sink sink' pending pending'
  pub cause : OnErr result (FailedOrLast faults sink sink' pending'.writes_left)
