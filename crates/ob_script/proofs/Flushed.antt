-- What is written once all that was pending is.
use Rattle.ob_script.proofs.Cited.{◌≡◌, ℕ, List, [], ◌++◌, Result, Ok, Err, append-nil, OnOk, OnErr, Writes, Begins}
use Rattle.ob_script.specs.declared.output.NotWritten.{NotWritten}
use Rattle.ob_script.specs.Pending.{IsWritten}
use Rattle.ob_script.proofs.Written.{writes_then}

-- what was pending is written, or its beginning is
pub flush_writes : (r : Result (Unit {0}) NotWritten) (a b c whole pending : List ℕ) → Writes a b whole pending
    → OnOk r (c ≡ b ++ pending) → OnErr r (Begins b c pending) → IsWritten r a c whole []
flush_writes (Ok unit) a b c whole pending writes grown begins =
    writes_then writes (record { done = pending; grown = grown; part = append-nil pending })
flush_writes (Err fault) a b c whole pending writes grown begins = (begins.0, writes_then writes begins.1)
