-- What was written of what was to be written.
use Rattle.ob_script.proofs.Cited.{arith, ◌≡◌, ℕ, List, [], ◌++◌, take, drop, Result, refl, sym, append_assoc, append-nil, take-append-drop, OnOk, OnErr, Writes, Begins}
use Rattle.ob_script.specs.declared.output.NotWritten.{NotWritten}
use Rattle.ob_script.specs.Pending.{IsWritten}

-- nothing is written
pub writes_none : (before whole : List ℕ) → Writes before before whole whole
writes_none before whole = record { done = []; grown = sym (append-nil before); part = refl }

-- some bytes, and then some of what was missing
pub writes_then : {a b c whole missing left : List ℕ} → Writes a b whole missing → Writes b c missing left
    → Writes a c whole left
writes_then one two = record { done = one.done ++ two.done; grown = search (arith, append_assoc); part = search (arith, append_assoc) }

-- more is to be written
writes_add : {a b whole missing : List ℕ} (more : List ℕ) → Writes a b whole missing
    → Writes a b (whole ++ more) (missing ++ more)
writes_add more one = record { done = one.done; grown = one.grown; part = rw (← append_assoc, one.part) }

-- some bytes more
pub writes_more : (before after later whole missing : List ℕ) (count : ℕ) → Writes before after whole missing
    → later ≡ after ++ take count missing → Writes before later whole (drop count missing)
writes_more before after later whole missing count writes grown = writes_then writes
    (record { done = take count missing; grown = grown; part = take-append-drop count missing })

-- all is written
pub writes_all : (before after whole : List ℕ) → Writes before after whole [] → after ≡ before ++ whole
writes_all before after whole writes = search (arith, append-nil, writes.grown, writes.part)

-- what is missing need not be said
pub writes_begun : (before after whole missing : List ℕ) → Writes before after whole missing → Begins before after whole
writes_begun before after whole missing writes = (missing, writes)

-- a beginning of some bytes begins more
pub begins_more : (before after whole more : List ℕ) → Begins before after whole → Begins before after (whole ++ more)
begins_more before after whole more begins = (begins.0 ++ more, writes_add more begins.1)

-- an answer is pending
pub writes_pending : (before pending old more : List ℕ) → pending ≡ old ++ more
    → Writes before before (old ++ more) pending
writes_pending before pending old more is = record { done = []; grown = sym (append-nil before); part = is }

-- what was pending is written, and an answer is pending
pub writes_flushed : (before after old more pending : List ℕ) → after ≡ before ++ old → pending ≡ more
    → Writes before after (old ++ more) pending
writes_flushed before after old more pending grown is = record { done = old; grown = grown; part = search arith }

-- one after another
pub writes_on : (a b c first second pending more left : List ℕ) → Writes a b (first ++ second) pending
    → Writes b c (pending ++ more) left → Writes a c (first ++ (second ++ more)) left
writes_on a b c first second pending more left one two =
    rw (append_assoc first second more) at (writes_then (writes_add more one) two)

pub begins_on : (a b c first second pending more : List ℕ) → Writes a b (first ++ second) pending
    → Begins b c (pending ++ more) → Begins a c (first ++ (second ++ more))
begins_on a b c first second pending more one two = (two.0, writes_on a b c first second pending more two.0 one two.1)

-- an answer is written or pending, or its beginning is written where the sink failed
pub put_written : (r : Result (Unit {0}) NotWritten) (a b whole pending : List ℕ) → OnOk r (Writes a b whole pending)
    → OnErr r (Begins a b whole) → IsWritten r a b whole pending
put_written r a b whole pending writes begins = search arith

-- what an answer that is added needs, and what the writes of a block need
pub ruleset put_laws = (begins_more, writes_pending, writes_flushed)

pub ruleset write_laws = (writes_none, writes_more, writes_all, writes_begun)
