-- No line of a call and its answer has a line feed.
use Rattle.ob_script.proofs.Cited.{false, Some, None, ◌≡◌, ℕ, zero, suc, arith, refl, List, take, Bool, true, Option, IfSome, decimal, list_all, list_all-append, Call, Reply, ended, line_of}
use Rattle.ob_script.specs.Printed.{printed_reply}
use Rattle.ob_script.proofs.Short.{digits_within, no_feed}
use Rattle.ob_script.specs.Telling.{asking, comment}

abbrev pub HasNone : List ℕ → Type 0
HasNone text = list_all no_feed text ≡ true

number : (n : ℕ) → HasNone (decimal n)
number n = digits_within 10 n (omega arith)

pub reply_has : (reply : Reply) → HasNone (printed_reply reply)
reply_has reply = search (arith, list_all-append, number) depth 9

-- lines and comments
begins : (n : ℕ) (text : List ℕ) → HasNone text → HasNone (take n text)
begins zero text has = refl
begins (suc n) text has = search (arith, begins n)

pub comment_has : (text : List ℕ) → HasNone text → HasNone (comment text)
comment_has text has = begins 4094 text has

ended_has : (text : List ℕ) → HasNone text → HasNone (ended text)
ended_has text has = search (arith, list_all-append)

line_has : (call : Call) → IfSome (line_of call) HasNone
line_has call = search (arith, ended_has)

asks_has : (again : Bool) (line : Option (List ℕ)) → IfSome line HasNone → HasNone (asking again line)
asks_has again None has = refl
asks_has true (Some line) has = has
asks_has false (Some line) has = comment_has line has

pub asking_has : (again : Bool) (call : Call) → HasNone (asking again (line_of call))
asking_has again call = search (arith, asks_has, line_has)
