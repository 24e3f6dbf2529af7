-- A script grows by an entry.
use Rattle.ob_console.proofs.Cited.{◌≡◌, ℕ, ◌+◌, List, ◌++◌, take, get_or, length, ◌<◌, append-nil, arith, take_more, flat_map-append, Entry, text_for, script_of}

pub script_next : (journal : List Entry) (i : ℕ) (entry : Entry) (text : List ℕ) → i < length journal
    → entry ≡ get_or journal i entry → text ≡ script_of (take i journal)
    → text ++ text_for entry.call entry.reply ≡ script_of (take (i + 1) journal)
script_next journal i entry text inside there is =
    rw (take_more journal i entry inside, ← there, is) (search (arith, append-nil, flat_map-append))
