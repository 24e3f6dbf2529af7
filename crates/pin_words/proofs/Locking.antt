-- What the calls under a lock need.
use Rattle.pin_words.proofs.Cited.{◌≢◌, ℕ, ◌≤◌, List, [], ◌∷◌, ◌++◌, arith, Id, tally, drop_last, same_id, count-snoc, count-drop_last-le, is_of_slot}

pub room-more : (most : ℕ) (held : List Id) (id : Id) → ((s : ℕ) → tally (is_of_slot s) held ≤ most)
    → tally (is_of_slot id.slot) held ≢ most → (s : ℕ) → tally (is_of_slot s) (held ++ id ∷ []) ≤ most
room-more most held id room free s = search (arith, count-snoc)

pub room-less : (most : ℕ) (held : List Id) (id : Id) → ((s : ℕ) → tally (is_of_slot s) held ≤ most) → (s : ℕ)
    → tally (is_of_slot s) (drop_last (same_id id) held) ≤ most
room-less most held id room s = search (arith, count-drop_last-le)
