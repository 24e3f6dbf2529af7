-- The room that settling asks of the pending waits, while waits come and go and bodies change.
use Rattle.ob_waits.proofs.Cited.{at_place, ◌≡◌, ℕ, ◌≤◌, List, [], ◌∷◌, ◌++◌, Option, Some, None, arith, get_or, set, true, map, get_or-map, Body, Id, Mode, Wait, slot_room, HasRoom, WaitHasRoom, WaitsHaveRoom, new_wait, unless_of, number_of, bodies_after, answered, slot_blocks}
use Rattle.ob_waits.proofs.Settling.{room_after}
use Rattle.ob_waits.proofs.Keeping.{room_other}
use Rattle.ob_waits.proofs.TrackedLaws.{no_number}
use Rattle.ob_waits.proofs.Counted.{unnamed_ids}

-- one more wait, of a thread for which there is room
pub room_added : (limit : ℕ) (bodies : List (Option Body)) (ws : List (Option Wait)) (t : ℕ) (mode : Mode)
    (ids : List Id) (d : Option ℕ) → HasRoom limit t bodies ids → WaitsHaveRoom limit bodies ws →
    WaitsHaveRoom limit bodies (ws ++ Some (new_wait t mode ids d) ∷ [])
room_added limit bodies ws t mode ids d room r = grind (arith, at_place)

-- one wait replaced by one that has room, as by none or by an answered one
pub room_replaced : (limit : ℕ) (bodies : List (Option Body)) (ws : List (Option Wait)) (n : ℕ) (x : Option Wait)
    → WaitHasRoom limit bodies x → WaitsHaveRoom limit bodies ws → WaitsHaveRoom limit bodies (set ws n x)
room_replaced limit bodies ws n x room r = grind (arith, at_place)

pub room_removed : (limit : ℕ) (bodies : List (Option Body)) (ws : List (Option Wait)) (n : ℕ)
    → WaitsHaveRoom limit bodies ws → WaitsHaveRoom limit bodies (set ws n None)
room_removed limit bodies ws n r = room_replaced limit bodies ws n None tt r

pub room_answered : (limit : ℕ) (bodies : List (Option Body)) (ws : List (Option Wait)) (n code : ℕ)
    → WaitsHaveRoom limit bodies ws → WaitsHaveRoom limit bodies (set ws n (answered (get_or ws n None) code))
room_answered limit bodies ws n code r = search (arith, room_replaced)

pub room_dropped : (limit : ℕ) (bodies : List (Option Body)) (ws : List (Option Wait)) (t : ℕ)
    → WaitsHaveRoom limit bodies ws → WaitsHaveRoom limit bodies (map (unless_of t) ws)
room_dropped limit bodies ws t r = record { each = λ n. grind (arith, get_or-map (unless_of t) ws n None, r.each n) }

-- a thread that has no wait takes something at once
pub room_now : (limit : ℕ) (mode : Mode) (t : ℕ) (bodies : List (Option Body)) (ids : List Id) (ws : List (Option Wait))
    → number_of t ws ≡ None → WaitsHaveRoom limit bodies ws → WaitsHaveRoom limit (bodies_after mode t bodies ids) ws
room_now limit mode t bodies ids ws none r = record {
  each = λ n. room_other limit t bodies _ (get_or ws n None)
      (room_after limit mode t bodies ids) (no_number t ws n none) (r.each n);
}

-- bodies that leave the room of every thread
pub room_changed : (limit : ℕ) (bodies after : List (Option Body)) (ws : List (Option Wait))
    → ((t k : ℕ) → slot_room limit t (get_or bodies k None) ≡ true → slot_room limit t (get_or after k None) ≡ true) →
    WaitsHaveRoom limit bodies ws → WaitsHaveRoom limit after ws
room_changed limit bodies after ws keeps r = search arith

-- a body changes in a slot that no pending wait names
pub room_unnamed : (limit : ℕ) (bodies : List (Option Body)) (ws : List (Option Wait)) (k : ℕ) (x : Option Body)
    → slot_blocks k ws ≡ 0 → WaitsHaveRoom limit bodies ws → WaitsHaveRoom limit (set bodies k x) ws
room_unnamed limit bodies ws k x unnamed r = record {
  each = λ n. grind
      (arith, at_place, unnamed_ids k n ws unnamed, r.each n);
}

pub rooms_at_more : (limit more : ℕ) (bodies : List (Option Body)) (ws : List (Option Wait)) → limit ≤ more
    → WaitsHaveRoom limit bodies ws → WaitsHaveRoom more bodies ws
rooms_at_more limit more bodies ws le r = search arith
