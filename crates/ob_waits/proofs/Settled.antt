-- A settled state stays settled while no body changes and no wait that is ready comes.
use Rattle.ob_waits.proofs.Cited.{at_place, ◌≡◌, ℕ, List, [], ◌∷◌, ◌++◌, Option, Some, None, refl, arith, get_or, set, false, map, get_or-map, Body, Id, Mode, Wait, IsSettled, new_wait, is_ready, list_ready, answered, unless_of, bodies_after, slot_blocks}
use Rattle.ob_waits.proofs.Settling.{IsLess, less_after, ready_less}
use Rattle.ob_waits.proofs.Apart.{ready_named}
use Rattle.ob_waits.proofs.Counted.{named_counts}

-- a wait that isn't ready comes
pub settled_added : (bodies : List (Option Body)) (ws : List (Option Wait)) (t : ℕ) (mode : Mode) (ids : List Id)
    (d : Option ℕ) → list_ready mode t bodies ids ≡ false → IsSettled bodies ws →
    IsSettled bodies (ws ++ Some (new_wait t mode ids d) ∷ [])
settled_added bodies ws t mode ids d unready s = grind (arith, at_place)

-- nothing becomes signaled
pub settled_less : (bodies after : List (Option Body)) (ws : List (Option Wait)) → IsLess bodies after
    → IsSettled bodies ws → IsSettled after ws
settled_less bodies after ws less s = search (arith, ready_less)

-- a thread takes something at once
pub settled_now : (mode : Mode) (t : ℕ) (bodies : List (Option Body)) (ids : List Id) (ws : List (Option Wait))
    → IsSettled bodies ws → IsSettled (bodies_after mode t bodies ids) ws
settled_now mode t bodies ids ws s = search (arith, settled_less, less_after)

-- a body changes in a slot that no pending wait names
pub settled_unnamed : (bodies : List (Option Body)) (ws : List (Option Wait)) (k : ℕ) (x : Option Body)
    → slot_blocks k ws ≡ 0 → IsSettled bodies ws → IsSettled (set bodies k x) ws
settled_unnamed bodies ws k x unnamed s = search (arith, named_counts, ready_named)

-- a wait is replaced by one that isn't ready, as by none or by an answered one
pub settled_replaced : (bodies : List (Option Body)) (ws : List (Option Wait)) (n : ℕ) (x : Option Wait)
    → is_ready bodies x ≡ false → IsSettled bodies ws → IsSettled bodies (set ws n x)
settled_replaced bodies ws n x unready s = grind (arith, at_place)

pub settled_removed : (bodies : List (Option Body)) (ws : List (Option Wait)) (n : ℕ) → IsSettled bodies ws
    → IsSettled bodies (set ws n None)
settled_removed bodies ws n s = settled_replaced bodies ws n None refl s

pub settled_answered : (bodies : List (Option Body)) (ws : List (Option Wait)) (n code : ℕ) → IsSettled bodies ws
    → IsSettled bodies (set ws n (answered (get_or ws n None) code))
settled_answered bodies ws n code s = search (arith, settled_replaced)

pub settled_dropped : (bodies : List (Option Body)) (ws : List (Option Wait)) (t : ℕ) → IsSettled bodies ws
    → IsSettled bodies (map (unless_of t) ws)
settled_dropped bodies ws t s = record { each = λ n. grind (arith, get_or-map (unless_of t) ws n None, s.each n) }
