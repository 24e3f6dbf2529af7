-- Waits whose time is up are answered: one before the others is no other state than all at once.
use Rattle.ob_waits.proofs.Cited.{◌≡◌, ℕ, ◌<◌, ◌≤◌, List, [], ◌∷◌, Option, None, arith, get_or, set, map, true, false, count_by, sum_by, get_or-map, length-map, get_or_past, ext_get_or, sum_by-set, sum_by-cons, Id, Body, Wait, is_overdue, timed_out, ended, slot_ended, CountedBodies, IsSettled, answered, blocks_among, slot_blocks}
use Rattle.std.proofs.Math.Seq.{map-set_same}
use Rattle.ob_waits.proofs.EndsLast.{ended_at, is_ended, length-ended}

-- what is answered before the others is answered as with them
pub lapsed_twice : (now : ℕ) (ws : List (Option Wait)) (n : ℕ) → is_overdue now (get_or ws n None) ≡ true
    → map (timed_out now) (set ws n (answered (get_or ws n None) 258)) ≡ map (timed_out now) ws
lapsed_twice now ws n over = search (arith, map-set_same)

-- where no time is up nothing is answered
pub none_lapsed : (now : ℕ) (ws : List (Option Wait)) → ((n : ℕ) → is_overdue now (get_or ws n None) ≡ false)
    → map (timed_out now) ws ≡ ws
none_lapsed now ws none = ext_get_or None _ _ (length-map ws (timed_out now))
    (λ n lt. grind (arith, get_or-map (timed_out now) ws n None, none n))

-- with each that is answered one fewer is overdue
pub fewer_overdue : (now : ℕ) (ws : List (Option Wait)) (n : ℕ) → is_overdue now (get_or ws n None) ≡ true
    → count_by (is_overdue now) (set ws n (answered (get_or ws n None) 258)) < count_by (is_overdue now) ws
fewer_overdue now ws n over = search (arith, get_or_past, sum_by-set)

sum_lapsed : (f : Option Wait → ℕ) → ((w : Option Wait) → f (answered w 258) ≤ f w)
    → (now : ℕ) (ws : List (Option Wait)) → sum_by f (map (timed_out now) ws) ≤ sum_by f ws
sum_lapsed f less now [] = omega arith
sum_lapsed f less now (w ∷ ws) = search (arith, sum_by-cons, sum_lapsed f less now ws)

pub slot_lapsed : (k now : ℕ) (ws : List (Option Wait)) → slot_blocks k (map (timed_out now) ws) ≤ slot_blocks k ws
slot_lapsed k now ws = search (arith, sum_lapsed)

pub blocks_lapsed : (id : Id) (now : ℕ) (ws : List (Option Wait))
    → blocks_among id (map (timed_out now) ws) ≤ blocks_among id ws
blocks_lapsed id now ws = search (arith, sum_lapsed)

-- and none becomes ready
pub settled_lapsed : (bodies : List (Option Body)) (now : ℕ) (ws : List (Option Wait)) → IsSettled bodies ws
    → IsSettled bodies (map (timed_out now) ws)
settled_lapsed bodies now ws settled = record {
  each = λ n. grind
      (arith, get_or-map (timed_out now) ws n None, settled.each n);
}

-- what ended where there was more to refer to it ends once more where there is less
slot_twice : (handles blocks more : ℕ) (x : Option Body) → blocks ≤ more
    → slot_ended handles blocks x ≡ slot_ended handles blocks (slot_ended handles more x)
slot_twice handles blocks more x le = search arith

pub ended_twice : (o : CountedBodies) (more : List ℕ) → ((k : ℕ) → get_or o.blocks k 0 ≤ get_or more k 0)
    → ended (record o { bodies = (ended (record o { blocks = more })).bodies }) ≡ ended o
ended_twice o more le =
    let is : (ended o).bodies ≡ (ended (record o { bodies = (ended (record o { blocks = more })).bodies })).bodies =
    search (arith, slot_twice, ended_at, is_ended, length-ended) in
    search arith
