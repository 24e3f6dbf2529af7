-- What renewing waits keeps: their order, each count over them, the rules of waits, and each thread's wait; and how
-- waits are copied one after another.
use Rattle.ob_waits.proofs.Cited.{at_place, nat_tests, take_more, get_or_past, ◌≡◌, ℕ, zero, suc, ◌+◌, ◌-◌, ◌<◌, ◌≤◌, true, false, List, [], ◌∷◌, ◌++◌, length, take, Option, Some, None, refl, arith, get_or, eqb, list_any, is_some, sum_by, append-nil, get_or-take, length-take, take_all, count_by-le-length, length-filter, sum_by-cons, Id, Body, Wait, IsSettled, WaitHasRoom, WaitsHaveRoom, WaitsInvariant, thread_of, blocks_among, blocks_in, is_ready, number_of, renewed, slot_blocks, standing}
use Rattle.std.proofs.lemmas.List.Elements.{filter-append}
use Rattle.std.proofs.lemmas.Map.Steps.{length-le_from_distinct_below}
use Rattle.ob_waits.specs.SpellingLaws.{distinct, threads_of}
use Rattle.ob_waits.proofs.StandingLaws.{ones}
use Rattle.ob_waits.proofs.TrackedLaws.{has_wait, no_number, number_none}

-- each count over them is what it was
pub sum_renewed : (f : Option Wait → ℕ) (ws : List (Option Wait)) → f None ≡ 0 → sum_by f (renewed ws) ≡ sum_by f ws
sum_renewed f [] none = search arith
sum_renewed f (w ∷ ws) none = search (arith, sum_by-cons, sum_renewed f ws none)

pub slot_blocks_renewed : (k : ℕ) (ws : List (Option Wait)) → slot_blocks k (renewed ws) ≡ slot_blocks k ws
slot_blocks_renewed k ws = search (arith, sum_renewed)

pub blocks_renewed : (id : Id) (ws : List (Option Wait)) → blocks_among id (renewed ws) ≡ blocks_among id ws
blocks_renewed id ws = sum_renewed (blocks_in id) ws refl

-- what is so of each wait stays so
each_standing : (P : Option Wait → Type 0) (ws : List (Option Wait)) → P None → ((n : ℕ) → P (get_or ws n None))
    → (n : ℕ) → P (get_or (standing ws) n None)
each_standing P [] none each n = none
each_standing P (w ∷ ws) none each n = search (arith, each 0, each_standing P ws none (λ k. each (suc k)))

pub each_renewed : (P : Option Wait → Type 0) (ws : List (Option Wait)) → P None → ((n : ℕ) → P (get_or ws n None))
    → (n : ℕ) → P (get_or (renewed ws) n None)
each_renewed P ws none each zero = none
each_renewed P ws none each (suc n) = each_standing P ws none each n

pub room_renewed : (limit : ℕ) (bodies : List (Option Body)) (ws : List (Option Wait)) → WaitsHaveRoom limit bodies ws
    → WaitsHaveRoom limit bodies (renewed ws)
room_renewed limit bodies ws room = record { each = each_renewed (WaitHasRoom limit bodies) ws tt room.each }

pub settled_renewed : (bodies : List (Option Body)) (ws : List (Option Wait)) → IsSettled bodies ws
    → IsSettled bodies (renewed ws)
settled_renewed bodies ws settled = record { each = each_renewed (λ w. is_ready bodies w ≡ false) ws refl settled.each }

-- a thread without a wait has none then
pub alone_renewed : (t : ℕ) (ws : List (Option Wait)) → number_of t ws ≡ None → number_of t (renewed ws) ≡ None
alone_renewed t ws none = number_none (renewed ws) t (each_renewed (λ w. thread_of w ≡ Some t → ⊥) ws
    (λ own. absurd (cc own)) (λ n. no_number t ws n none))

-- no more waits stand than there are threads
standing_long : (ws : List (Option Wait)) → length (standing ws) ≡ length (threads_of ws)
standing_long [] = refl
standing_long (w ∷ ws) = search (arith, standing_long ws)

threads_below : (threads : ℕ) (ws : List (Option Wait))
    → ((n t : ℕ) → thread_of (get_or ws n None) ≡ Some t → t < threads) → (t : ℕ)
    → list_any (eqb t) (threads_of ws) ≡ true → t < threads
threads_below threads [] each t has = absurd cc
threads_below threads (w ∷ ws) each t has = grind (arith, nat_tests, each zero t, threads_below threads ws (λ n. each (suc n)) t)

pub few_renewed : (threads : ℕ) (ws : List (Option Wait)) → WaitsInvariant ws
    → ((n t : ℕ) → thread_of (get_or ws n None) ≡ Some t → t < threads) → length (renewed ws) ≤ threads + 1
few_renewed threads ws kept each =
    let few = length-le_from_distinct_below (threads_of ws) threads (distinct ws (ones ws kept.one_each))
    (threads_below threads ws each) in
    omega (arith, standing_long ws, few)

-- what stands below a number, and what stands there
one_more : (k : ℕ) (ws : List (Option Wait))
    → standing (take (suc k) ws) ≡ standing (take k ws) ++ standing (get_or ws k None ∷ [])
one_more k ws = grind (arith, take_more ws k None, filter-append {X = Option Wait} is_some, take_all, get_or_past, append-nil)

none_more : (d k : ℕ) (ws : List (Option Wait)) → ((i : ℕ) → k ≤ i → i < k + d → is_some (get_or ws i None) ≡ true → ⊥)
    → standing (take (k + d) ws) ≡ standing (take k ws)
none_more zero k ws none = search arith
none_more (suc d) k ws none =
    search (arith, one_more, append-nil, none_more d (suc k) ws (λ i le lt. none i (omega arith) (omega arith)))

-- the next number's wait is copied next, if it has one
pub copied_next : (ws : List (Option Wait)) (last n : ℕ) → last < n
    → ((k : ℕ) → is_some (get_or ws k None) ≡ true → last < k → n ≤ k)
    → renewed (take (suc n) ws) ≡ renewed (take (suc last) ws) ++ standing (get_or ws n None ∷ [])
copied_next ws last n above least =
    let none = none_more (n - suc last) (suc last) ws (λ i le lt has. omega (arith, least i has (omega arith))) in
    search (arith, one_more n ws, none)

pub copied_all : (ws : List (Option Wait)) (last : ℕ) → ((k : ℕ) → is_some (get_or ws k None) ≡ true → last < k → ⊥)
    → renewed (take (suc last) ws) ≡ renewed ws
copied_all ws last none =
    let same = none_more (length ws) (suc last) ws (λ i le lt has. none i has le) in
    search (arith, same, take_all (suc last + length ws) ws (omega arith))

-- its thread has no wait before it
pub alone_before : (ws : List (Option Wait)) (last n : ℕ) (w : Wait) → WaitsInvariant ws → last < n
    → get_or ws n None ≡ Some w → number_of w.thread (renewed (take (suc last) ws)) ≡ None
alone_before ws last n w kept above is =
    alone_renewed w.thread (take (suc last) ws) (number_none (take (suc last) ws) w.thread (λ m own.
    let lt = has_wait (take (suc last) ws) m w.thread own in
    let long = length-take (suc last) ws in
    grind (arith, lt, long, get_or-take (suc last) ws m None, kept.one_each m n w.thread)))

-- and a number is left for it
pub room_before : (ws : List (Option Wait)) (last n limit : ℕ) (w : Wait) → get_or ws 0 None ≡ None
    → length ws ≤ limit + 1 → last < n → get_or ws n None ≡ Some w → length (renewed (take (suc last) ws)) ≤ limit
room_before = grind (arith, at_place, count_by-le-length, length-filter, length-take)
