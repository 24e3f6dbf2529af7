-- The tests of waits that are read are those that waits pass from call to call.
use Rattle.ob_waits.proofs.Cited.{◌≡◌, ℕ, zero, suc, ◌<◌, ◌≤◌, true, false, List, [], ◌∷◌, length, Option, Some, None, refl, arith, get_or, list_all, list_any, ◌==◌, and_from, and_parts, false_from_ne_true, le-leb, or_parts, list_any_at, Id, AreTimely, deadline_of, IsAfter, IsTracked, PendingIndex, IsWaitable, WaitWaitable, thread_of, can_be, may_list, may_stand, names_twice, one_each, has_slot, is_waits_of, nowhere, Mode, Wait}
use Rattle.ob_waits.proofs.AddedLaws.{any_at}
use Rattle.ob_waits.proofs.TrackedLaws.{waits_thread}

-- lists in which no slot is named twice
pub distinct-test : (ids : List Id) → names_twice ids ≡ false → (i j : ℕ) → i < j → j < length ids
    → (get_or ids i nowhere).slot ≡ (get_or ids j nowhere).slot → ⊥
distinct-test [] none i j lt in' same = omega arith
distinct-test (id ∷ ids) none i zero lt in' same = omega arith
distinct-test (id ∷ ids) none zero (suc j) lt in' same = search (arith, list_any_at)
distinct-test (id ∷ ids) none (suc i) (suc j) lt in' same = search (arith, distinct-test ids, or_parts)

test-distinct : (ids : List Id)
    → ((i j : ℕ) → i < j → j < length ids → (get_or ids i nowhere).slot ≡ (get_or ids j nowhere).slot → ⊥)
    → names_twice ids ≡ false
test-distinct [] apart = refl
test-distinct (id ∷ ids) apart = rw (false_from_ne_true (has_slot ids id.slot) (λ has.
    let found = any_at (λ (x : Id). x.slot == id.slot) nowhere ids has in
    apart zero (suc found.0) (omega arith) (grind arith) (grind arith)))
    (test-distinct ids (λ i j lt in' same. apart (suc i) (suc j) (omega arith) (omega arith) same))

-- lists that may be waited for
pub waitable : (mode : Mode) (ids : List Id) → may_list mode ids ≡ true → length ids ≤ 64 → IsWaitable mode ids
waitable = search (arith, distinct-test, and_parts)

may-wait : (mode : Mode) (ids : List Id) → IsWaitable mode ids → may_list mode ids ≡ true
may-wait = search (arith, test-distinct)

-- each wait that is kept passes
pub stands : (clock : ℕ) (w : Option Wait) → WaitWaitable w → IsAfter clock (deadline_of w) → may_stand clock w ≡ true
stands = search (arith, may-wait)

all-stand : (clock : ℕ) (ws : List (Option Wait)) → ((n : ℕ) → may_stand clock (get_or ws n None) ≡ true)
    → list_all (may_stand clock) ws ≡ true
all-stand clock [] each = refl
all-stand clock (w ∷ ws) each = search (arith, and_from, each 0, all-stand clock ws (λ n. each (suc n)))

pub ones : (ws : List (Option Wait))
    → ((n m t : ℕ) → thread_of (get_or ws n None) ≡ Some t → thread_of (get_or ws m None) ≡ Some t → n ≡ m)
    → one_each ws ≡ true
ones [] alone = refl
ones (None ∷ ws) alone = ones ws (λ n m t p q. omega (arith, alone (suc n) (suc m) t p q))
ones (Some w ∷ ws) alone = rw (false_from_ne_true (list_any (is_waits_of w.thread) ws) (λ has.
    let found = any_at (is_waits_of w.thread) None ws has in
    let own = waits_thread w.thread (get_or ws found.0 None) found.2 in
    omega (arith, alone zero (suc found.0) w.thread refl own)))
    (ones ws (λ n m t p q. omega (arith, alone (suc n) (suc m) t p q)))

-- The theorem: the waits that are kept from call to call can be.
pub kept_can_be : (limit clock : ℕ) (ws : List (Option Wait)) (pending_index : PendingIndex) (dues : List (Option ℕ))
    → IsTracked limit ws pending_index → AreTimely clock ws dues → can_be limit clock ws ≡ true
kept_can_be limit clock ws pending_index dues tracked timely =
    search (arith, stands, all-stand, ones, le-leb, timely.ahead.each, tracked.kept.each, tracked.zero_has_none)
