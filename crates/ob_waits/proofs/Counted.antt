-- How the numbers of blocks change with the waits, by slot and by Id.
use Rattle.ob_waits.proofs.Cited.{at_place, nat_tests, get_or-map, ◌≡◌, ℕ, ◌+◌, ◌*◌, ◌<◌, ◌≤◌, List, [], ◌∷◌, ◌++◌, length, Option, Some, None, refl, ap, ◌∙◌, arith, get_or, set, map, true, cond, count_by, sum_by, ◌==◌, list_any, length-set, length-map, get_or_past, ext_get_or, sum_by-cons, sum_by-append, sum_by-le, get_or-le-sum_by, count_by-le-length, Id, Mode, Wait, WaitsInvariant, nowhere, new_wait, answered, ids_of, names_slot, slot_places, slot_blocks, blocks_in, blocks_among, Scene, is_ready, effect, settled, number_of, numbered_ids, thread_ids, unless_of}
use Rattle.std.proofs.lemmas.List.Elements.{All-from_get_or}
use Rattle.pin_core.specs.Holds.{same_id}
use Rattle.ob_waits.proofs.BlockLaws.{sum_cleared}
use Rattle.ob_waits.proofs.Settling.{settled_by_effects}
use Rattle.ob_waits.proofs.TrackedLaws.{no_number, number_own}

-- a wait becomes pending
pub slot_added : (k : ℕ) (ws : List (Option Wait)) (t : ℕ) (mode : Mode) (ids : List Id) (d : Option ℕ)
    → slot_blocks k (ws ++ Some (new_wait t mode ids d) ∷ []) ≡ slot_blocks k ws + slot_places k ids
slot_added k ws t mode ids d = search (arith, sum_by-append)

pub blocks_added : (id : Id) (ws : List (Option Wait)) (t : ℕ) (mode : Mode) (ids : List Id) (d : Option ℕ)
    → blocks_among id (ws ++ Some (new_wait t mode ids d) ∷ []) ≡ blocks_among id ws + count_by (same_id id) ids
blocks_added id ws t mode ids d = search (arith, sum_by-append)

pub slot_answered : (k : ℕ) (ws : List (Option Wait)) (n code : ℕ)
    → slot_blocks k (set ws n (answered (get_or ws n None) code)) + slot_places k (ids_of (get_or ws n None))
    ≡ slot_blocks k ws
slot_answered k ws n code = search (arith, sum_cleared)

pub blocks_answered : (id : Id) (ws : List (Option Wait)) (n code : ℕ)
    → blocks_among id (set ws n (answered (get_or ws n None) code)) + blocks_in id (get_or ws n None)
    ≡ blocks_among id ws
blocks_answered id ws n code = search (arith, sum_cleared)

-- a wait goes
pub slot_removed : (k : ℕ) (ws : List (Option Wait)) (n : ℕ)
    → slot_blocks k (set ws n None) + slot_places k (ids_of (get_or ws n None)) ≡ slot_blocks k ws
slot_removed k ws n = search (arith, sum_cleared)

pub blocks_removed : (id : Id) (ws : List (Option Wait)) (n : ℕ)
    → blocks_among id (set ws n None) + blocks_in id (get_or ws n None) ≡ blocks_among id ws
blocks_removed id ws n = search (arith, sum_cleared)

pub dropped_found : (ws : List (Option Wait)) (t n : ℕ) → WaitsInvariant ws → number_of t ws ≡ Some n
    → map (unless_of t) ws ≡ set ws n None
dropped_found ws t n kept found =
    ext_get_or None _ _ (search (arith, length-map, length-set)) (λ i lt.
    grind (arith, nat_tests, at_place, get_or-map (unless_of t) ws i None, number_own ws t n, kept.one_each i n t, length-map ws (unless_of t)))

pub dropped_missing : (ws : List (Option Wait)) (t : ℕ) → number_of t ws ≡ None → map (unless_of t) ws ≡ ws
dropped_missing ws t none = ext_get_or None _ _ (length-map ws (unless_of t))
    (λ i lt. grind (arith, get_or-map (unless_of t) ws i None, no_number t ws i none, length-map ws (unless_of t)))

sum_dropped : (f : Option Wait → ℕ) (g : List Id → ℕ) → ((w : Option Wait) → f w ≡ g (ids_of w)) → g [] ≡ 0
    → (t : ℕ) (ws : List (Option Wait)) → WaitsInvariant ws →
    sum_by f (map (unless_of t) ws) + g (thread_ids t ws) ≡ sum_by f ws
sum_dropped f g same zero t ws kept = by (number_of t ws) refl
  where
    by : (n : Option ℕ) → number_of t ws ≡ n → sum_by f (map (unless_of t) ws) + g (thread_ids t ws) ≡ sum_by f ws
    by None is = search (arith, dropped_missing)
    by (Some n) is =
        let all = ap (sum_by f) (dropped_found ws t n kept is) in
        let ids = ap (λ m. g (numbered_ids ws m)) is in
        omega (arith, all, ids, sum_cleared f (same None ∙ zero) ws n None (same None ∙ zero), same (get_or ws n None))

pub slot_dropped : (k t : ℕ) (ws : List (Option Wait)) → WaitsInvariant ws
    → slot_blocks k (map (unless_of t) ws) + slot_places k (thread_ids t ws) ≡ slot_blocks k ws
slot_dropped k t ws kept = sum_dropped (λ w. slot_places k (ids_of w)) (slot_places k) (λ w. refl) refl t ws kept

pub blocks_dropped : (id : Id) (t : ℕ) (ws : List (Option Wait)) → WaitsInvariant ws
    → blocks_among id (map (unless_of t) ws) + count_by (same_id id) (thread_ids t ws) ≡ blocks_among id ws
blocks_dropped id t ws kept = sum_dropped (blocks_in id) (count_by (same_id id)) (λ w. refl) refl t ws kept

-- a wait that names a slot counts there
places_named : (k : ℕ) (ids : List Id) → list_any (λ (id : Id). id.slot == k) ids ≡ true → 0 < slot_places k ids
places_named k [] h = absurd (cc)
places_named k (x ∷ xs) h =
    grind (arith, nat_tests, sum_by-cons (λ (y : Id). cond (y.slot == k) 1 0) x xs, places_named k xs)

-- each place of a list counts in its slot
pub places_at : (ids : List Id) (i : ℕ) → i < length ids → 0 < slot_places (get_or ids i nowhere).slot ids
places_at ids i lt =
    grind (arith, nat_tests, get_or-le-sum_by (λ (x : Id). cond (x.slot == (get_or ids i nowhere).slot) 1 0) ids i nowhere)

pub wait_counts : (k n : ℕ) (ws : List (Option Wait)) → slot_places k (ids_of (get_or ws n None)) ≤ slot_blocks k ws
wait_counts k n ws = search (arith, get_or-le-sum_by, get_or_past)

pub named_counts : (k n : ℕ) (ws : List (Option Wait)) → names_slot k (get_or ws n None) ≡ true → 0 < slot_blocks k ws
named_counts k n ws named = grind (arith, places_named k (ids_of (get_or ws n None)), wait_counts k n ws)

pub unnamed_ids : (k n : ℕ) (ws : List (Option Wait)) → slot_blocks k ws ≡ 0 → (i : ℕ)
    → i < length (ids_of (get_or ws n None)) → (get_or (ids_of (get_or ws n None)) i nowhere).slot ≡ k → ⊥
unnamed_ids k n ws unnamed i lt same = grind (arith, places_at (ids_of (get_or ws n None)) i lt, wait_counts k n ws)

pub slot_blocks-few : (k : ℕ) (ws : List (Option Wait)) → WaitsInvariant ws → slot_blocks k ws ≤ length ws * 64
slot_blocks-few k ws kept = sum_by-le (λ w. slot_places k (ids_of w)) 64 ws
    (All-from_get_or (λ w. slot_places k (ids_of w) ≤ 64) ws None (search (arith, count_by-le-length)))

-- settling answers waits
blocks_effect : (id : Id) (s : Scene) (n : ℕ) → is_ready s.objects.bodies (get_or s.waits n None) ≡ true
    → blocks_among id (effect s n).waits ≤ blocks_among id s.waits
blocks_effect id s n ready = search (arith, sum_cleared)

pub blocks_settled : (id : Id) (scene : Scene) → blocks_among id (settled scene).waits ≤ blocks_among id scene.waits
blocks_settled id = settled_by_effects (λ (a b : Scene). blocks_among id b.waits ≤ blocks_among id a.waits)
    (λ s. omega arith) (λ a b c x y. omega arith) (blocks_effect id)
