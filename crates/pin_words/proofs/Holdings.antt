-- What a reader holds, in the set of the world and in its own list.
use Rattle.pin_words.proofs.Cited.{◌≡◌, ◌≢◌, ℕ, ◌+◌, ◌<◌, ◌≤◌, Bool, true, false, List, [], ◌∷◌, ◌++◌, sym, ap, ◌∙◌, arith, eqb-true, Id, Descr, tally, weight, same_id, is_copy, is_hold, hold_of, with_hold, drop_first, drop_last, WorldState, at, id_at, pins, copies, last_copy, is_of, is_with, given_as, IsSafe, count-snoc, count-drop_last, count-with_hold, copies-le-pins, Note, ReaderView, is_of_slot, notes_of, HoldsJust, AreNoted}
use Rattle.std.proofs.lemmas.Grind.{common_steps}
use Rattle.pin_core.specs.Descrs.{same_descr}
use Rattle.pin_core.proofs.Holding.{release-count}

-- a copy more
pub holds-more : (w : WorldState) (r : ℕ) (held : List Id) (id : Id) (k : ℕ) → HoldsJust w r held → (x : Id)
    → tally (is_copy r x) (with_hold (hold_of r id k) w.holders) ≡ tally (same_id x) (held ++ id ∷ [])
holds-more w r held id k h x = search (arith, count-snoc, count-with_hold)

pub holds-same-more : (w : WorldState) (q r : ℕ) (id : Id) (k : ℕ) → r ≢ q → (x : Id)
    → tally (is_copy q x) (with_hold (hold_of r id k) w.holders) ≡ copies w q x
holds-same-more w q r id k n x = search (arith, count-with_hold)

-- a copy less
pub holds-less : (w : WorldState) (r : ℕ) (held : List Id) (id : Id) → IsSafe w → HoldsJust w r held → 0 < copies w r id
    → (x : Id) → tally (is_copy r x) (drop_first (is_hold (last_copy w r id)) w.holders)
    ≡ tally (same_id x) (drop_last (same_id id) held)
holds-less w r held id safe h have x = let c = release-count w r id safe have (is_copy r x) in
    let same : weight (is_copy r x (last_copy w r id)) ≡ weight (same_id x id) = search arith in
    let some_there : 0 < tally (same_id id) held = (let e = h id in omega arith) in
    let d = count-drop_last (same_id x) (same_id id) (same_id x id) held
    (λ y e. let same : y ≡ id = search arith in ap (same_id x) same) some_there in
    let e = h x in omega arith

pub holds-same-less : (w : WorldState) (q r : ℕ) (id : Id) → IsSafe w → 0 < copies w r id → r ≢ q → (x : Id)
    → tally (is_copy q x) (drop_first (is_hold (last_copy w r id)) w.holders) ≡ copies w q x
holds-same-less w q r id safe have n x = let c = release-count w r id safe have (is_copy q x) in
    let z : weight (is_copy q x (last_copy w r id)) ≡ 0 = search arith in
    omega arith

-- where each held Id that passes the one passes the other
count-in : (p q : Id → Bool) (xs : List Id) → ((x : Id) → 0 < tally (same_id x) xs → p x ≡ true → q x ≡ true)
    → tally p xs ≤ tally q xs
count-in p q [] h = omega arith
count-in p q (y ∷ ys) h = search (arith, count-in p q ys)

-- a reader has no more copies at a slot than the slot has pins
pub held-le-pins : (w : WorldState) (r s : ℕ) (held : List Id) → IsSafe w → HoldsJust w r held
    → tally (is_of_slot s) held ≤ pins w s
held-le-pins w r s held safe h =
    let all : tally (is_of_slot s) held ≤ tally (same_id (id_at w s)) held = count-in (is_of_slot s)
    (same_id (id_at w s)) held
    (λ x have e. let there = eqb-true x.slot s e in let known = safe.held r x (let c = h x in omega arith) in
    let gen : (at w s).generation ≡ x.generation = ap (λ (z : ℕ). (at w z).generation) (sym there) ∙ known.1 in
    search arith) in
    let own = h (id_at w s) in let le = copies-le-pins w r (id_at w s) in omega arith

pub has-copies : (w : WorldState) (r : ReaderView) (x : Id) → HoldsJust w r.number r.held → 0 < tally (same_id x) r.held
    → 0 < copies w r.number x
has-copies w r x held have = search arith

pub noted-left : (w : WorldState) (held : List Id) (xs : List Note) → AreNoted w xs → AreNoted w (notes_of held xs)
noted-left w held [] h = tt
noted-left w held (x ∷ xs) h = search (arith, noted-left w held xs h.1)

-- an Id that is published once has one descriptor
count-two : (id : Id) (d e : Descr) (ps : List (Id × Descr)) → same_descr d e ≡ false
    → tally (is_with id d) ps + tally (is_with id e) ps ≤ tally (is_of id) ps
count-two id d e [] n = omega arith
count-two id d e (p ∷ ps) n = search (arith, common_steps, count-two id d e ps n)

pub one-descr : (w : WorldState) (id : Id) (d e : Descr) → IsSafe w → 0 < given_as w id d → 0 < given_as w id e → d ≡ e
one-descr w id d e safe a b = search (arith, count-two)

-- a copy that was just taken is there
pub got-held : (id : Id) (held : List Id) → 0 < tally (same_id id) (held ++ id ∷ [])
got-held id held = search (arith, count-snoc)
