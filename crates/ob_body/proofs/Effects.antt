-- What a change of a body does to the other threads: nothing becomes signaled by taking, and no room is lost but the
-- taker's.
use Rattle.std.proofs.Common.{◌≡◌, ℕ, ◌≤◌, arith, true}
use Rattle.std.proofs.lemmas.Bool.Decides.{nat_tests}
use Rattle.ob_body.specs.declared.body.Body.{Body}
use Rattle.ob_body.specs.Body.{is_signaled, has_room, after_acquire, after_set, after_reset, after_post, after_unlock, after_abandon, after_fire}

-- what is signaled after a thread took the body was signaled before, for any thread
pub signaled_before : (u t : ℕ) (b : Body) → is_signaled t (after_acquire u b) ≡ true → is_signaled t b ≡ true
signaled_before u t b h = grind (arith, nat_tests)

-- taking by a thread leaves the room of every other
pub room_after_acquire : (limit u t : ℕ) (b : Body) → (t ≡ u → ⊥) → has_room limit t b ≡ true
    → has_room limit t (after_acquire u b) ≡ true
room_after_acquire limit u t b other h = grind (arith, nat_tests)

-- every other change of a body leaves the room of all threads
pub room_after_set : (limit t : ℕ) (b : Body) → has_room limit t b ≡ true → has_room limit t (after_set b) ≡ true
room_after_set limit t b h = grind arith

pub room_after_reset : (limit t : ℕ) (b : Body) → has_room limit t b ≡ true → has_room limit t (after_reset b) ≡ true
room_after_reset limit t b h = grind arith

pub room_after_post : (limit t count : ℕ) (b : Body) → has_room limit t b ≡ true
    → has_room limit t (after_post count b) ≡ true
room_after_post limit t count b h = grind arith

pub room_after_unlock : (limit u t : ℕ) (b : Body) → has_room limit t b ≡ true
    → has_room limit t (after_unlock u b) ≡ true
room_after_unlock limit u t b h = grind (arith, nat_tests)

pub room_after_abandon : (limit u t : ℕ) (b : Body) → has_room limit t b ≡ true
    → has_room limit t (after_abandon u b) ≡ true
room_after_abandon limit u t b h = grind (arith, nat_tests)

-- room below a limit is room below a greater one
pub room_at_more : (limit more t : ℕ) (b : Body) → limit ≤ more → has_room limit t b ≡ true → has_room more t b ≡ true
room_at_more limit more t b le h = grind (arith, nat_tests)

-- firing leaves the room of all threads
pub room_after_fire : (limit t now : ℕ) (b : Body) → has_room limit t b ≡ true
    → has_room limit t (after_fire now b) ≡ true
room_after_fire limit t now b h = grind arith
