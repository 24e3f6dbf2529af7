-- What the callers of an arena need of a vacant slot, and of the least.
use Rattle.ob_arena.proofs.Cited.{arith, ◌≡◌, ◌<◌, ℕ, List, [], ◌∷◌, length, Some, None, Bool, true, find, Slots, body_at, is_vacant_at, least_vacant}

-- what is found passes the test
found_passes : {X : Type 0} (p : X → Bool) (xs : List X) (x : X) → find p xs ≡ Some x → p x ≡ true
found_passes p [] x h = cc
found_passes p (y ∷ xs) x h = search (arith, found_passes p xs x)

pub vacant_least : {B : Type 0} (s : Slots B) (slot : ℕ) → least_vacant s ≡ Some slot → is_vacant_at s slot ≡ true
vacant_least s slot h = search (arith, found_passes)

-- a vacant slot is one of the arena's
pub vacant_within : {B : Type 0} (s : Slots B) (slot : ℕ) → is_vacant_at s slot ≡ true → slot < length s.bodies
vacant_within s slot h = search arith

-- has no body
pub vacant_empty : {B : Type 0} (s : Slots B) (slot : ℕ) → is_vacant_at s slot ≡ true → body_at s slot ≡ None
vacant_empty s slot h = search arith
