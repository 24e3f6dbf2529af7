-- In a list that rises nothing stands twice.
use Rattle.std.proofs.Common.{◌≡◌, ℕ, ◌≤◌, List, [], ◌∷◌, refl, arith, Bool, true, false}
use Rattle.std.specs.List.{list_any}
use Rattle.std.proofs.lemmas.Bool.Decides.{nat_tests}
use Rattle.pin_core.specs.Holds.{same_id}
use Rattle.pin_core.specs.declared.id.Id.{Id}
use Rattle.ob_tables.proofs.Counting.{one_id}
use Rattle.ob_manager.specs.Rising.{place_of_handle, place_of_object, rise}
use Rattle.ob_manager.specs.Waiting.{has_twice, same_handle}

module _ {A : Type 0} (same : A → A → Bool) (place : A → ℕ) (one : (x y : A) → same x y ≡ true
    → place x ≡ place y) where
  -- what is below a list that rises isn't in it
  not_in : (x : A) (xs : List A) (last : ℕ) → place x ≤ last → rise place last xs ≡ true → list_any (same x) xs ≡ false
  not_in x [] last low up = refl
  not_in x (y ∷ ys) last low up = grind (arith, nat_tests, one x y, not_in x ys (place y))

  apart : (xs : List A) (last : ℕ) → rise place last xs ≡ true → has_twice same xs ≡ false
  apart [] last up = refl
  apart (x ∷ xs) last up = grind (arith, nat_tests, not_in x xs (place x), apart xs (place x))

pub handles_apart : (handles : List ℕ) → rise place_of_handle 0 handles ≡ true → has_twice same_handle handles ≡ false
handles_apart handles up = apart same_handle place_of_handle (λ a b is. grind (arith, nat_tests)) handles 0 up

pub objects_apart : (ids : List Id) → rise place_of_object 0 ids ≡ true → has_twice same_id ids ≡ false
objects_apart ids up = apart same_id place_of_object (λ a b is. search (arith, one_id)) ids 0 up
