-- A walk over the places, row by row.
use Rattle.std.proofs.Common.{◌≡◌, ℕ, zero, suc, ◌+◌, ◌-◌, ◌<◌, List, Option, None, Some, length, refl, arith, slice_get}
use Rattle.std.proofs.lemmas.Option.{slice_get_past}
use Rattle.ob_name.proofs.Counted.{few_rows}
use Rattle.ob_name.specs.Order.{Named, Row, row_on, rows_between, rows_of}

-- a place without a row is passed by
pub passed_by : (f : ℕ → Option Row) (place n : ℕ) → place < n → None ≡ f place
    → rows_between f place (n - place) ≡ rows_between f (place + 1) (n - (place + 1))
passed_by f place n low none = search arith

-- where there are as many rows as places, each place has its row
full : (f : ℕ → Option Row) (first n at k : ℕ) → length (rows_between f first n) ≡ n → at < n → k ≡ first + at
    → slice_get (rows_between f first n) at ≡ f k
full f first zero at k is low eq = absurd (omega arith)
full f first (suc n) at k is low eq = by (λ m len less same. full f (suc first) n m k len less same)
    (f first) refl at low eq
  where
    by : ((m : ℕ) → length (rows_between f (suc first) n) ≡ n → m < n → k ≡ suc first + m
        → slice_get (rows_between f (suc first) n) m ≡ f k)
        → (o : Option Row) → f first ≡ o → (m : ℕ) → m < suc n → k ≡ first + m
        → slice_get (rows_between f first (suc n)) m ≡ f k
    by later None none m less same = search (arith, few_rows)
    by later (Some row) some zero less same = search arith
    by later (Some row) some (suc m) less same = search arith

pub direct : (entries : List Named) (order : List ℕ) (at : ℕ) → length (rows_of entries order) ≡ length order
    → row_on entries order at ≡ slice_get (rows_of entries order) at
direct entries order at is = search (arith, full, slice_get_past)
