-- What a name finds among names of which none stands twice.
use Rattle.std.proofs.Common.{arith, ◌≡◌, ℕ, zero, suc, true, false, [], ◌∷◌, Some, ap, sym, ◌∙◌, slice_get}
use Rattle.std.specs.List.{AllByRecursion, IsDistinct}
use Rattle.std.specs.Map.{keys_of}
use Rattle.std.proofs.lemmas.Option.{same_Some}
use Rattle.pin_core.specs.declared.id.Id.{Id}
use Rattle.ob_name.specs.Names.{ObjectName}
use Rattle.ob_name.specs.Listing.{AreDistinct, Rows, find_name, same_name}
use Rattle.ob_name.specs.Order.{Row}
use Rattle.ob_name.specs.Same.{same_name-Decides, same_name_equiv}

apart_at : (first : ObjectName) (rows : Rows) (at : ℕ) (row : Row)
    → AllByRecursion (λ (other : ObjectName). same_name first other ≡ false) (keys_of rows)
    → slice_get rows at ≡ Some row → same_name first row.0 ≡ false
apart_at first [] at row apart is = absurd cc
apart_at first (other ∷ rows) zero row apart is = search arith
apart_at first (other ∷ rows) (suc at) row apart is = apart_at first rows at row apart.1 is

pub row_found : (rows : Rows) (at : ℕ) (name : ObjectName) (id : Id) → AreDistinct rows
    → slice_get rows at ≡ Some (name, id) → find_name name rows ≡ Some id
unfolding IsDistinct
row_found [] at name id distinct is = absurd cc
row_found (row ∷ rows) zero name id distinct is =
    let same : row ≡ (name, id) = same_Some row (name, id) is in
    let passing : same_name name row.0 ≡ true = (same_name-Decides name row.0).1 (ap (λ (r : Row). r.0) (sym same)) in
    search arith
row_found (row ∷ rows) (suc at) name id distinct is =
    let other : same_name name row.0 ≡ false = same_name_equiv.symm name row.0
    ∙ apart_at row.0 rows at (name, id) distinct.0 is in
    rw other (row_found rows at name id distinct.1 is)
