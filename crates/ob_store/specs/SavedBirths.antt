-- The births of the objects of a save: each below their count, and no two of them one.
use Rattle.std.specs.Prelude.{ℕ, suc, nat_lt, ◌&&◌, if◌then◌else◌, List, [], ◌∷◌, Option, Some, None, Result, Ok, Err, is_none}
use Rattle.std.specs.BTreeMap.{insert_entry, is_at}
use Rattle.std.specs.Map.{lookup}
use Rattle.std.specs.Ordering.{nat_cmp}
use Rattle.ob_codec.specs.declared.fault.TextFault.{TextFault}
use Rattle.ob_codec.specs.declared.fault.TextFault.TheVariants.{Value}
use Rattle.ob_codec.specs.Reading.{◌>>=◌}
use Rattle.ob_store.specs.Objects.{Object}

-- slots by the births of their objects
abbrev pub Births : Type 0
Births = List (ℕ × ℕ)

-- the slot of an object of this birth comes, unless the birth isn't below the count, or another object has it
abbrev pub with_birth : ℕ → Births → ℕ → ℕ → Result Births TextFault
with_birth births so_far birth slot =
    if nat_lt birth births && is_none (lookup (is_at (nat_cmp birth)) so_far) then Ok
    (insert_entry nat_cmp so_far birth slot)
    else Err Value

abbrev pub with_birth_of : ℕ → Births → ℕ → Option Object → Result Births TextFault
with_birth_of births so_far slot None = Ok so_far
with_birth_of births so_far slot (Some o) = with_birth births so_far o.birth slot

-- the slots of all objects from a slot on
abbrev pub births_from : ℕ → Births → ℕ → List (Option Object) → Result Births TextFault
births_from births so_far slot [] = Ok so_far
births_from births so_far slot (object ∷ objects) = do
  more ← with_birth_of births so_far slot object
  births_from births more (suc slot) objects
