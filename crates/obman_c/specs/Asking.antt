-- What C asks for.
use Rattle.std.specs.Prelude.{ℕ, zero, suc, Bool, true, false, List, Option, Some, None}
use Rattle.ob_rights.specs.declared.rights.Rights.{Rights}
use Rattle.ob_manager.specs.Makings.{Making, given_name}
use Rattle.obman_c.specs.declared.creating.Asking.{Asking}

abbrev pub mask_of : ℕ → Rights
mask_of mask = record { 0 = mask }

-- a mask, where there is one
abbrev pub rights_in : Bool → ℕ → Option Rights
rights_in true mask = Some (mask_of mask)
rights_in false mask = None

abbrev pub asked_for : Asking → List ℕ → Making
asked_for asking name = record {
  name = given_name asking.named name;
  inherit = asking.inherit;
  access = rights_in asking.has_access asking.access;
  grant = rights_in asking.has_grant asking.grant;
}

-- a process, a thread or a wait by its number, from 1; 0 for none
abbrev pub number_at : ℕ → Option ℕ
number_at zero = None
number_at (suc n) = Some (suc n)
