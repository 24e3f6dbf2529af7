-- What a create asks for, borrowed or owned.
use Rattle.std.specs.Prelude.{ℕ, Bool, true, false, List, Option, Some, None}
use Rattle.std.specs.Option.{option_map}
use Rattle.ob_rights.specs.declared.rights.Rights.{Rights}
use Rattle.ob_manager.specs.declared.making.Make.{Make}

-- what a create asks for beside the object's own state: a name, whether the handle has the flag INHERIT, the rights
-- that the handle is to have, and the rights that opens of a new object may get
pub record Making : Type 0 where
  pub name : Option (List ℕ)
  pub inherit : Bool
  pub access : Option Rights
  pub grant : Option Rights

-- a name, where one is given
abbrev pub given_name : Bool → List ℕ → Option (List ℕ)
given_name true text = Some text
given_name false text = None

abbrev pub making_of : Make → Making
making_of make = record {
  name = option_map (λ text. text.now) make.name;
  inherit = make.inherit;
  access = make.access;
  grant = make.grant;
}
