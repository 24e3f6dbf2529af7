-- Names as bytes: the number of the session, 0 for the global namespace, and the base.
use Rattle.std.specs.Prelude.{◌≡◌, ℕ, ◌<◌, ◌^◌, true, List, Option, Some, None, if◌then◌else◌}
use Rattle.std.specs.Int.{w32, to_le_bytes}
use Rattle.ob_codec.specs.Reading.{Read, both_at, number_at, some_at, string_at}
use Rattle.ob_codec.specs.Spelling.{both, string}
use Rattle.ob_name.specs.Keys.{space_number}
use Rattle.ob_name.specs.Names.{ObjectName, home}
use Rattle.ob_name.specs.Texts.{is_base}

abbrev pub name_in_session : ℕ × List ℕ → ObjectName
name_in_session p = record { space = home p.0; base = p.1 }

abbrev pub given_name : ℕ × List ℕ → Option ObjectName
given_name p = if is_base p.1 then Some (name_in_session p) else None

abbrev pub name_parts : ObjectName → ℕ × List ℕ
name_parts name = (space_number name.space, name.base)

abbrev pub name_text : ObjectName → List ℕ
name_text name = both (to_le_bytes w32) string (name_parts name)

abbrev pub name_text_at : List ℕ → Read ObjectName
name_text_at = some_at given_name (both_at (number_at w32) string_at)

-- the namespace is the global one or that of a session above 0, and a name can have the base
pub record NameFits (name : ObjectName) : Type 0 where
  pub number : space_number name.space < 2 ^ 32
  pub space : home (space_number name.space) ≡ name.space
  pub base : is_base name.base ≡ true
