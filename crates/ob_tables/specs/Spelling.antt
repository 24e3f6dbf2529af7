-- Handle tables as bytes: the places of each, from the first on.
use Rattle.std.specs.Prelude.{◌≡◌, ℕ, ◌==◌, nat_le, ◌&&◌, Bool, true, List, length, Option}
use Rattle.std.specs.List.{list_all}
use Rattle.ob_codec.specs.Reading.{Read, as_at, both_at, list_at, option_at, where_at}
use Rattle.ob_codec.specs.Spelling.{BothFit, FewFit, ListFits, OptionFits, both, list, option}
use Rattle.ob_rights.specs.Spelling.{FlagsFit, RightsFit, flags_at, flags_text, rights_at, rights_text}
use Rattle.ob_rights.specs.declared.handle_flags.HandleFlags.{HandleFlags}
use Rattle.ob_rights.specs.declared.rights.Rights.{Rights}
use Rattle.pin_core.specs.Spelling.{IdFits, id_at, id_text}
use Rattle.pin_core.specs.declared.id.Id.{Id}
use Rattle.ob_tables.specs.declared.entry.Entry.{Entry}
use Rattle.ob_tables.specs.Tables.{HandleTables}

abbrev pub Parts : Type 0
Parts = Id × (Rights × HandleFlags)

abbrev pub entry_of : Parts → Entry
entry_of p = record { id = p.0; rights = p.1.0; flags = p.1.1 }

abbrev pub parts_of : Entry → Parts
parts_of entry = (entry.id, (entry.rights, entry.flags))

-- the Id, the rights and the flags
abbrev pub entry_text : Entry → List ℕ
entry_text entry = both id_text (both rights_text flags_text) (parts_of entry)

abbrev pub entry_at : List ℕ → Read Entry
entry_at = as_at entry_of (both_at id_at (both_at rights_at flags_at))

abbrev pub EntryFits : Entry → Type 0
EntryFits entry = BothFit IdFits (BothFit RightsFit FlagsFit) (parts_of entry)

-- each place with its entry or with none
abbrev pub table_text : List (Option Entry) → List ℕ
table_text = list (option entry_text)

-- whether a table has no more places than this
abbrev pub is_short : ℕ → List (Option Entry) → Bool
is_short limit table = nat_le (length table) limit

abbrev pub table_at : List ℕ → Read (List (Option Entry))
table_at = list_at 16384 (option_at entry_at)

abbrev pub TableFits : List (Option Entry) → Type 0
TableFits = FewFit 16384 (OptionFits EntryFits)

-- the tables of all processes, that of number 0 first; their limits stand elsewhere
abbrev pub tables_text : List (List (Option Entry)) → List ℕ
tables_text = list table_text

-- whether there are as many tables as numbers, and none is longer than its limit
abbrev pub are_bounded : ℕ → ℕ → List (List (Option Entry)) → Bool
are_bounded given handles tables = length tables == given && list_all (is_short handles) tables

abbrev pub with_limits : ℕ → ℕ → List (List (Option Entry)) → HandleTables
with_limits processes handles tables = record { process_limit = processes; handle_limit = handles; tables = tables }

abbrev pub tables_at : ℕ → ℕ → ℕ → List ℕ → Read HandleTables
tables_at processes handles given = as_at (with_limits processes handles)
    (where_at (are_bounded given handles) (list_at given table_at))

-- tables that have a spelling, within their limits
abbrev pub TablesFit : HandleTables → Type 0
TablesFit t = ListFits TableFits t.tables × (are_bounded (length t.tables) t.handle_limit t.tables ≡ true)
