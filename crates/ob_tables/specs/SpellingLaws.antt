-- Handle tables are read as they were spelled.
use Rattle.std.proofs.Common.{◌≡◌, ℕ, true, List, ◌++◌, Option, Ok, arith, eqb, length, refl, subst, sym}
use Rattle.std.specs.List.{list_all}
use Rattle.std.proofs.lemmas.Bool.{and_parts, eqb-true, le-leb}
use Rattle.ob_codec.specs.Codecs.{as_codec, both_codec, list_codec, option_codec, where_codec}
use Rattle.ob_codec.specs.Laws.{IsCodec, Takes}
use Rattle.ob_codec.specs.Reading.{list_at, where_at}
use Rattle.ob_codec.specs.Spelling.{AreBytes, FewFit}
use Rattle.ob_codec.specs.Steps.{bind_ok, ok_is}
use Rattle.ob_rights.specs.SpellingLaws.{flags_codec, rights_codec}
use Rattle.pin_core.specs.SpellingLaws.{id_codec}
use Rattle.ob_tables.specs.declared.entry.Entry.{Entry}
use Rattle.ob_tables.specs.Tables.{HandleTables}
use Rattle.ob_tables.specs.Spelling.{EntryFits, TableFits, TablesFit, are_bounded, entry_at, entry_of, entry_text, is_short, parts_of, table_at, table_text, tables_at, tables_text, with_limits}

pub entry_codec : IsCodec entry_text entry_at EntryFits
entry_codec = as_codec entry_of parts_of (λ _. refl) (λ _. refl)
    (both_codec id_codec (both_codec rights_codec flags_codec))

pub table_codec : IsCodec table_text table_at TableFits
table_codec = list_codec (option_codec entry_codec) 16384

lists_codec : (given h : ℕ) → IsCodec tables_text (where_at (are_bounded given h) (list_at given table_at))
    (λ ts. FewFit given TableFits ts × (are_bounded given h ts ≡ true))
lists_codec given h = where_codec (list_codec table_codec given) (are_bounded given h)

pub tables_again : (t : HandleTables) (rest : List ℕ) → TablesFit t
    → tables_at t.process_limit t.handle_limit (length t.tables) (tables_text t.tables ++ rest) ≡ Ok (t, rest)
tables_again t rest fits = rw ((lists_codec (length t.tables) t.handle_limit).again t.tables rest
    ((fits.0, le-leb (length t.tables) (length t.tables) (omega arith)), fits.1)) refl

-- tables that were read are as many as were asked for, with the limits that were
pub tables_take : (p h given : ℕ) (bytes : List ℕ) (t : HandleTables) (rest : List ℕ) → AreBytes bytes
    → tables_at p h given bytes ≡ Ok (t, rest)
    → Takes bytes (tables_text t.tables) rest × TablesFit t
tables_take p h given bytes t rest fits e =
    let x = bind_ok (where_at (are_bounded given h) (list_at given table_at) bytes)
    (λ (x : List (List (Option Entry)) × List ℕ). Ok (with_limits p h x.0, x.1)) (t, rest) e in
    let w = (lists_codec given h).takes bytes x.0.0 x.0.1 fits x.1 in
    let many = eqb-true (length x.0.0) given
    (and_parts (eqb (length x.0.0) given) (list_all (is_short h) x.0.0) w.1.1).0 in
    subst (λ (z : HandleTables × List ℕ). Takes bytes (tables_text z.0.tables) z.1
    × TablesFit z.0) (ok_is (with_limits p h x.0.0, x.0.1) (t, rest) x.2)
    (w.0, (w.1.0.0, subst (λ (n : ℕ). are_bounded n h x.0.0 ≡ true) (sym many) w.1.1))
