use Rattle.ob_store.proofs.Cited.{arith}
use Rattle.ob_store.proofs.SavedStoreLaws.{tables_read}
use Rattle.ob_store.proofs.savestate.read_tables.Goals as goal

pub are_vacated-requires : goal.are_vacated-requires
are_vacated-requires c = search (arith, tables_read)
