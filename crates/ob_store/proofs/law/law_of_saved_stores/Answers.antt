use Rattle.ob_store.proofs.SavedStoreLaws.{store_takes}
use Rattle.ob_store.proofs.law.law_of_saved_stores.Goals as goal

pub returns : goal.returns
returns c = record { takes = store_takes }
