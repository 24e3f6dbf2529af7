use Rattle.ob_store.proofs.Cited.{refl}
use Rattle.ob_store.proofs.SavedStoreLaws.{tables_kept, tables_read}
use Rattle.ob_store.proofs.savestate.read_lists.Goals as goal

pub returns-clause-kept : goal.returns-clause-kept
returns-clause-kept c =
    let k = tables_kept c.args.limits _ _ _ _ c.in_ok-tables.ensures in
    c.in_ok-processes.ensures.kept c.args.limits _ refl refl (tables_read _ _ _ _ _ _ k.0).1.1 k.1

pub returns-clause-process_limit : goal.returns-clause-process_limit
returns-clause-process_limit c =
    (tables_read _ _ _ _ _ _ (tables_kept c.args.limits _ _ _ _ c.in_ok-tables.ensures).0).0

pub returns-clause-handle_limit : goal.returns-clause-handle_limit
returns-clause-handle_limit c =
    (tables_read _ _ _ _ _ _ (tables_kept c.args.limits _ _ _ _ c.in_ok-tables.ensures).0).1.0

-- a thread that was given is one of those of the list
pub returns-clause-within : goal.returns-clause-within
returns-clause-within c = rw c.thread_places.ensures at c.in_ok-waits.ensures.within
