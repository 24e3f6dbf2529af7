use Rattle.ob_store.proofs.SavedLaws.{HasRead}
use Rattle.ob_store.proofs.reading_objects.read_rows.Given as goal

abbrev pub invariant-loop-slot : goal.invariant-loop-slot
invariant-loop-slot l = HasRead l.rows l.slots l.max_gen l.clock l.slot l.fn.from l.from l.headers l.begun.items l.ends_used
