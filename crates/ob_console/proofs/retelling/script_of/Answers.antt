use Rattle.ob_console.proofs.Cited.{arith, All-more, FitsEntry}
use Rattle.ob_console.proofs.Written.{script_next}
use Rattle.ob_console.proofs.retelling.script_of.Goals as goal

pub loop-entry-preserved : goal.loop-entry-preserved
loop-entry-preserved c =
    let i = c.loop-entry.entry-index in let entry = c.entry-item.result in
    search (
      arith,
      All-more FitsEntry c.args.journal.now i entry,
      script_next c.args.journal.now i entry c.loop-entry.record,
      ← c.entry-item.is,
    )
