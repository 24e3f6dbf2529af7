use Rattle.std.proofs.Common.{OnOk, subst, List, Option}
use Rattle.std.proofs.lemmas.Result.{on_ok_weaker}
use Rattle.ob_codec.specs.Spelling.{ListFits}
use Rattle.ob_tables.specs.declared.entry.Entry.{Entry}
use Rattle.ob_tables.specs.Spelling.{TableFits, TablesFit}
use Rattle.ob_tables.specs.Tables.{HandleTables}
use Rattle.ob_tables.proofs.Bounds.{bounded}
use Rattle.ob_tables.proofs.tables.Tables.write.Goals as goal

pub returns-clause-fits : goal.returns-clause-fits
returns-clause-fits c =
    let i = c.self.inside in
    subst (λ (t : HandleTables). OnOk c.write_list.result (TablesFit t)) c.self.view_is
    (on_ok_weaker c.write_list.result (λ fits. (
      subst
          (λ (ts : List (List (Option Entry))). ListFits TableFits ts) c.as_slice.ensures.value fits,
      bounded i.processes i.handles i.tables.items c.self.invariant,
    )) c.write_list.ensures.fits)
