use Rattle.std.proofs.lemmas.Iterator.Consumers.{YieldsList-from_first, nth_from_yields_List}
use Rattle.ob_name.specs.Refs.{row_at}
use Rattle.ob_name.proofs.directory.Directory.row.Goals as goal

pub returns : goal.returns
returns c = nth_from_yields_List c.nth.result _ c.args.at c.nth.ensures.ran
    (YieldsList-from_first row_at (λ rows. rows) c.args.self.now.rows c.rows.ensures)
