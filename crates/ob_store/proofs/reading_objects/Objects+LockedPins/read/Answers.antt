use Rattle.ob_store.proofs.Cited.{◌∙◌, sym, rules}
use Rattle.ob_store.proofs.SavedKeptLaws.{read_kept}
use Rattle.ob_store.proofs.reading_objects.Objects+LockedPins.read.Goals as goal

pub returns : goal.returns
returns c =
    let k = read_kept c.args.limits c.args.processes.now.threads c.args.tables.now.tables c.args.waits.now _ _ _ _
    c.in_ok-objects.ensures c.kept.ensures (sym c.all_stand.ensures ∙ c.if-not-all_stand.false) in
    record {
      read = search rules;
      shape = k.shape;
      formed = k.formed;
      counted = k.counted;
      named = k.named;
      of_live = k.of_live;
      quiet = k.quiet;
      listing = k.listing;
    }
