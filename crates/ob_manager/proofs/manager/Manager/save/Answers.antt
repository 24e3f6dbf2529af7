use Rattle.std.proofs.Common.{[]}
use Rattle.ob_manager.proofs.SavestateLaws.{loads_again}
use Rattle.ob_manager.proofs.manager.Manager.save.Goals as goal

pub returns-clause-saved : goal.returns-clause-saved
returns-clause-saved g c = rw (
  ← c.self.view_is,
  c.in_ok-seal.ensures,
  c.in_ok-write-2.ensures.text,
  c.in_ok-write.ensures.text,
  c.new-bytes.ensures.items,
)

pub returns-clause-again : goal.returns-clause-again
returns-clause-again g c =
    rw (returns-clause-saved g c, ← c.self.view_is) (loads_again c.self.inside.store (c.in_ok-write-2.ensures.again []))
