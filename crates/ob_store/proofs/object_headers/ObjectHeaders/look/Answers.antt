use Rattle.ob_store.proofs.Cited.{arith}
use Rattle.ob_store.proofs.LabelLaws.{object_here, object_read, tag_read, tags_length}
use Rattle.ob_store.proofs.object_headers.ObjectHeaders.look.Goals as goal

pub returns-then-not-is_occupied-clause-object : goal.returns-then-not-is_occupied-clause-object
returns-then-not-is_occupied-clause-object c = search (arith, object_read, ← c.self.view_is)

pub returns-clause-object : goal.returns-clause-object
returns-clause-object c =
    let within = c.self.invariant.labelled c.args.slot (search (arith, c.get.ensures)) in
    rw (← c.self.view_is) (search (arith, object_here, tag_read, tags_length, within, c.self.invariant.named, c.get.ensures))
