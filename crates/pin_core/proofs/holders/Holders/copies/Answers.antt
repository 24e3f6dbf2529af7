use Rattle.std.proofs.Common.{◌∙◌, ap, arith}
use Rattle.std.specs.List.{count_by}
use Rattle.pin_core.specs.Holds.{is_copy}
use Rattle.pin_core.proofs.Groups.{copies-held}
use Rattle.pin_core.proofs.holders.Holders.copies.Goals as goal

pub returns : goal.returns
returns c = c.copies_in.ensures ∙ (ap (count_by (is_copy c.args.reader c.args.id)) c.as_slice.ensures.value
    ∙ copies-held c.args.self.now c.args.reader c.args.id _ c.index.result.now c.self.view_is
    (search arith) c.self.invariant c.index.ensures)
