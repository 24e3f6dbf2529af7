use Rattle.std.proofs.Common.{refl, sym, arith, set}
use Rattle.std.proofs.lemmas.Option.{slice_get_read}
use Rattle.indexmap.specs.IndexMap.{set_value_at}
use Rattle.ob_name.proofs.Moved.{IsMoved, moves}
use Rattle.ob_name.proofs.places.move_row.Goals.{After-order-1}
use Rattle.ob_name.proofs.places.move_row.Goals as goal

moved : (c : After-order-1) → IsMoved c.args.ids.now.entries
    (set_value_at c.args.ids.now.entries c.index-index.result.now (record {
      id = c.in-Some.entered.now.id;
      place = c.args.to;
    })) c.args.order.now.items (set c.args.order.now.items c.args.to c.index-index.result.now)
    c.args.from c.args.to
moved c = moves c.args.ids.now.entries c.args.order.now.items c.args.from c.args.to c.index-index.result.now
    (c.in-Some.field-0-0.now, c.in-Some.entered.now) (record { id = c.in-Some.entered.now.id; place = c.args.to })
    c.requires.ordered c.requires.low c.requires.gap (search (arith, slice_get_read))
    (sym c.in-Some.ensures.entry) c.if-entered-from.false refl refl

pub returns-clause-ordered : goal.returns-clause-ordered
returns-clause-ordered c = (moved c).ordered

pub returns-clause-rows : goal.returns-clause-rows
returns-clause-rows c = (moved c).rows

pub returns-clause-gap : goal.returns-clause-gap
returns-clause-gap c = λ q above below. (moved c).gap q (omega arith) below
