use Rattle.std.proofs.Common.{arith, sym, ◌∙◌}
use Rattle.ob_arena.proofs.NextLemmas.{body_found, no_body, none_up_to}
use Rattle.ob_arena.proofs.arena.next_body.Goals as goal

pub returns-then-is_occupied : goal.returns-then-is_occupied
returns-then-is_occupied c =
    body_found c.args.phases.now.items c.args.free.now c.requires c.args.from c.loop-slot.at c.in-Some.slot
    c.loop-slot.invariant.above c.loop-slot.invariant.none c.in-Some.ensures.least
    c.index.result.now c.index.ensures (sym c.is_occupied.ensures ∙ c.if-is_occupied.true)

pub loop-slot-preserved : goal.loop-slot-preserved
loop-slot-preserved c =
    let above = c.loop-slot.invariant.above in
    let over = c.in-Some.ensures.least.above in
    record {
      above = omega arith;
      none = none_up_to c.args.phases.now.items c.args.free.now c.requires c.args.from c.loop-slot.at c.in-Some.slot
          c.loop-slot.invariant.above c.loop-slot.invariant.none c.in-Some.ensures.least
          c.index.result.now c.index.ensures (sym c.is_occupied.ensures ∙ c.if-is_occupied.false);
    }

pub returns : goal.returns
returns c = no_body c.args.phases.now.items c.args.free.now c.requires c.args.from c.loop-slot.at
    c.loop-slot.invariant.none c.in_default.ensures.least
