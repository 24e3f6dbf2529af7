use Rattle.std.proofs.Common.{rules}
use Rattle.ob_shared.proofs.Parts.{differ_end, differ_next, part_found, part_other}
use Rattle.ob_shared.proofs.lane.difference.Goals.{then-entry-number+else-not-has_at, else-entry-number}
use Rattle.ob_shared.proofs.lane.difference.Goals as goal

pub returns-then-not-has_at-clause-found : goal.returns-then-not-has_at-clause-found
returns-then-not-has_at-clause-found c =
    let next = differ_next c.loop-entry.entry-index c.entry-item.result c.args.number c.args.journal.now
    c.args.list.now c.loop-entry.place in search (rules, next)

pub loop-entry-preserved : goal.loop-entry-preserved
loop-entry-preserved c =
    let found = part_found c.loop-entry.entry-index c.entry-item.result c.args.number c.args.journal.now
    c.args.list.now c.loop-entry.place in
    elim c.if-entry-number.branch [
      | then-entry-number+else-not-has_at w ↦ rw w.place-is (search (rules, found))
      | else-entry-number w ↦ (search rules, search (rules, part_other))
    ]

pub returns-then-place-list-clause-found : goal.returns-then-place-list-clause-found
returns-then-place-list-clause-found c =
    let end = differ_end c.loop-entry.entry-index c.args.number c.args.journal.now c.args.list.now c.loop-entry.place in
    search (rules, end)
