use Rattle.std.proofs.Common.{leb, rules}
use Rattle.std.proofs.lemmas.List.Sorted.{IsPartitionPoint-from_clause}
use Rattle.ob_waits.proofs.MergeLaws.{parted, next_there, next_none}
use Rattle.ob_waits.proofs.merge.next_of.Goals as goal

pub returns-then-at-numbers : goal.returns-then-at-numbers
returns-then-at-numbers c =
    let ns = c.args.numbers.now in
    let point = IsPartitionPoint-from_clause (λ n. leb n c.args.last) ns c.partition_point-at.result
    c.partition_point-at.ensures.partitioned (parted ns c.args.last c.requires) (λ a r q k. search rules) in
    next_there ns c.args.last c.partition_point-at.result c.requires point c.if-at-numbers.true

pub returns : goal.returns
returns c =
    let ns = c.args.numbers.now in
    let point = IsPartitionPoint-from_clause (λ n. leb n c.args.last) ns c.partition_point-at.result
    c.partition_point-at.ensures.partitioned (parted ns c.args.last c.requires) (λ a r q k. search rules) in
    next_none ns c.args.last c.partition_point-at.result c.requires point c.if-at-numbers.false
