use Rattle.ob_console.proofs.Cited.{arith}
use Rattle.ob_name.specs.Refs.{row_at}
use Rattle.ob_console.proofs.Listed.{head_begun, row_begun, row_written}
use Rattle.ob_console.proofs.evaluator.list.Goals as goal

pub returns-in-Err-clause-written : goal.returns-in-Err-clause-written
returns-in-Err-clause-written g c = search (arith, head_begun)

pub returns-in-Err-put-clause-written : goal.returns-in-Err-put-clause-written
returns-in-Err-put-clause-written g c = row_begun _ (row_at (c.in-Some.name, c.in-Some.id)) c.next.new.self _ _ _ _
    c.loop-name.output.bytes (search arith) c.in-Err-put.ensures.err

pub loop-name-preserved : goal.loop-name-preserved
loop-name-preserved g c = search (arith, row_written)
