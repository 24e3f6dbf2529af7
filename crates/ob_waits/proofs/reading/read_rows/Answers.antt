use Rattle.ob_waits.proofs.ReadLaws.{rows_in_parts}
use Rattle.ob_waits.proofs.reading.read_rows.Goals as goal

pub returns : goal.returns
returns c = rows_in_parts c.read_list.result c.args.most c.args.from.now c.read_list.new.from
    c.read_list.ensures.read
