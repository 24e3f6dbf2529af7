use Rattle.std.proofs.Common.{arith, ◌<◌, ◌∙◌, sym, ap, ◌+◌, ◌-◌, List, ◌++◌, Option, None, true, map, take, length, replicate, length-take-le}
use Rattle.std.specs.Prelude.{is_some}
use Rattle.std.proofs.lemmas.List.{take_more}
use Rattle.ob_tables.specs.declared.entry.Entry.{Entry}
use Rattle.ob_tables.specs.Table.{at}
use Rattle.ob_tables.proofs.Places.{next_taken, one_more_place}
use Rattle.ob_tables.proofs.table.Table.of_places.Goals as goal

pub free_at-requires-clause-held : goal.free_at-requires-clause-held
free_at-requires-clause-held c =
    let i = c.loop-i.i in
    let places = c.args.places.items in
    next_taken c.loop-i.free (take i places) i c.len-len.result (omega arith) (length-take-le i places (omega arith))
    c.loop-i.invariant

pub loop-i-preserved : goal.loop-i-preserved
loop-i-preserved c =
    let i = c.loop-i.i in
    let places = c.args.places.items in
    let lt : i < c.len-len.result = omega arith in
    let within : i < length places = omega arith in
    one_more_place c.loop-i.free c.free_at.new.free (take i places) (at places i) i c.len-len.result lt
    (length-take-le i places (omega arith)) c.loop-i.invariant
    (search arith)
    ∙ ap (λ (t : List (Option Entry)). map is_some t ++ replicate (c.len-len.result - (i + 1)) true)
    (sym (take_more places i None within))
