use Rattle.std.proofs.Common.{◌∙◌, Some, ap, cond, eqb, nat_eq, arith}
use Rattle.std.specs.HashMap.{get}
use Rattle.ob_waits.proofs.PlaceLaws.{put_placed, put_threads, unput}
use Rattle.ob_waits.proofs.number_map.NumberMap.put.Goals as goal

pub returns-in_err-put_at-clause-number_map : goal.returns-in_err-put_at-clause-number_map
returns-in_err-put_at-clause-number_map c =
    let f = c.make_way.new.self in
    let same = unput f.mask f.places.items c.make_places.new.places.items c.args.entry c.index_mut.result.now
    c.put_at.new.place c.in_ok-make_places.ensures.made c.in_ok-make_places.ensures.same c.index_mut.ensures.value
    c.in_err-put_at.ensures.kept in
    search arith

pub returns-in_err-put_at-clause-err : goal.returns-in_err-put_at-clause-err
returns-in_err-put_at-clause-err c = grind (arith, unput)

pub returns-clause-number_map : goal.returns-clause-number_map
returns-clause-number_map c = search (arith, put_placed, c.in_ok-make_way.ensures.number_map)

pub returns-clause-ok : goal.returns-clause-ok
returns-clause-ok c n =
    let f = c.make_way.new.self in
    put_threads f.mask f.places.items c.make_places.new.places.items c.args.entry c.index_mut.result.now
    c.put_at.new.place c.in_ok-make_places.ensures.made c.in_ok-make_places.ensures.same c.index_mut.ensures.value
    (get nat_eq f.overflow) (get nat_eq c.put_at.new.overflow) c.in_ok-make_way.ensures.number_map.placed
    c.in_ok-put_at.ensures.placed c.in_ok-put_at.ensures.moved n
    ∙ ap (cond (eqb c.args.entry.number n) (Some c.args.entry.thread)) (c.in_ok-make_way.ensures.same n)
