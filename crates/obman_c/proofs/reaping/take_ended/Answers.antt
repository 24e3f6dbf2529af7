use Rattle.std.proofs.Common.{◌+◌, ◌<◌, ◌∙◌, length, length-set, refl, arith}
use Rattle.ob_manager.specs.Steps.{reclaim_in, reply_of}
use Rattle.obman_c.specs.Reaping.{ReapsNext}
use Rattle.obman_c.proofs.Chains.{chain_set, rest_set}
use Rattle.obman_c.proofs.Taking.{reaped, told_as}
use Rattle.obman_c.proofs.reaping.take_ended.Goals as goal

pub loop-place-preserved : goal.loop-place-preserved
loop-place-preserved c =
    let place = c.loop-place.place in
    let list = c.loop-place.reapings in
    let old = c.loop-place.held in
    let new = c.call-answer.new.self in
    let id = c.in-Some.id in
    let reply = reply_of c.call-answer.result in
    let told = c.tell_reaping.new.out in
    let is = reaped old.manager new.manager id reply c.kept.ensures c.in-Some.ensures.object
    c.in-Some.ensures.least.passes c.call-answer.ensures.step in
    let next : ReapsNext (c.loop-place.from, old) told (id.slot + 1, new) = record {
      id = id;
      outcome = reclaim_in reply;
      least = c.in-Some.ensures.least;
      made = rw is at c.call-answer.ensures;
      value = told_as _ is c.tell_reaping.ensures.value;
      next = refl;
    } in
    let within : place < length list = omega (arith, c.loop-place-test.true, c.loop-place.invariant.length_is) in
    record {
      reaped = chain_set ReapsNext (0, c.args.held.now) (c.loop-place.from, old) (
        id.slot + 1,
        new,
      ) told place list within c.loop-place.invariant.reaped next;
      rest = rest_set list c.args.reapings.now told place c.loop-place.invariant.rest;
      length_is = length-set list place told ∙ c.loop-place.invariant.length_is;
    }
