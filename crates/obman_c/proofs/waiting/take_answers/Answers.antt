use Rattle.std.proofs.Common.{◌<◌, ◌∙◌, length, length-set, arith}
use Rattle.obman_c.specs.declared.waiting.CAnswer.{CAnswer}
use Rattle.obman_c.specs.Waiting.{TakesNext}
use Rattle.obman_c.proofs.Chains.{chain_set, rest_set}
use Rattle.obman_c.proofs.Taking.{answered}
use Rattle.obman_c.proofs.waiting.take_answers.Goals as goal

pub loop-place-preserved : goal.loop-place-preserved
loop-place-preserved c =
    let place = c.loop-place.place in
    let list = c.loop-place.answers in
    let old = c.loop-place.held in
    let new = c.call.new.self in
    let a = c.in-Some.field-0 in
    let told : CAnswer = record { wait = a.wait; thread = a.thread; code = a.code } in
    let is = answered old.manager new.manager a.wait a.code _ c.in-Some.ensures.found c.call.ensures.step in
    let next : TakesNext old told new = record { next = c.in-Some.ensures; made = rw is at c.call.ensures } in
    let within : place < length list = omega (arith, c.loop-place-test.true, c.loop-place.invariant.length_is) in
    record {
      taken = chain_set TakesNext c.args.held.now old new told place list within c.loop-place.invariant.taken next;
      rest = rest_set list c.args.answers.now told place c.loop-place.invariant.rest;
      length_is = length-set list place told ∙ c.loop-place.invariant.length_is;
    }
