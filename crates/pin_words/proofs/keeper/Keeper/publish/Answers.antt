use Rattle.std.proofs.Common.{arith}
use Rattle.pin_words.proofs.Cited.{rules, ap, ◌<◌, in_phase, keeper_of, keeper_published, Live}
use Rattle.pin_words.proofs.KeeperSteps.{publishes-step}
use Rattle.pin_words.proofs.Calls.{kept-one, slot-changed}
use Rattle.pin_words.proofs.Owned.{key_at, pin_at}
use Rattle.pin_words.proofs.keeper.Keeper.publish.Goals as goal

pub fetch_or-requires : goal.fetch_or-requires
fetch_or-requires c = let lt : c.args.slot < c.self.inside.shape.slots = search rules in (
  search rules,
  pin_at c.self.inside.shape _ _ c.deref.ensures c.self.inside.wide c.self.inside.within c.place_of.ensures lt,
  publishes-step _ _ _ _ _ _ (keeper_of c.self.inside.seat.me.0) c.place_of.ensures
      (ap (λ m. m.0.keeper) c.self.inside.keeps) (rw (key_at c.deref.ensures c.self.inside.keyed) lt) (search rules),
)

pub invariant_of-self-inside : goal.invariant_of-self-inside
invariant_of-self-inside c = let played = c.fetch_or.ensures.2 c.args.slot c.place_of.ensures in
    let one = kept-one (λ k. keeper_published k c.args.slot) c.self.inside.seat.me c.fetch_or.new.seat.me
    c.self.inside.keeps played in
    let changed = slot-changed (keeper_of c.self.inside.seat.me.0) _ _ _ _ _ c.args.slot c.index_mut.result.now
    (λ z. in_phase z Live) one.1 c.self.inside.shaped c.self.inside.knows c.self.inside.length_is (search rules)
    c.index_mut.ensures.value in search rules

pub returns-clause-view : goal.returns-clause-view
returns-clause-view c = search arith
