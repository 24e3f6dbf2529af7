use Rattle.pin_words.proofs.Cited.{rules, ap, ◌<◌, with_descr, keeper_of}
use Rattle.pin_words.proofs.Calls.{stores-there, stored-one, slot-changed}
use Rattle.pin_words.proofs.Owned.{key_at, descr_at}
use Rattle.pin_words.proofs.keeper.Keeper.store_descr.Goals as goal

pub store-requires : goal.store-requires
store-requires c = let lt : c.args.slot < c.self.inside.shape.slots = search rules in (
  search rules,
  descr_at c.self.inside.shape _ _ c.deref.ensures c.self.inside.wide c.self.inside.within c.descr_place.ensures lt,
  stores-there _ _ _ c.args.slot _ _ _ (keeper_of c.self.inside.seat.me.0) c.args.descr c.self.inside.shape
      c.descr_place.ensures (key_at c.deref.ensures c.self.inside.keyed)
      (ap (λ m. m.0.keeper) c.self.inside.keeps) lt (search rules)
      c.requires.given c.encode.ensures,
)

pub invariant_of-self-inside : goal.invariant_of-self-inside
invariant_of-self-inside c = let did = c.store.ensures in
    let one = stored-one _ c.self.inside.seat.me c.store.new.seat.me c.args.slot c.descr_place.result c.args.descr
    c.self.inside.keeps did.2 c.descr_place.ensures c.requires.given c.encode.ensures in
    let changed = slot-changed (keeper_of c.self.inside.seat.me.0) _ _ _ _ _ c.args.slot c.index_mut.result.now
    (λ z. with_descr z c.args.descr) one.1 c.self.inside.shaped c.self.inside.knows c.self.inside.length_is
    (search rules)
    c.index_mut.ensures.value in search rules
