use Rattle.std.proofs.Common.{arith}
use Rattle.pin_words.proofs.Cited.{rules, ◌<◌}
use Rattle.pin_words.proofs.ReaderSteps.{loads}
use Rattle.pin_words.proofs.Owned.{key_at, pin_at}
use Rattle.pin_words.proofs.reader.Reader.look.Goals as goal

pub load-requires : goal.load-requires
load-requires c = let lt : c.args.slot < c.self.inside.shape.slots = search rules in (
  search rules,
  pin_at c.self.inside.shape _ _ c.deref.ensures c.self.inside.wide c.self.inside.within c.place_of.ensures lt,
  loads _ _ _ _ _ _ c.place_of.ensures (rw (key_at c.deref.ensures c.self.inside.keyed) lt),
)

pub invariant_of-self-inside : goal.invariant_of-self-inside
invariant_of-self-inside c = search arith

pub returns-clause-view : goal.returns-clause-view
returns-clause-view c = search arith

pub returns-clause-tells : goal.returns-clause-tells
returns-clause-tells c = search arith
