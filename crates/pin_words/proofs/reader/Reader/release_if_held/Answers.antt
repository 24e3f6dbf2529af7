use Rattle.std.proofs.Common.{arith}
use Rattle.pin_words.proofs.Cited.{rules, ◌≡◌, ap, ◌<◌, tally, drop_last, same_id, reader_of}
use Rattle.pin_words.proofs.ReaderSteps.{releases-step}
use Rattle.pin_words.proofs.Calls.{inside-less, released-one}
use Rattle.pin_words.proofs.Owned.{key_at, pin_at}
use Rattle.pin_words.proofs.Stepping.{released-step}
use Rattle.pin_words.proofs.reader.Reader.release_if_held.Goals as goal

pub fetch_sub-requires : goal.fetch_sub-requires
fetch_sub-requires c = let have : 0 < tally (same_id c.args.id) (reader_of c.self.inside.seat.me.0).held = search rules
    in
    let lt : c.args.id.slot < c.self.inside.shape.slots = c.self.inside.inside c.args.id (search rules) in (
      search rules,
      pin_at c.self.inside.shape _ _ c.deref.ensures c.self.inside.wide c.self.inside.within c.place_of.ensures lt,
      releases-step _ _ _ _ _ (reader_of c.self.inside.seat.me.0) c.args.id c.place_of.ensures
          (ap (λ m. m.0.reader) c.self.inside.reads)
          (rw (key_at c.deref.ensures c.self.inside.keyed) lt) have,
    )

pub invariant_of-self-inside : goal.invariant_of-self-inside
invariant_of-self-inside c = let one = released-one c.fetch_sub.result c.place_of.result c.self.inside.seat.me
    c.fetch_sub.new.seat.me c.args.id c.place_of.ensures c.self.inside.reads c.fetch_sub.ensures.2 (search rules) in
    let less = inside-less c.self.inside.shape.slots c.args.id c.self.inside.held.items c.self.inside.inside in
    let left : c.take_out.new.held.items ≡ drop_last (same_id c.args.id) c.self.inside.held.items = search rules in
    search rules

pub returns-clause-view : goal.returns-clause-view
returns-clause-view c _ = search (arith, released-one)

pub returns-clause-steps : goal.returns-clause-steps
returns-clause-steps c _ = rw (← c.self.view_is) (released-step c.fetch_sub.result c.place_of.result
    c.self.inside.seat.me c.fetch_sub.new.seat.me c.args.id c.place_of.ensures c.self.inside.reads c.fetch_sub.ensures.2
    (search rules))
