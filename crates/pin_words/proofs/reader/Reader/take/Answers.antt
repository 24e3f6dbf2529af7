use Rattle.pin_words.proofs.Cited.{rules, ◌≡◌, ◌∙◌, ap, ◌<◌, refl, ℕ, ◌+◌, ◌-◌, length, arith, decoded, reader_of, reader_looked}
use Rattle.std.proofs.Math.Seq.{take-append_seam}
use Rattle.pin_words.proofs.ReaderSteps.{pins-step}
use Rattle.pin_words.proofs.Calls.{go-means, read-one, got-one, inside-more}
use Rattle.pin_words.proofs.Owned.{key_at, pin_at}
use Rattle.pin_words.proofs.reader.Reader.take.Goals as goal

pub compare_exchange-seen-requires : goal.compare_exchange-seen-requires
compare_exchange-seen-requires c =
    let lt : c.args.id.slot < c.self.inside.shape.slots = search rules in
    let go = go-means c.self.inside.shape.max_pins c.args.id (decoded c.args.found) (search rules) in (
      search rules,
      pin_at c.self.inside.shape _ _ c.deref.ensures c.self.inside.wide c.self.inside.within c.place_of.ensures lt,
      pins-step _ _ _ _ _ _ _ _ (reader_of c.self.inside.seat.me.0) c.place_of.ensures
          (ap (λ m. m.0.reader) c.self.inside.reads)
          (rw (key_at c.deref.ensures c.self.inside.keyed) lt) refl
          go.0 (rw (key_at c.deref.ensures c.self.inside.keyed) go.2),
    )

pub invariant_of-self-inside-else-seen-found : goal.invariant_of-self-inside-else-seen-found
invariant_of-self-inside-else-seen-found c = let did = c.compare_exchange-seen.ensures in
    let played = did.2 c.args.id.slot c.place_of.ensures in let hit = c.if-seen-found.false in
    let go = go-means c.args.self.now.view.shape.max_pins c.args.id (decoded c.args.found) c.requires.go in
    let one = got-one c.compare_exchange-seen.result c.self.inside.seat.me c.compare_exchange-seen.new.seat.me c.args.id
    c.self.inside.reads (played.0 hit) (ap (λ (n : ℕ). (decoded n).generation) hit ∙ go.1) in
    let more = inside-more c.self.inside.shape.slots c.args.id c.self.inside.held.items (search rules)
    c.self.inside.inside in search rules

pub invariant_of-self-inside : goal.invariant_of-self-inside
invariant_of-self-inside c = let played = c.compare_exchange-seen.ensures.2 c.args.id.slot c.place_of.ensures in
    let one = read-one (λ r. reader_looked r c.args.id.slot c.compare_exchange-seen.result) c.self.inside.seat.me
    c.compare_exchange-seen.new.seat.me c.self.inside.reads (played.1 c.if-seen-found.true) in
    let counted : length c.push.new.self.items ≡ length c.self.inside.held.items + 1 = search arith in
    let less : length c.push.new.self.items - 1 ≡ length c.self.inside.held.items = omega arith in
    let popped : c.pop.new.self.items ≡ c.self.inside.held.items = search (arith, take-append_seam) in search rules

pub returns-then-seen-found : goal.returns-then-seen-found
returns-then-seen-found c = search arith

pub returns-else-seen-found : goal.returns-else-seen-found
returns-else-seen-found c = search arith
