use Rattle.pin_words.proofs.Cited.{rules, sym, ap, ◌<◌, ◌≡◌, ◌∙◌, length, set, arith, Shape, Slot, ℕ_discrete, dite, Word, code_of, packed, reclaimed, slot_of, keeper_of, keeper_reclaimed, closing_word, next_word}
use Rattle.pin_words.proofs.KeeperSteps.{reclaims-step}
use Rattle.pin_words.proofs.Calls.{kept-one, reclaimed-kept, slot-known, slot-changed}
use Rattle.pin_words.proofs.Owned.{key_at, pin_at}
use Rattle.pin_words.proofs.keeper.Keeper.reclaim.Goals as goal

pub compare_exchange-found-requires : goal.compare_exchange-found-requires
compare_exchange-found-requires c = let lt : c.args.slot < c.self.inside.shape.slots = search rules in
    let was : c.index-was.result.now ≡ slot_of (keeper_of c.self.inside.seat.me.0).slots c.args.slot =
    slot-known _ c.self.inside.slots.items c.args.slot c.index-was.result.now c.self.inside.knows (let long =
    c.self.inside.length_is in omega arith) c.index-was.ensures in (
      search rules,
      pin_at c.self.inside.shape _ _ c.deref.ensures c.self.inside.wide c.self.inside.within c.place_of.ensures lt,
      reclaims-step _ _ _ _ _ _ _ _ (keeper_of c.self.inside.seat.me.0) c.place_of.ensures
          (ap (λ m. m.0.keeper) c.self.inside.keeps) (rw (key_at c.deref.ensures c.self.inside.keyed) lt) (search rules)
          (c.encode.ensures ∙ ap closing_word was)
          (c.encode-2.ensures ∙ (ap (λ (y : Slot). packed y.generation (code_of y.phase) 0) c.reclaimed-next.ensures
          ∙ λ k. next_word (ap (λ (z : Shape). z.max_gen) (sym (key_at c.deref.ensures c.self.inside.keyed)) k)
          (was k))),
    )

pub invariant_of-self-inside : goal.invariant_of-self-inside
invariant_of-self-inside c = search arith

pub returns-then-pins-gt0-clause-reclaims : goal.returns-then-pins-gt0-clause-reclaims
returns-then-pins-gt0-clause-reclaims c = search arith

pub invariant_of-self-inside-2 : goal.invariant_of-self-inside-2
invariant_of-self-inside-2 c = let played = c.compare_exchange-found.ensures.2 c.args.slot c.place_of.ensures in
    let hit : c.compare_exchange-found.result ≡ c.encode.result =
    dite (ℕ_discrete c.compare_exchange-found.result c.encode.result) (λ hit. hit)
    (λ miss. absurd (let some = (played.1 miss).1 in let found = ap (λ (w : Word). w.pins) c.decode-pins.ensures in
    let none = c.if-pins-gt0.false in omega arith)) in
    let one = kept-one (λ k. keeper_reclaimed k c.args.slot c.compare_exchange-found.result) c.self.inside.seat.me
    c.compare_exchange-found.new.seat.me c.self.inside.keeps (played.0 hit) in
    let max : c.self.inside.shape.max_gen ≡ (keeper_of c.self.inside.seat.me.0).shape.max_gen =
    ap (λ (k : Shape). k.max_gen) (sym c.self.inside.shaped) in
    let next : c.reclaimed-next.result ≡ reclaimed (keeper_of c.self.inside.seat.me.0).shape.max_gen
    c.index-was.result.now = c.reclaimed-next.ensures ∙ ap (λ n. reclaimed n c.index-was.result.now) max in
    let changed = slot-changed (keeper_of c.self.inside.seat.me.0) _ _ _ _ _ c.args.slot c.index-was.result.now
    (reclaimed (keeper_of c.self.inside.seat.me.0).shape.max_gen) one.1 c.self.inside.shaped c.self.inside.knows
    c.self.inside.length_is (search rules) c.index-was.ensures in
    let inside : c.args.slot < length c.self.inside.slots.items = let long = c.self.inside.length_is in
    let lt : c.args.slot < c.self.inside.shape.slots = search rules in omega arith in
    let same : c.index_mut-kept.result.now ≡ c.index-was.result.now = search (arith, slot-known) in
    let written : set c.self.inside.slots.items c.args.slot (record {
      generation = c.reclaimed-next.result.generation;
      phase = c.reclaimed-next.result.phase;
      descr = c.index_mut-kept.result.now.descr;
    }) ≡ set c.self.inside.slots.items c.args.slot
    (reclaimed (keeper_of c.self.inside.seat.me.0).shape.max_gen c.index-was.result.now) =
    rw next (ap (set c.self.inside.slots.items c.args.slot) (reclaimed-kept
    (keeper_of c.self.inside.seat.me.0).shape.max_gen c.index-was.result.now c.index_mut-kept.result.now same)) in
    let kept = rw (← written) at changed in search rules

pub returns-clause-reclaims : goal.returns-clause-reclaims
returns-clause-reclaims c = search arith
