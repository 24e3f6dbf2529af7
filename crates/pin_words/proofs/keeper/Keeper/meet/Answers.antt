use Rattle.std.proofs.Common.{arith}
use Rattle.pin_words.proofs.Cited.{rules, sym, ap, ◌<◌, ◌∙◌, Some, None, ◌≡◌, keeper_of, reader_of, reader_looked, view, looked_view, joined}
use Rattle.pin_words.proofs.ReaderSteps.{loads}
use Rattle.pin_words.proofs.Reseated.{joins-any, parts-any}
use Rattle.pin_words.proofs.Owned.{key_at, pin_at, some_at, id_at}
use Rattle.pin_words.proofs.keeper.Keeper.meet.Goals as goal

pub join_seat-requires : goal.join_seat-requires
join_seat-requires c = let kv = keeper_of c.self.inside.seat.me.0 in let rv = reader_of c.reader.inside.seat.me.0 in
    let seat : c.replace-seat.result ≡ c.reader.inside.seat = c.replace-seat.ensures.value in
    let same : c.reader.inside.seat.table_id ≡ c.self.inside.seat.table_id =
    ap (λ w. w.table.id) c.reader.view_is ∙ (ap (λ t. t.id) c.requires.same
    ∙ ap (λ w. w.table.id) (sym c.self.view_is)) in (
      search rules,
      ap (λ z. z.table_id) seat ∙ (same ∙ c.self.inside.seated ∙ sym (id_at c.deref.ensures)),
      ap (λ z. z.me.1) seat ∙ ap (λ m. m.1) c.reader.inside.reads,
      some_at c.self.inside.shape c.deref.ensures c.self.inside.wide c.self.inside.within,
      joins-any _ _ _ _ _ kv rv (ap (λ m. m.0) c.self.inside.keeps)
          (ap (λ z. z.me.0) seat ∙ ap (λ m. m.0) c.reader.inside.reads),
    )

pub load-requires : goal.load-requires
load-requires c = let lt : c.args.slot < c.self.inside.shape.slots = search rules in (
  search rules,
  pin_at c.self.inside.shape _ _ c.deref-2.ensures c.self.inside.wide c.self.inside.within c.place_of.ensures lt,
  loads _ _ _ _ _ _ c.place_of.ensures (rw (key_at c.deref-2.ensures c.self.inside.keyed) lt),
)

pub split_seat-parted-requires : goal.split_seat-parted-requires
split_seat-parted-requires c = let kv = keeper_of c.self.inside.seat.me.0 in
    let rv = reader_of c.reader.inside.seat.me.0 in
    let kept : c.self.inside.seat.me.0 ≡ view (Some kv) None = ap (λ m. m.0) c.self.inside.keeps in
    let read : c.replace-seat.result.me.0 ≡ view None (Some rv) = ap (λ z. z.me.0) c.replace-seat.ensures.value
    ∙ ap (λ m. m.0) c.reader.inside.reads in
    let both : c.join_seat.new.seat.me.0 ≡ view (Some kv) (Some rv) =
    ap (λ m. m.0) c.join_seat.ensures.2 ∙ λ i. joined (kept i) (read i) in (
      search rules,
      some_at c.self.inside.shape c.deref-3.ensures c.self.inside.wide c.self.inside.within,
      parts-any _ _ _ kv (reader_looked rv c.args.slot c.load.result)
          (ap (λ m. m.0) (c.load.ensures.2 c.args.slot c.place_of.ensures).0
          ∙ ap (λ z. looked_view z c.args.slot c.load.result) both),
    )

pub invariant_of-self-inside : goal.invariant_of-self-inside
invariant_of-self-inside c = search arith

pub invariant_of-reader-inside : goal.invariant_of-reader-inside
invariant_of-reader-inside c = search arith

pub returns : goal.returns
returns c = search arith
