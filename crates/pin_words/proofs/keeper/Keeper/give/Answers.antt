use Rattle.pin_words.proofs.Cited.{rules, ap, keeper_of}
use Rattle.pin_words.proofs.Owned.{some_at}
use Rattle.pin_words.proofs.Reseated.{gives}
use Rattle.pin_words.proofs.keeper.Keeper.give.Goals as goal

pub split_seat-seat-requires : goal.split_seat-seat-requires
split_seat-seat-requires c = (
  search rules,
  some_at c.self.inside.shape c.deref.ensures c.self.inside.wide c.self.inside.within,
  gives _ _ _ (keeper_of c.self.inside.seat.me.0) (ap (λ m. m.0.keeper) c.self.inside.keeps),
)
