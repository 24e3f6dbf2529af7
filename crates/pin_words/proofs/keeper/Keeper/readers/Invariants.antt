use Rattle.std.proofs.Common.{◌≡◌, [], All, vec_len}
use Rattle.pin_words.proofs.keeper.Keeper.readers.Given as goal

abbrev pub invariant-loop-number : goal.invariant-loop-number
invariant-loop-number l = (l.self.view.slots ≡ l.fn.self.view.slots)
    × (l.self.view.published ≡ l.fn.self.view.published) × (l.self.view.shape ≡ l.fn.self.view.shape)
    × (l.self.table ≡ l.fn.self.table) × (vec_len l.readers ≡ l.number) × (l.count ≡ 0 → l.number ≡ 1)
    × All (λ r. (r.table ≡ l.fn.self.table) × (r.view.held ≡ [])) l.readers.items
