use Rattle.ob_waits.proofs.Cited.{◌≡◌, ◌++◌, ◌∷◌, [], ◌≤◌, List, ℕ, true, ap, sym, ◌∙◌, drop, length, arith, ends_with}
use Rattle.std.specs.Vec.{vec_len}
use Rattle.ob_waits.proofs.NumberLaws.{last_left, thins_last}
use Rattle.ob_waits.proofs.rising_numbers.RisingNumbers.forget.Goals as goal
use Rattle.ob_waits.proofs.rising_numbers.RisingNumbers.forget.Goals.{After-pop}

-- the numbers without the last
left : (c : After-pop) → (c.self.inside.start ≤ length c.pop.new.self.items)
    × (drop c.self.inside.start c.self.inside.numbers.items ≡ drop c.self.inside.start c.pop.new.self.items
    ++ c.args.number ∷ [])
left c =
    let items : List ℕ = c.self.inside.numbers.items in
    let len : vec_len c.self.inside.numbers ≡ length items = let ok = c.self.inside.numbers.ok.0 in omega arith in
    let ends : ends_with c.args.number (drop c.self.inside.start items) ≡ true =
    ap (ends_with c.args.number) (c.self.view_is ∙ sym c.as_slice.ensures) ∙ sym c.ends_with.ensures
    ∙ c.if-not-ends_with.false in
    last_left c.args.number c.self.inside.start items c.pop.new.self.items (search arith) ends

pub invariant_of-self : goal.invariant_of-self
invariant_of-self c = (left c).0

pub returns : goal.returns
returns c = search (arith, left, thins_last)
