use Rattle.ob_arena.proofs.Cited.{get_or, ℕ, arith, is_some, Vacant, is_occupied, body_at}
use Rattle.least.proofs.NextLemmas.{same_test}
use Rattle.ob_arena.proofs.Phasing.{occupied_at}
use Rattle.ob_arena.proofs.arena.Arena.next_occupied.Goals as goal

pub returns : goal.returns
returns g c =
    let i = c.self.inside in
    same_test (λ (k : ℕ). is_occupied (get_or i.phases.items k Vacant))
    (λ (k : ℕ). is_some (body_at c.args.self.now k)) c.args.from c.next_body.result
    (λ k. search (arith, occupied_at))
    c.next_body.ensures
