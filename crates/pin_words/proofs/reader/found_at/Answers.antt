use Rattle.pin_words.proofs.Cited.{rules, ◌≡◌, ◌<◌, ℕ, true, false, Option, Some, None, IfSome, IsTrue, is_some, ◌↔◌, refl, arith, tally, drop_last, same_id, none-at, some-at, remove-last}
use Rattle.std.specs.List.{remove}
use Rattle.pin_words.proofs.reader.found_at.Goals as goal

pub returns-clause-last : goal.returns-clause-last
returns-clause-last c = by c.rposition.result refl
  where
    by : (o : Option ℕ) → c.rposition.result ≡ o
        → IfSome o (λ place. remove c.args.held.now place ≡ drop_last (same_id c.args.id) c.args.held.now)
    by None e = tt
    by (Some place) e = remove-last (same_id c.args.id) c.args.held.now place c.args.id (search rules) (search rules)
        (search rules)

pub returns-clause-found : goal.returns-clause-found
returns-clause-found c = by c.rposition.result refl
  where
    by : (o : Option ℕ) → c.rposition.result ≡ o → IsTrue (is_some o) ↔ (0 < tally (same_id c.args.id) c.args.held.now)
    by None e = let none = none-at (same_id c.args.id) c.args.held.now c.args.id (search rules) in
        ((λ bad. absurd (let x : false ≡ true = bad in cc)), (λ some. absurd (omega arith)))
    by (Some place) e = search (arith, some-at)
