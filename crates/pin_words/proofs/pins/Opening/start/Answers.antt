use Rattle.pin_words.proofs.Cited.{◌≡◌, arith, keeper_gave, opening_keeper}
use Rattle.pin_words.proofs.LawOfSteps.{shows_opening}
use Rattle.pin_words.proofs.Reseated.{fresh_keeper}
use Rattle.pin_words.proofs.pins.Opening.start.Goals as goal

known : (c : goal.In-Ok) → c.in-Ok.started.0.view ≡ keeper_gave (opening_keeper c.args.self.shape)
known c = search (arith, keeper_gave, fresh_keeper)

pub returns-in-Ok-clause-opens : goal.returns-in-Ok-clause-opens
returns-in-Ok-clause-opens c = search (arith, known, shows_opening, c.args.self.shape)
