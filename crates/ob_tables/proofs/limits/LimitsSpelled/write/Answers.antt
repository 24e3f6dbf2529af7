use Rattle.std.specs.Int.{w32, to_le_bytes}
use Rattle.std.proofs.lemmas.Result.{on_ok_weaker}
use Rattle.ob_tables.specs.Limits.{flagged}
use Rattle.ob_codec.proofs.SavingLaws.{eight_behind}
use Rattle.ob_tables.proofs.limits.LimitsSpelled.write.Goals as goal

pub returns-clause-text : goal.returns-clause-text
returns-clause-text c = let l = c.args.self.now in on_ok_weaker c.write-8.result (λ t. eight_behind c.args.out.now.items
    (to_le_bytes w32 l.slots) (to_le_bytes w32 l.processes) (to_le_bytes w32 l.threads) (to_le_bytes w32 l.handles)
    (to_le_bytes w32 l.waits) (to_le_bytes w32 (flagged l.max_pins l.repeats)) (to_le_bytes w32 l.max_gen)
    (to_le_bytes w32 (flagged l.max_recursion l.reuse))
    c.write.new.out.items c.write-2.new.out.items c.write-3.new.out.items c.write-4.new.out.items
    c.write-5.new.out.items c.write-6.new.out.items c.write-7.new.out.items c.write-8.new.out.items
    c.in_ok-write.ensures.text c.in_ok-write-2.ensures.text c.in_ok-write-3.ensures.text c.in_ok-write-4.ensures.text
    c.in_ok-write-5.ensures.text (rw c.flagged.ensures at c.in_ok-write-6.ensures.text)
    c.in_ok-write-7.ensures.text t) (rw c.flagged-2.ensures at c.write-8.ensures.text)
