use Rattle.std.proofs.Common.{rules, ◌≡◌, ◌+◌, Err, sym, ◌∙◌, arith}
use Rattle.std.proofs.lemmas.List.{take_all}
use Rattle.pin_core.specs.declared.event.Event.TheVariants.{Load}
use Rattle.pin_core.specs.declared.event.ReplayFault.TheVariants.{Refused}
use Rattle.pin_core.specs.Worlds.{opening_of}
use Rattle.pin_core.specs.Events.{IsSchedule}
use Rattle.pin_core.proofs.Schedules.{one-more, first-refused, as-refused, refused-once, never-refused}
use Rattle.pin_core.proofs.schedule.replay.Goals as goal

pub returns-in-Some-clause-possible : goal.returns-in-Some-clause-possible
returns-in-Some-clause-possible c _ =
    let here = first-refused (opening_of c.args.shape) c.loop-i.world c.args.events.now c.loop-i.i
    (Load 0 0) c.in-Some.reason (search rules) c.loop-i.invariant (sym c.refusal.ensures ∙ c.in-Some.is) in
    ((λ ok. cc), (λ h. absurd (never-refused _ _ _ _ h here)))

pub returns-in-Some-clause-refused : goal.returns-in-Some-clause-refused
returns-in-Some-clause-refused c _ n r =
    let here = first-refused (opening_of c.args.shape) c.loop-i.world c.args.events.now c.loop-i.i
    (Load 0 0) c.in-Some.reason (search rules) c.loop-i.invariant (sym c.refusal.ensures ∙ c.in-Some.is) in (
      (λ e. let a : c.loop-i.i + 1 ≡ n = cc in let b : c.in-Some.reason ≡ r = cc in as-refused _ _ _ _ _ _ a b here),
      (λ f. let same = refused-once _ _ _ _ _ _ here f in λ k. Err (Refused (same.0 k) (same.1 k))),
    )

pub returns-clause-refused : goal.returns-clause-refused
returns-clause-refused c _ n r = let whole : IsSchedule (opening_of c.args.shape) c.args.events.now =
    search (arith, take_all) in
    ((λ e. cc), (λ f. absurd (never-refused _ _ _ _ whole f)))

pub loop-i-preserved : goal.loop-i-preserved
loop-i-preserved c = one-more (opening_of c.args.shape) c.loop-i.world c.enact.new.self c.args.events.now c.loop-i.i
    (Load 0 0) (search rules) c.loop-i.invariant (search arith) c.in-Ok-enact.ensures.ok
