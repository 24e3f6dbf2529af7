use Rattle.std.proofs.Common.{ap, arith, Option, refl}
use Rattle.ob_codec.specs.Reading.{given_at}
use Rattle.ob_tables.specs.declared.limits.Limits.{Limits}
use Rattle.ob_tables.specs.SavedLimitLaws.{both_said, limits_are, limits_none}
use Rattle.ob_tables.proofs.limits.LimitsSpelled.read.Goals as goal

pub returns-in-Ok : goal.returns-in-Ok
returns-in-Ok c =
    let e = c.in-Ok.ensures in
    let pins = both_said c.in_ok-pins.pins (let range = c.four-6.type_inv in omega arith) in
    let last = both_said c.in_ok-last.last (let range = c.four-8.type_inv in omega arith) in
    let l = c.in-Ok.limits in
    let are = limits_are c.with_repeats.result
    (l.slots, (l.processes, (l.threads, (l.handles, (l.waits, (c.in_ok-pins.pins, (l.max_gen, c.in_ok-last.last)))))))
    (rw (c.with_repeats.ensures, c.with_reuse.ensures, e.max_recursion, e.max_pins, pins, last) refl) in
    rw (
      c.in_ok-slots.ensures,
      c.in_ok-processes.ensures,
      c.in_ok-threads.ensures,
      c.in_ok-handles.ensures,
      c.in_ok-waits.ensures,
      c.in_ok-pins.ensures,
      c.in_ok-max_gen.ensures,
      c.in_ok-last.ensures,
      ← e.slots,
      ← e.processes,
      ← e.threads,
      ← e.handles,
      ← e.waits,
      ← e.max_gen,
    ) (ap (λ (o : Option Limits). given_at o c.four-8.new.self) are)

pub returns-in-Err : goal.returns-in-Err
returns-in-Err c =
    rw (
      c.in_ok-slots.ensures,
      c.in_ok-processes.ensures,
      c.in_ok-threads.ensures,
      c.in_ok-handles.ensures,
      c.in_ok-waits.ensures,
      c.in_ok-pins.ensures,
      c.in_ok-max_gen.ensures,
      c.in_ok-last.ensures,
    )
    (ap (λ (o : Option Limits). given_at o c.four-8.new.self) (limits_none _ (λ r. c.in-Err.ensures.in_range.1 r)))
