use Rattle.pin_words.proofs.Cited.{◌∙◌, ◌∷◌}
use Rattle.pin_words.proofs.Calls.{busy-looked, looked-more}
use Rattle.pin_words.proofs.reader.Reader.pin.Goals as goal

pub loop-preserved : goal.loop-preserved
loop-preserved g c = let lost = rw (c.in-Err-Busy.is, c.in-Err-Busy.field-0-is) at c.try_pin.ensures.tries in (
  c.try_pin.ensures.table ∙ c.loop.invariant.0,
  looked-more _ _ _ c.loop.invariant.1 (busy-looked _ _ c.args.id c.in-Err-Busy.field-0-0 lost),
  (c.loop.self.view ∷ c.loop.invariant.2.0, (c.loop.invariant.2.1, c.in-Err-Busy.field-0-0, lost)),
)
