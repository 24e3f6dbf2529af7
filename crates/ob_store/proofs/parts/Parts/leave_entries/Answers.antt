use Rattle.ob_store.proofs.Cited.{◌∙◌}
use Rattle.ob_store.proofs.parts.Parts.leave_entries.Goals as goal

pub loop-place-preserved : goal.loop-place-preserved
loop-place-preserved g c =
    let rest = c.loop-place.invariant.rest in
    record {
      sound = c.leave_at.ensures.sound;
      carries = λ first z ending. rw rest at (c.leave_at.ensures.carries first _ (c.loop-place.invariant.carries first z ending));
      rest = c.leave_at.ensures.rest ∙ (λ i. record (rest i) { objects = c.leave_at.new.self.objects; names = c.leave_at.new.self.names });
    }
