use Rattle.ob_store.proofs.Cited.{◌∙◌, None, sym, get_or, set-get_or}
use Rattle.ob_store.proofs.EnoughLaws.{enough_added}
use Rattle.ob_store.proofs.OneByOne.{one_before}
use Rattle.ob_store.proofs.OwnerLaws.{left_by_other, left_twice}
use Rattle.ob_store.proofs.ending.abandon_at.Goals as goal

pub returns-then-abandon_at-clause-seen : goal.returns-then-abandon_at-clause-seen
returns-then-abandon_at-clause-seen g c = one_before _ (left_twice c.args.thread) _ _ _ c.abandon_at.ensures.seen

pub returns-then-abandon_at-clause-enough : goal.returns-then-abandon_at-clause-enough
returns-then-abandon_at-clause-enough g c = enough_added _ _ _ _ _ _ c.abandon_at.ensures.seen c.add.ensures.added c.add.ensures.before

pub returns-else-abandon_at-clause-enough : goal.returns-else-abandon_at-clause-enough
returns-else-abandon_at-clause-enough g c =
    let same = left_by_other c.args.thread (get_or c.args.objects.now.seen.bodies c.args.slot None) (sym c.abandon_at.ensures.owned ∙ c.if-abandon_at.false) in
    λ waits enough. rw (c.abandon_at.ensures.seen, same, set-get_or) enough
