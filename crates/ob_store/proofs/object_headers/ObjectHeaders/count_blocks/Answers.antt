use Rattle.ob_store.proofs.Cited.{◌∙◌, refl, sym, tags_in, none_of}
use Rattle.ob_store.proofs.HeaderLaws.{places_blocks}
use Rattle.ob_store.proofs.NotedLaws.{noted_counts}
use Rattle.ob_store.proofs.SavedWaitLaws.{blocks_with_header, blocks_vacant}
use Rattle.ob_store.proofs.object_headers.ObjectHeaders.count_blocks.Goals as goal

pub returns-then-not-is_occupied : goal.returns-then-not-is_occupied
returns-then-not-is_occupied c =
    let i = c.self.inside in
    rw (← c.self.view_is) (blocks_vacant i.arena (tags_in i.labels.items i.names.items) c.args.slot c.args.waits.now.waits
    (none_of _ (sym c.is_occupied.ensures ∙ c.if-not-is_occupied.true)))

pub returns : goal.returns
returns c =
    let i = c.self.inside in
    rw (
      ← c.self.view_is,
      blocks_with_header i.arena (tags_in i.labels.items i.names.items) c.args.slot c.args.waits.now.waits _ c.get.ensures,
      ← c.blocks_of-blocks.ensures,
    ) (places_blocks _ _ _ c.get_mut.ensures.value _ _ _)

pub invariant_of-self : goal.invariant_of-self
invariant_of-self c = noted_counts _ _ _ _ _ _ _ c.self.invariant c.args.slot _ _ c.get_mut.ensures.value refl
