use Rattle.std.proofs.Common.{[], sym, ◌∙◌}
use Rattle.std.proofs.lemmas.List.{append_assoc}
use Rattle.std.proofs.lemmas.Result.{IfOk-weaker}
use Rattle.std.specs.Int.{w64, to_le_bytes}
use Rattle.ob_store.specs.SavedStore.{store_text}
use Rattle.ob_manager.specs.HostData.{data_text}
use Rattle.ob_manager.specs.Savestates.{data_mark}
use Rattle.ob_manager.proofs.SavestateLaws.{empty_is, kept_again, plain_loads}
use Rattle.ob_manager.proofs.manager.Manager.save_with.Goals as goal

pub returns-then-is_empty-clause-again : goal.returns-then-is_empty-clause-again
returns-then-is_empty-clause-again g c =
    rw (empty_is c.args.kept.now (sym c.is_empty.ensures ∙ c.if-is_empty.true)) (IfOk-weaker c.save.result _ _
    (λ bytes again. plain_loads bytes.items _ again) c.save.ensures.again)

pub returns-clause-saved : goal.returns-clause-saved
returns-clause-saved g c = rw (
  ← c.self.view_is,
  sym c.is_empty.ensures ∙ c.if-is_empty.false,
  c.in_ok-seal.ensures,
  c.in_ok-write-3.ensures.text,
  c.in_ok-write-2.ensures.text,
  c.in_ok-write.ensures.text,
  c.new-bytes.ensures.items,
  append_assoc (to_le_bytes w64 data_mark) (data_text c.args.kept.now) (store_text c.self.inside.store),
)

pub returns-clause-again : goal.returns-clause-again
returns-clause-again g c =
    let some = sym c.is_empty.ensures ∙ c.if-is_empty.false in
    rw (returns-clause-saved g c, ← c.self.view_is, some) (kept_again c.args.kept.now c.self.inside.store
    c.in_ok-write-2.ensures.fits some (c.in_ok-write-3.ensures.again []))
