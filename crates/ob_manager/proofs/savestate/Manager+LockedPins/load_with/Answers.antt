use Rattle.std.proofs.lemmas.Result.{err_from_is_err_and}
use Rattle.ob_manager.proofs.SavestateLaws.{ends_wrong}
use Rattle.ob_manager.proofs.savestate.Manager+LockedPins.load_with.Goals as goal

pub returns-in_err-end-clause-gives : goal.returns-in_err-end-clause-gives
returns-in_err-end-clause-gives c =
    let p = err_from_is_err_and c.from_residual-in_err-end.result c.from_residual-in_err-end.ensures.1 in
    rw (
      p.1,
      p.2,
      c.in_ok-text.ensures.gives,
      ← c.new-from.ensures,
      c.in_ok-mark.ensures,
      c.in_ok-kept.ensures,
      c.in_ok-store.ensures,
    ) (ends_wrong _ _ _ c.in_err-end.ensures)
