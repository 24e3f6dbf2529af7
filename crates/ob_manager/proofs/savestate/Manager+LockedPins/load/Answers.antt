use Rattle.std.proofs.Common.{◌∙◌, sym}
use Rattle.std.proofs.lemmas.Result.{err_from_is_err_and}
use Rattle.ob_manager.proofs.SavestateLaws.{ends_wrong}
use Rattle.ob_manager.proofs.savestate.Manager+LockedPins.load.Goals as goal

pub returns-in_err-end : goal.returns-in_err-end
returns-in_err-end c =
    let p = err_from_is_err_and c.from_residual-in_err-end.result c.from_residual-in_err-end.ensures.1 in
    rw (p.1, p.2) (record {
      gives = rw (
        c.in_ok-text.ensures.gives,
        ← c.new-from.ensures,
        c.in_ok-_mark.ensures,
        c.in_ok-store.ensures,
      ) (ends_wrong _ _ _ c.in_err-end.ensures);
      digest = λ fault wrong. let no = sym c.in_ok-text.ensures.gives ∙ wrong in cc;
    })
