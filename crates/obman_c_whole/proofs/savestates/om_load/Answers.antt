use Rattle.std.proofs.Common.{◌≡◌, ◌∙◌, Err, Some, ap, refl, subst}
use Rattle.ob_codec.specs.declared.fault.ReadFault.{ReadFault}
use Rattle.ob_codec.specs.declared.fault.TextFault.{TextFault}
use Rattle.ob_codec.specs.Reading.{Fails}
use Rattle.ob_codec.specs.Sealing.{unsealed}
use Rattle.ob_rights.specs.Fault.{code_of}
use Rattle.ob_manager.specs.Savestates.{load_with}
use Rattle.obman_c_base.specs.declared.owned.OwnedManager.{OwnedManager}
use Rattle.obman_c_whole.specs.Savestates.{lacks, loads, wrong}
use Rattle.obman_c_whole.proofs.Loading.{known, of_loaded}
use Rattle.obman_c_whole.proofs.savestates.om_load.Goals as goal

-- the manager of the box is at the place
pub returns-in-Ok-held : goal.returns-in-Ok-held
returns-in-Ok-held c =
    let new = c.in-Ok-held.ensures.loaded in
    loads c.in-Ok.manager c.in-Ok.kept new.0 c.in-Ok.ensures.gives refl
    (c.of.ensures ∙ ap (λ (held : OwnedManager). Some held) new.1)

pub returns-in-Err-Text : goal.returns-in-Err-Text
returns-in-Err-Text c =
    wrong c.in-Err-Text.field-0-0
    (subst (λ (fault : ReadFault). Fails fault (load_with c.args.bytes.now)) c.in-Err-Text.field-0-is
    c.in-Err-Text.ensures.gives) refl refl

pub returns-in-Err : goal.returns-in-Err
returns-in-Err c =
    lacks (of_loaded c.args.bytes.now c.in-Ok.manager c.in-Ok.kept c.in-Ok.ensures.gives)
    (c.code_of.ensures ∙ ap code_of c.in-Err.ensures.memory) refl

pub returns-in-Err-Memory : goal.returns-in-Err-Memory
returns-in-Err-Memory c =
    let never : (fault : TextFault) → unsealed c.args.bytes.now ≡ Err fault → ⊥ =
    λ fault wrong. let told = c.in-Err-Memory.ensures.digest fault wrong in cc in
    lacks (known c.args.bytes.now never) c.code_of-in-Err-Memory.ensures refl
