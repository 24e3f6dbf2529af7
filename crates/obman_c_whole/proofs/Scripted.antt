-- What C is told of a script, by what a function knows of it.
use Rattle.std.proofs.Common.{◌≡◌, ℕ, List}
use Rattle.obman_c_base.specs.declared.limits.CLimits.{CLimits}
use Rattle.obman_c_base.specs.Allowed.{AreAllowed}
use Rattle.obman_c_whole.specs.Scripts as scripts

pub outside : {b : CLimits} {script : List ℕ} {status : ℕ} {room room' : List ℕ} {length length' : ℕ}
    → (AreAllowed b → ⊥) → status ≡ 87 → room' ≡ room → length' ≡ length
    → scripts.ScriptAnswered b script status room room' length length'
outside = scripts.outside

pub lacks : {b : CLimits} {script : List ℕ} {status : ℕ} {room room' : List ℕ} {length length' : ℕ} → AreAllowed b
    → status ≡ 8 → room' ≡ room → length' ≡ length → scripts.ScriptAnswered b script status room room' length length'
lacks = scripts.lacks
