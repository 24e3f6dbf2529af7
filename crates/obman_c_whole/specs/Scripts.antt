-- What C is told of a script.
use Rattle.std.specs.Prelude.{◌≡◌, ℕ, false, List}
use Rattle.ob_tables.specs.declared.limits.Limits.{Limits}
use Rattle.ob_console.specs.Runs.{AnswersAll}
use Rattle.obman_c_base.specs.declared.limits.CLimits.{CLimits}
use Rattle.obman_c_base.specs.Allowed.{AreAllowed, AreAs}
use Rattle.obman_c_whole.specs.Handing.{HandsOver}

-- The answers are what the program prints for the script without `--more`, over a new manager with these limits; or nothing changes, and
-- 87 is told where a limit is out of its range, else 8, for want of memory.
pub data ScriptAnswered (b : CLimits) (script : List ℕ) (status : ℕ) (room room' : List ℕ)
    (length length' : ℕ) : Type 0 where
  answers : (limits : Limits) → AreAs b limits → (output : List ℕ) → AnswersAll false limits script output
      → HandsOver output status room room' length' → ScriptAnswered b script status room room' length length'
  outside : (AreAllowed b → ⊥) → status ≡ 87 → room' ≡ room → length' ≡ length
      → ScriptAnswered b script status room room' length length'
  lacks : AreAllowed b → status ≡ 8 → room' ≡ room → length' ≡ length
      → ScriptAnswered b script status room room' length length'
