-- How a manager comes to be at a place, by what a function knows of it.
use Rattle.std.proofs.Common.{◌≡◌, ℕ, Bool, Option}
use Rattle.obman_c_base.specs.declared.owned.OwnedManager.{OwnedManager}
use Rattle.obman_c_base.specs.declared.limits.CLimits.{CLimits}
use Rattle.ob_tables.specs.declared.limits.Limits.{Limits}
use Rattle.obman_c_base.specs.Allowed.{AreAllowed, AreAs}
use Rattle.obman_c.specs.Opening.{Opens, outside, lacks}

pub out_of_range : {reuse repeats : Bool} {b : CLimits} {status : ℕ} {before after : Option OwnedManager}
    → (AreAllowed b → ⊥) → status ≡ 87 → after ≡ before → Opens reuse repeats b status before after
out_of_range = outside

pub no_memory : {reuse repeats : Bool} {b : CLimits} {status : ℕ} {before after : Option OwnedManager} → AreAllowed b
    → status ≡ 8 → after ≡ before → Opens reuse repeats b status before after
no_memory = lacks

-- limits are as C gave them, whatever the manager does beside
pub same_but_ways : {b : CLimits} {limits : Limits} (reuse repeats : Bool) → AreAs b limits
    → AreAs b (record limits { reuse = reuse; repeats = repeats })
same_but_ways reuse repeats are = assumption
