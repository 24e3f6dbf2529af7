-- What C is told of a slot that is to be taken back.
use Rattle.std.specs.Prelude.{◌≡◌, ◌+◌, ◌<◌, ◌≤◌, ℕ, List, Some, None, drop, take, length}
use Rattle.least.specs.From.{IsLeastFrom}
use Rattle.pin_core.specs.declared.id.Id.{Id}
use Rattle.pin_words.specs.declared.pin_keeper.Reclaim.{Reclaim}
use Rattle.ob_store.specs.Closing.{is_closing_at}
use Rattle.ob_manager.specs.declared.call.CallOf.TheVariants as calls
use Rattle.ob_manager.specs.declared.reply.Reply.TheVariants.{Reaped}
use Rattle.obman_c_base.specs.declared.owned.OwnedManager.{OwnedManager}
use Rattle.obman_c.specs.declared.values.Reaping.{Reaping}
use Rattle.obman_c.specs.Chains.{Chain}
use Rattle.obman_c.specs.Telling.{reaping_in}
use Rattle.obman_c_base.specs.Made.{Makes}

-- the least slot, from one on, whose object has ended is reaped; the next is looked for behind it
pub record ReapsNext (old : ℕ × OwnedManager) (told : Reaping) (new : ℕ × OwnedManager) : Type 0 where
  pub id : Id
  pub outcome : Reclaim
  pub least : IsLeastFrom old.0 (is_closing_at old.1.manager.state) (Some id.slot)
  pub made : Makes old.1 (calls.Reap id.slot) (Reaped id outcome) new.1
  pub value : told ≡ reaping_in (Reaped id outcome) told
  pub next : new.0 ≡ id.slot + 1

-- and so on from slot 0, as far as there are any and places for them: so many are told at the front of the list, whose
-- rest stays
pub record ReapsAll (old : OwnedManager) (before : List Reaping) (count : ℕ) (new : OwnedManager)
    (after : List Reaping) : Type 0 where
  pub from : ℕ
  pub reaped : Chain ReapsNext (0, old) (take count after) (from, new)
  pub rest : drop count after ≡ drop count before
  pub within : count ≤ length before
  pub all : count < length before → IsLeastFrom from (is_closing_at new.manager.state) None
