-- What a walk found, as C is told of it.
use Rattle.std.proofs.Common.{◌≡◌, ◌+◌, ℕ, Bool, false, List, length, Option, Some, IfSome, arith}
use Rattle.std.specs.Option.{option_map}
use Rattle.least.specs.Dues.{IsLeast}
use Rattle.least.specs.From.{IsLeastFrom}
use Rattle.pin_core.specs.declared.id.Id.{Id}
use Rattle.ob_tables.specs.declared.entry.Entry.{Entry}
use Rattle.ob_tables.specs.Table.{entry_at}
use Rattle.ob_tables.specs.Tables.{table_of}
use Rattle.ob_waits.specs.declared.wait.Mode.{Mode}
use Rattle.ob_waits.specs.declared.wait.Wait.{Wait}
use Rattle.ob_waits.specs.Waits.{is_pending, new_wait}
use Rattle.ob_store.specs.Dues.{dues_of}
use Rattle.ob_store.specs.Kept.{IsThere}
use Rattle.ob_store.specs.State.{State}
use Rattle.ob_store.specs.Walking.{is_object_at, is_value_of}
use Rattle.obman_c.specs.declared.looking.HandleEntry.{HandleEntry}
use Rattle.obman_c.specs.declared.values.Object.{Object}
use Rattle.obman_c.specs.Asking.{number_at}
use Rattle.obman_c.specs.Looking.{IdsTell, NextDue, NextHandle, NextObject, WaitPlaces, WaitTells, Walks, handle_entry, or_zero, pending_wait}
use Rattle.obman_c.specs.Telling.{object_of}

pub object_next : {s : State} {from status : ℕ} {before after : Object} (found : Option Id)
    → IsLeastFrom from (is_object_at s) (option_map (λ (id : Id). id.slot) found)
    → IfSome found (λ id. IsThere s.objects id) → Walks object_of found status before after
    → NextObject s from status before after
object_next found least object told = record { found = found; least = least; object = object; told = told }

pub handle_next : {s : State} {process behind status : ℕ} {before after : HandleEntry} (found : Option (ℕ × Entry))
    → IsLeastFrom (behind + 1) (is_value_of s process) (option_map (λ (handle : ℕ × Entry). handle.0) found)
    → IfSome found (λ handle. entry_at (table_of s.tables process) handle.0 ≡ Some handle.1)
    → Walks handle_entry found status before after
    → NextHandle s process behind status before after
handle_next found least entry told = record { found = found; least = least; entry = entry; told = told }

pub due_next : {s : State} {status before after : ℕ} {found : Option ℕ} → IsLeast (dues_of s) found
    → Walks (λ moment. moment) found status before after
    → NextDue s status before after
due_next {found = found} least told = record { found = found; least = least; told = told }

-- a number from 1 on is told as it is, and none as 0
pub numbered : (from : ℕ) {number : ℕ} {test : ℕ → Bool} (found : Option ℕ) → number ≡ or_zero found
    → IsLeastFrom (from + 1) test found
    → IsLeastFrom (from + 1) test (number_at number)
numbered from found told least = grind arith

-- a wait that is pending is told with its objects
pub waited : {wait : Option Wait} {status thread : ℕ} {mode : Mode} {ids : List Id} {deadline : Option ℕ}
    (before : WaitPlaces) {after : WaitPlaces} → wait ≡ Some (new_wait thread mode ids deadline)
    → after.pending ≡ pending_wait thread mode deadline → after.count ≡ length ids
    → IdsTell ids status before.objects after.objects → WaitTells wait status before after
waited before is value many told = rw is (value, many, told)

-- no other is told
pub unwaited : (wait : Option Wait) {status : ℕ} {before after : WaitPlaces} → is_pending wait ≡ false → status ≡ 87
    → after ≡ before → WaitTells wait status before after
unwaited wait none told same = search arith
