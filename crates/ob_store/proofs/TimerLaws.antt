-- The due moments of slots, while bodies change, and the least of them.
use Rattle.ob_store.proofs.Cited.{◌≡◌, ℕ, [], ◌∷◌, ◌<◌, List, length, Option, Some, None, refl, ap, ◌∙◌, sym, arith, get_or, set, map, Bool, true, false, cond, length-map, Body, slot_acquired, ObjectHeader, header_body, slot_is_due, IfSome, slot_due, header_due}
use Rattle.std.specs.Prelude.{IfNone}
use Rattle.std.proofs.lemmas.Bool.{leb-false}
use Rattle.least.specs.Dues.{is_by, IsLeast}
use Rattle.ob_body.specs.Timer.{after_fire}
use Rattle.ob_body.specs.TimerState.{TimerState}
use Rattle.ob_body.proofs.Periods.{fired_undue}
use Rattle.ob_waits.specs.Form.{IsAfter}
use Rattle.ob_store.specs.Timers.{due_left}
use Rattle.ob_store.proofs.HeaderLaws.{read, mapped_same, mapped_set, mapped_stays}

-- the least of the slots' is the least of the bodies'
dues_of_bodies : (xs : List (Option ObjectHeader)) → map header_due xs ≡ map slot_due (map header_body xs)
dues_of_bodies [] = refl
dues_of_bodies (x ∷ xs) = search (arith, dues_of_bodies xs)

pub least_of_bodies : (xs : List (Option ObjectHeader)) (dues : List (Option ℕ)) (least : Option ℕ)
    → dues ≡ map header_due xs → IsLeast dues least → IsLeast (map slot_due (map header_body xs)) least
least_of_bodies xs dues least timed is = search (arith, dues_of_bodies)

module _ (xs : List (Option ObjectHeader)) (dues : List (Option ℕ)) (k : ℕ) (timed : dues ≡ map header_due xs) where
  pub timed_within : k < length xs → k < length dues
  timed_within lt = search (arith, length-map)

  -- a body goes, or stays
  pub timed_left_at : (x y : ObjectHeader) (b : Bool) (o : Option Body) → get_or xs k None ≡ Some x → o ≡ cond b x.body None
      → y.body ≡ cond b None x.body → due_left dues k (slot_due o) ≡ map header_due (set xs k (Some y))
  timed_left_at = search (arith, mapped_set, mapped_stays)

  -- an object without a body leaves
  pub timed_removed : get_or (map header_body xs) k None ≡ None → dues ≡ map header_due (set xs k None)
  timed_removed ended = mapped_same header_due xs dues k None timed (ap slot_due (sym ended ∙ read header_body xs k))

  -- a vacant slot has no timer
  pub timed_vacant : get_or xs k None ≡ None → get_or dues k None ≡ None
  timed_vacant none = (λ i. get_or (timed i) k None) ∙ read header_due xs k ∙ ap header_due none

  due_of_slot : get_or dues k None ≡ slot_due (get_or (map header_body xs) k None)
  due_of_slot = search (arith, read)

-- who acquires it leaves a timer's due moment
pub due_taken : (u : ℕ) (x : Option Body) → slot_due (slot_acquired u x) ≡ slot_due x
due_taken = search arith

-- what is known of due moments is known of the bodies
pub some_due : (now : ℕ) (xs : List (Option ObjectHeader)) (dues : List (Option ℕ)) (r : Option ℕ)
    → dues ≡ map header_due xs
    → IfSome r (λ slot. is_by now (get_or dues slot None) ≡ true)
    → IfSome r (λ slot. slot_is_due now (get_or (map header_body xs) slot None) ≡ true)
some_due = search (arith, read)

pub none_due_slot : (now : ℕ) (xs : List (Option ObjectHeader)) (dues : List (Option ℕ)) (r : Option ℕ)
    → dues ≡ map header_due xs → IfNone r ((k : ℕ) → is_by now (get_or dues k None) ≡ false)
    → IfNone r ((k : ℕ) → slot_is_due now (get_or (map header_body xs) k None) ≡ false)
none_due_slot now xs dues None timed h = λ k. grind (arith, due_of_slot xs dues k timed, h k)
none_due_slot now xs dues (Some slot) timed h = tt

-- a timer that fires is due after now, if at all
pub fired_later : (now : ℕ) (t : TimerState) → IsAfter now (after_fire now t).due
fired_later now t = search (arith, leb-false, fired_undue)
