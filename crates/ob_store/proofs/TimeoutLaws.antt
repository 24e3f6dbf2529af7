-- Waits whose time is up are answered one after another, and the state settles behind each: that is the same as all at
-- once.
use Rattle.ob_store.proofs.Cited.{nat_tests, ◌≡◌, ℕ, ◌<◌, ◌≤◌, List, Option, None, refl, ap, arith, get_or, map, true, false, inl, inr, count_by, get_or_past, Body, Wait, is_overdue, ended, CountedBodies, IsSettled, Scene, IsNamed, State, objects_of, settled, timed_out, slot_is_due, AreLeft, settled_less}
use Rattle.ob_waits.specs.Deadlines as waits_time
use Rattle.ob_waits.specs.Waits as waits
use Rattle.ob_waits.proofs.Counted.{blocks_answered}
use Rattle.ob_waits.proofs.EndsLast.{ended_at, length-ended}
use Rattle.ob_waits.proofs.TimedOutLaws.{blocks_lapsed, ended_twice, fewer_overdue, lapsed_twice, none_lapsed, settled_lapsed, slot_lapsed}
use Rattle.ob_waits.proofs.Settled.{settled_answered}
use Rattle.ob_waits.proofs.Staying.{settled_form}
use Rattle.ob_store.specs.Waiting.{with_answer}
use Rattle.ob_store.proofs.BySlot.{get_by_slot, length-by_slot}
use Rattle.ob_store.proofs.LeftLaws.{less_gone}
use Rattle.ob_store.proofs.SettledLaws.{settled_ends}

ended_left : (o : CountedBodies) → AreLeft o.bodies (ended o).bodies
ended_left o = search (arith, ended_at, length-ended)

-- where no wait is ready, what is to end alone ends
by_ends : (s : State) → IsNamed s.objects s.tables s.waits → IsSettled s.bodies s.waits
    → settled s ≡ record s { bodies = (ended (objects_of s)).bodies }
by_ends s named quiet = settled_ends s _ named refl (settled_less _ _ _ (less_gone _ _ (ended_left _)) quiet)

-- one wait is answered before the others
module _ (s : State) (now n : ℕ) (named : IsNamed s.objects s.tables s.waits) (quiet : IsSettled s.bodies s.waits)
    (over : is_overdue now (get_or s.waits n None) ≡ true) where
  abbrev one : State
  one = with_answer s n 258

  abbrev all : State
  all = timed_out now s

  one_named : IsNamed s.objects s.tables one.waits
  one_named = search (arith, blocks_answered)

  all_named : IsNamed s.objects s.tables all.waits
  all_named = search (arith, blocks_lapsed)

  all_quiet : IsSettled s.bodies all.waits
  all_quiet = settled_lapsed s.bodies now s.waits quiet

  -- the bodies once the objects ended that no wait but the others' refers to
  abbrev left : List (Option Body)
  left = (ended (objects_of one)).bodies

  one_is : settled one ≡ record one { bodies = left }
  one_is = search (arith, by_ends, one_named, settled_answered)

  same_waits : map (waits_time.timed_out now) one.waits ≡ map (waits_time.timed_out now) s.waits
  same_waits = lapsed_twice now s.waits n over

  -- and then of the others
  abbrev others : State
  others = record all { bodies = left }

  others_are : timed_out now (settled one) ≡ others
  others_are = search (arith, one_is, lapsed_twice)

  fewer_blocks : (k : ℕ) → get_or (objects_of all).blocks k 0 ≤ get_or (objects_of one).blocks k 0
  fewer_blocks k = grind (arith, nat_tests, get_by_slot, slot_lapsed k now one.waits, same_waits, get_or_past, length-by_slot)

  others_quiet : IsSettled left all.waits
  others_quiet = settled_less s.bodies left all.waits (less_gone s.bodies left (ended_left (objects_of one))) all_quiet

  pub time_out_step : settled (timed_out now (settled (with_answer s n 258))) ≡ settled (timed_out now s)
  time_out_step =
      let bodies : ended (objects_of others) ≡ ended (objects_of all) = ended_twice _ _ fewer_blocks in
      cc (others_are, by_ends others all_named others_quiet, bodies, by_ends all all_named all_quiet)

  -- no timer becomes due by it
  pub undue_step : ((k : ℕ) → slot_is_due now (get_or s.bodies k None) ≡ false) → (k : ℕ)
      → slot_is_due now (get_or (settled (with_answer s n 258)).bodies k None) ≡ false
  undue_step undue k =
      rw (ap (λ (t : State). get_or t.bodies k None) one_is)
      (elim ((ended_left (objects_of one)).each k) [ inl same ↦ rw same (undue k) | inr none ↦ rw none refl ])

  -- and one wait fewer is overdue
  pub fewer_step : count_by (is_overdue now) (settled (with_answer s n 258)).waits < count_by (is_overdue now) s.waits
  fewer_step = search (arith, one_is, fewer_overdue)

-- where no time is up, the clock alone goes on
pub time_out_last : (s : State) (now : ℕ) → settled s ≡ s → ((n : ℕ) → is_overdue now (get_or s.waits n None) ≡ false)
    → record s { clock = now } ≡ settled (timed_out now s)
time_out_last s now still none = search (arith, none_lapsed)

-- settling makes no timer due
pub undue_settled : (first : Scene) (after : CountedBodies) (ws' : List (Option Wait)) (now : ℕ)
    → ◌≡◌ {A = Scene} (record { objects = after; waits = ws' }) (waits.settled first)
    → ((k : ℕ) → slot_is_due now (get_or first.objects.bodies k None) ≡ false) → (k : ℕ)
    → slot_is_due now (get_or after.bodies k None) ≡ false
undue_settled first after ws' now value undue k = grind (arith, nat_tests, settled_form first k, undue k)
