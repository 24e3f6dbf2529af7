-- Numbers of waits begin anew: what is kept stays so, and there is always one left.
use Rattle.ob_store.proofs.Cited.{nat_tests, Wait, Id, Mode, IsLive, StoreInvariant, PartsState, state_of, whole_of, State, Whole, settled, ◌≡◌, ℕ, ◌+◌, Bool, true, false, cond, List, Option, Some, None, refl, arith, get_or, Err, thread_of, with_wait}
use Rattle.std.proofs.Common.{◌↔◌}
use Rattle.ob_waits.specs.Rules.{WaitsInvariant}
use Rattle.ob_waits.specs.Waits.{is_full, state_at, with_renewed}
use Rattle.ob_waits.proofs.RenewedLaws.{blocks_renewed, each_renewed, few_renewed, room_renewed, settled_renewed, slot_blocks_renewed}
use Rattle.std.specs.Prelude.{Result}
use Rattle.ob_rights.specs.declared.fault.Fault.{Fault}
use Rattle.ob_rights.specs.declared.fault.Fault.TheVariants.{Limit}
use Rattle.least.specs.From.{IsLeastFrom}
use Rattle.ob_waits.specs.declared.answer.Answer.{Answer}
use Rattle.ob_waits.specs.declared.wait.WaitState.TheVariants.{Answered}
use Rattle.ob_waits.specs.Answers.{answer_of, is_answered}
use Rattle.ob_waits.proofs.TrackedLaws.{number_is}
use Rattle.ob_store.specs.Waiting.{IsNextAnswered, are_waits_given, joined, list_of, opened, wait_number}
use Rattle.ob_store.proofs.PlacedLaws.{live_within}

abbrev pub with_opened : Bool → PartsState → PartsState
with_opened reuse p = record p { waits = opened reuse p.waits }

kept_renewed : (p : PartsState) → StoreInvariant p → StoreInvariant (record p { waits = with_renewed p.waits })
kept_renewed p kept =
    let waiters = λ (t : ℕ). each_renewed (λ w. thread_of w ≡ Some t → IsLive p.processes.threads t) p.waits.waits (λ h. absurd (cc h))
    (λ n. kept.sound.of_live.waiters n t) in
    search (arith, waiters, slot_blocks_renewed, blocks_renewed, room_renewed, settled_renewed)

pub kept_opened : (reuse : Bool) (p : PartsState) → StoreInvariant p → StoreInvariant (with_opened reuse p)
kept_opened reuse p kept = search (arith, kept_renewed)

-- what is told of the next answer
pub next_told : (s : State) (after : ℕ) (reuse : Bool) (a : Answer) → (reuse ≡ true → WaitsInvariant s.waits)
    → s.limits.reuse ≡ reuse
    → IsLeastFrom (wait_number s after + 1) (λ n. is_answered (get_or s.waits n None)) (Some a.wait)
    → answer_of a.wait (get_or s.waits a.wait None) ≡ Some a
    → IsNextAnswered s after (Some (record a { wait = cond reuse a.thread a.wait }))
next_told s after reuse a each is least told = record {
  number = Some a.wait;
  least = least;
  told = rw (told, is) refl;
  found = rw (called reuse each is) (stands_answered (get_or s.waits a.wait None) told);
}
  where
    thread_answered : (w : Option Wait) → answer_of a.wait w ≡ Some a → thread_of w ≡ Some a.thread
    thread_answered = search arith

    own : thread_of (get_or s.waits a.wait None) ≡ Some a.thread
    own = thread_answered _ told

    called : (reuse : Bool) → (reuse ≡ true → WaitsInvariant s.waits) → s.limits.reuse ≡ reuse
        → wait_number s (cond reuse a.thread a.wait) ≡ a.wait
    called true each is = rw (is, number_is s.waits a.thread a.wait own (λ m its. (each refl).one_each m a.wait a.thread its own)) refl
    called false each is = rw is refl

    stands_answered : (w : Option Wait) → answer_of a.wait w ≡ Some a → state_at w ≡ Some (Answered a.code)
    stands_answered = search arith

-- the waits of a store as those of its state
pub list_is : (p : PartsState) → StoreInvariant p → p.waits ≡ list_of (state_of p)
list_is p kept = search (arith, kept.sound.limited.waits_are)

pub opened_state : (reuse : Bool) (p : PartsState)
    → state_of (with_opened reuse p) ≡ record (state_of p) { waits = (opened reuse p.waits).waits }
opened_state = grind arith

-- a wait that comes to them comes to the state's
pub opened_joined : (p : PartsState) (t : ℕ) (mode : Mode) (ids : List Id) (d : Option ℕ) → StoreInvariant p
    → joined (state_of (with_opened p.limits.reuse p)) t mode ids d ≡ with_wait (state_of p) t mode ids d
opened_joined p t mode ids d kept = search (arith, opened_state, list_is)

pub opened_whole : (p : PartsState) (t : ℕ) (mode : Mode) (ids : List Id) (d : Option ℕ) → StoreInvariant p
    → ◌≡◌ {A = Whole} (record (whole_of (with_opened p.limits.reuse p)) {
      state = settled (joined (state_of (with_opened p.limits.reuse p)) t mode ids d);
    }) (record (whole_of p) { state = settled (with_wait (state_of p) t mode ids d) })
opened_whole p t mode ids d kept = search (arith, opened_joined)

-- no more waits aren't over than threads are live, so a number is left where they come back
pub never_full : (p : PartsState) → StoreInvariant p → WaitsInvariant p.waits.waits → p.limits.reuse ≡ true
    → is_full (with_renewed p.waits) ≡ false
never_full p kept each reuse =
    let few = few_renewed _ _ each (λ n t own. live_within _ t (kept.sound.of_live.waiters n t own)) in
    grind (arith, nat_tests, few, kept.sound.limited.waits_are, p.limits.in_range.threads_in_range.1)

has_room : (p : PartsState) → StoreInvariant p → WaitsInvariant p.waits.waits → p.limits.reuse ≡ true
    → is_full (opened true p.waits) ≡ false
has_room p kept each reuse = search (arith, never_full)

-- so 1450 is answered just where the state says so
pub limit_told : (p : PartsState) (result : Result ℕ Fault) → StoreInvariant p → WaitsInvariant p.waits.waits
    → (result ≡ Err Limit → is_full (opened p.limits.reuse p.waits) ≡ true)
    → (p.limits.reuse ≡ false → is_full p.waits ≡ true → result ≡ Err Limit)
    → (result ≡ Err Limit) ↔ (are_waits_given (state_of p) ≡ true)
limit_told p result kept each full once = grind (arith, list_is p kept, has_room p kept each)
