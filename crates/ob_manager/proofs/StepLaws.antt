-- The model never refuses for want of memory, so what a reply says of a step is unambiguous; and no call changes the
-- limits.
use Rattle.std.proofs.Common.{◌≡◌, ℕ, zero, suc, Bool, false, List, [], ◌∷◌, Option, Result, Ok, refl, arith, cond}
use Rattle.std.specs.Prelude.{ℤ}
use Rattle.pin_core.specs.declared.id.Id.{Id}
use Rattle.ob_rights.specs.declared.fault.Fault.{Fault}
use Rattle.ob_rights.specs.declared.kind.Kind.{Kind}
use Rattle.ob_rights.specs.declared.rights.Rights.{Rights}
use Rattle.ob_tables.specs.declared.entry.Entry.{Entry}
use Rattle.ob_tables.specs.declared.limits.Limits.{Limits}
use Rattle.ob_body.specs.declared.body.Body.{Body}
use Rattle.ob_name.specs.Names.{ObjectName}
use Rattle.ob_store.specs.Ends.{threads_ended}
use Rattle.ob_store.specs.State.{State, Whole}
use Rattle.ob_manager.specs.Calls.{Call}
use Rattle.ob_manager.specs.declared.call.CallOf.TheVariants as calls
use Rattle.ob_manager.specs.Makings.{Making}
use Rattle.ob_manager.specs.declared.creating.New.{New}
use Rattle.ob_manager.specs.declared.reply.Reply.{Reply}
use Rattle.ob_manager.specs.declared.waiting.Timeout.{Timeout}
use Rattle.ob_manager.specs.Outcomes.{Outcome, ◌>>=◌, or_refuse, refuse_if}
use Rattle.ob_manager.specs.Checks.{caller}
use Rattle.ob_manager.specs.Creating.{create, created, name_in, new_handle, new_object, new_semaphore, own_name}
use Rattle.ob_manager.specs.Waiting.{after_signal, all_found, give_and_wait}
use Rattle.ob_manager.specs.Steps.{Step, final, is_lack, is_memory, next, outcome_of}
use Rattle.ob_manager.proofs.Refusing.{text_wants, wants}

-- parts of calls, none of which refuses for want of memory
then_wants : {A B : Type 0} (r : Result A Fault) (f : A → Result B Fault) → wants r ≡ false
    → ((x : A) → wants (f x) ≡ false) → wants (r >>= f) ≡ false
then_wants r f h k = search arith

refuse_wants : (b : Bool) (e : Fault) → is_memory e ≡ false → wants (refuse_if b e) ≡ false
refuse_wants b e h = grind arith

or_wants : {A : Type 0} (x : Option A) (e : Fault) → is_memory e ≡ false → wants (or_refuse x e) ≡ false
or_wants x e h = grind arith

signal_wants : (t : ℕ) (e : Entry) (b : Option Body) → wants (after_signal t e b) ≡ false
signal_wants t e b = grind arith

semaphore_wants : (initial max : ℤ) → wants (new_semaphore initial max) ≡ false
semaphore_wants initial max = grind arith

all_wants : (s : State) (p : ℕ) (handles : List ℕ) → wants (all_found s p handles) ≡ false
all_wants s p [] = refl
all_wants s p (h ∷ hs) = grind (arith, all_wants s p hs)

-- whether a reply is for want of memory, and the limits behind it
abbrev told : Outcome → Bool × Limits
told o = (is_lack o.reply, o.state.limits)

cond_limits : (b : Bool) (s t : State) (l : Limits) → s.limits ≡ l → t.limits ≡ l → (cond b s t).limits ≡ l
cond_limits b s t l h k = grind arith

threads_limits : (s : State) (p n : ℕ) → (threads_ended s p n).limits ≡ s.limits
threads_limits s p zero = refl
threads_limits s p (suc n) = search (cond_limits, threads_limits s p n)

module _ (s : State) where
  caller_wants : (t : ℕ) → wants (caller s t) ≡ false
  caller_wants t = grind arith

  name_wants : (p : ℕ) (text : List ℕ) → wants (name_in s p text) ≡ false
  name_wants p text = grind (arith, text_wants)

  own_wants : (p : ℕ) (name : Option (List ℕ)) → wants (own_name s p name) ≡ false
  own_wants p name = search (arith, then_wants, name_wants)

  -- what a call comes to isn't for want of memory, and leaves the limits
  abbrev IsFair : Result Outcome Fault → Type 0
  IsFair r = told (final s r) ≡ (false, s.limits)

  fair_then : {A : Type 0} (r : Result A Fault) (f : A → Result Outcome Fault) → wants r ≡ false
      → ((x : A) → IsFair (f x)) → IsFair (r >>= f)
  fair_then r f h k = search arith

  handle_fair : (p : ℕ) (id : Id) (k : Kind) (asked : Rights) (inherit : Bool) (reply : Reply) → is_lack reply ≡ false
      → IsFair (new_handle s p id k asked inherit >>= λ after. Ok (record { reply = reply; state = after }))
  handle_fair p id k asked inherit reply h = grind arith

  object_fair : (p : ℕ) (m : Making) (new : New) (name : Option ObjectName) → IsFair (new_object s p m new name)
  object_fair p m new name = grind arith

  created_fair : (p : ℕ) (m : Making) (new : New) (name : Option ObjectName) → IsFair (created s p m new name)
  created_fair p m new name = grind (arith, object_fair p m new, handle_fair p)

  given_fair : (t : ℕ) (timeout : Timeout) (waited signaled : Id) (after : Body)
      → IsFair (give_and_wait s t timeout waited signaled after)
  given_fair t timeout waited signaled after = grind arith

  create_fair : (t : ℕ) (m : Making) (what : Result New Fault) → wants what ≡ false → IsFair (create s t m what)
  create_fair t m what h = search (fair_then, caller_wants, refuse_wants, own_wants, created_fair)

  outcome_fair : (call : Call) (reply : Reply) → IsFair (outcome_of s call reply)
  outcome_fair (calls.OpenNamed t k mask inherit text) reply =
      search (fair_then, caller_wants, name_wants, or_wants, handle_fair)
  outcome_fair (calls.SignalAndWait t signal timeout h) reply =
      search (fair_then, caller_wants, or_wants, refuse_wants, signal_wants, given_fair) depth 8
  outcome_fair call reply = grind (arith, all_wants s, threads_limits, create_fair, semaphore_wants)

-- what a step says that isn't for want of memory
pub said : (w v : Whole) (call : Call) (reply : Reply)
    → final w.state (outcome_of w.state call reply) ≡ record { reply = reply; state = v.state }
    → (is_lack reply ≡ false) × (v.state.limits ≡ w.state.limits)
said w v call reply is = grind (arith, outcome_fair w.state call reply)

-- the state that a call comes to
pub step_next : (w v : Whole) (call : Call) (reply : Reply) → Step w call reply v → v.state ≡ next w.state call reply
step_next w v call reply step = grind (arith, said w v call reply)
