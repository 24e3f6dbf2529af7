-- What a call comes to: a reply and the state after it, or a refusal. Each call has one definition: a line for each
-- refusal in the order of the tests, then the reply and the settled state.
use Rattle.std.specs.Prelude.{◌≡◌, Bool, true, false, Option, Some, None, Result, Ok, Err, is_ok}
use Rattle.ob_rights.specs.declared.fault.Fault.{Fault}
use Rattle.ob_rights.specs.declared.fault.Fault.TheVariants as fault
use Rattle.ob_manager.specs.declared.reply.Reply.{Reply}
use Rattle.ob_store.specs.State.{State}

-- a reply, and the state after it
pub record Outcome : Type 0 where
  pub reply : Reply
  pub state : State

-- the value, or the refusal that came before
infixl 10 ◌>>=◌
abbrev pub ◌>>=◌ : {A B : Type 0} → Result A Fault → (A → Result B Fault) → Result B Fault
(Ok x) >>= f = f x
(Err e) >>= f = Err e

-- what is there, or the refusal
abbrev pub or_refuse : {A : Type 0} → Option A → Fault → Result A Fault
or_refuse None e = Err e
or_refuse (Some x) e = Ok x

-- refused where the test holds
abbrev pub refuse_if : Bool → Fault → Result (Unit {0}) Fault
refuse_if true e = Err e
refuse_if false e = Ok tt

-- what a refusal says of what the model has: want of memory, that it refuses nothing; any other, that it refuses just
-- so
abbrev pub Refuses : {A : Type 0} → Fault → Result A Fault → Type 0
Refuses fault.Memory r = is_ok r ≡ true
Refuses fault.Parameter r = r ≡ Err fault.Parameter
Refuses fault.Busy r = r ≡ Err fault.Busy
Refuses fault.NameLong r = r ≡ Err fault.NameLong
Refuses fault.NamePath r = r ≡ Err fault.NamePath
Refuses fault.Handle r = r ≡ Err fault.Handle
Refuses fault.Access r = r ≡ Err fault.Access
Refuses fault.NotFound r = r ≡ Err fault.NotFound
Refuses fault.NotOwner r = r ≡ Err fault.NotOwner
Refuses fault.Posts r = r ≡ Err fault.Posts
Refuses fault.Limit r = r ≡ Err fault.Limit
