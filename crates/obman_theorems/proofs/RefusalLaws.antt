-- Each refusal is one of the call's own, or for want of memory, and what it leaves.
use Rattle.std.proofs.Common.{arith, ◌≡◌, ℕ, Bool, true, false, List, [], ◌∷◌, Option, Some, None, Result, Ok, Err, refl, ap, sym, subst, cond, get_or, is_ok}
use Rattle.std.specs.Prelude.{ℤ, ◌⊎◌, ◌&&◌}
use Rattle.pin_core.specs.declared.id.Id.{Id}
use Rattle.ob_rights.specs.declared.fault.Fault.{Fault}
use Rattle.ob_rights.specs.declared.fault.Fault.TheVariants as fault
use Rattle.ob_rights.specs.declared.kind.Kind.{Kind}
use Rattle.ob_rights.specs.declared.rights.Rights.{Rights}
use Rattle.ob_tables.specs.declared.entry.Entry.{Entry}
use Rattle.ob_body.specs.declared.body.Body.{Body}
use Rattle.ob_body.specs.declared.body.Body.TheVariants.{Event, Mutex, Semaphore}
use Rattle.ob_body.specs.Body.{post_answer, unlock_answer}
use Rattle.ob_name.specs.Names.{ObjectName}
use Rattle.ob_name.specs.Texts.{checked_base, name_of, split_name}
use Rattle.ob_store.specs.Objects.{Object, opened}
use Rattle.ob_store.specs.State.{State, Whole, settled, without_entry}
use Rattle.ob_store.specs.Moves.{OnlyCloses}
use Rattle.ob_manager.specs.Calls.{Call}
use Rattle.ob_manager.specs.declared.call.CallOf.TheVariants as calls
use Rattle.ob_manager.specs.Makings.{Making}
use Rattle.ob_manager.specs.declared.creating.New.{New}
use Rattle.ob_manager.specs.declared.reply.Reply.{Reply}
use Rattle.ob_manager.specs.declared.reply.Reply.TheVariants as reply
use Rattle.ob_manager.specs.Outcomes.{Outcome, ◌>>=◌, or_refuse, refuse_if}
use Rattle.ob_manager.specs.Checks.{caller, found, if_kind}
use Rattle.ob_manager.specs.Signaling.{host_of, if_host, modified}
use Rattle.ob_manager.specs.Creating.{create, created, name_in, named_object, new_event, new_handle, new_host, new_mutex, new_object, new_semaphore, new_timer, own_name, room_for, semaphore_of}
use Rattle.ob_manager.specs.Copying.{admitted, asked_rights, copied_to, copy_rights, is_stuck, is_wrong, leaves, with_source, without_source}
use Rattle.ob_manager.specs.Reaping.{if_ended}
use Rattle.ob_manager.specs.Waiting.{after_signal, all_found, deadline_in, objects_of, pending, satisfied, shown, told_at, unsatisfied, wait_on}
use Rattle.ob_manager.specs.declared.waiting.Timeout.{Timeout}
use Rattle.ob_waits.specs.declared.wait.Mode.{Mode}
use Rattle.ob_waits.specs.declared.wait.WaitState.{WaitState}
use Rattle.ob_manager.specs.Steps.{Step, does, closes, lacks, final, outcome_of, takes_memory}
use Rattle.obman_theorems.specs.Refusals.{IsAmong, refusals_of}
use Rattle.obman_theorems.specs.Theorems.{ClosesSource, IsRefused}

-- whether a part of a call refuses with these alone
abbrev Within : {A : Type 0} → List Fault → Result A Fault → Type 0
Within fs (Ok x) = Unit {0}
Within fs (Err e) = IsAmong fs e

-- and a call, which leaves a state of which this holds where its reply is a refusal
abbrev SaysOf : List Fault → (State → Type 0) → State → Reply → Type 0
SaysOf fs Q s (reply.Refused e) = IsAmong fs e × Q s
SaysOf fs Q s r = Unit {0}

abbrev Says : List Fault → (State → Type 0) → Result Outcome Fault → Type 0
Says fs Q (Ok o) = SaysOf fs Q o.state o.reply
Says fs Q (Err e) = IsAmong fs e

then_within : {A B : Type 0} (fs : List Fault) (r : Result A Fault) (f : A → Result B Fault) → Within fs r
    → ((x : A) → Within fs (f x)) → Within fs (r >>= f)
then_within fs (Ok x) f h k = k x
then_within fs (Err e) f h k = h

andThen : {A : Type 0} (fs : List Fault) (Q : State → Type 0) (r : Result A Fault) (f : A → Result Outcome Fault)
    → Within fs r → ((x : A) → Says fs Q (f x)) → Says fs Q (r >>= f)
andThen fs Q (Ok x) f h k = k x
andThen fs Q (Err e) f h k = h

refuse_within : (fs : List Fault) (b : Bool) (e : Fault) → IsAmong fs e → Within fs (refuse_if b e)
refuse_within fs b e h = search arith

or_within : {A : Type 0} (fs : List Fault) (x : Option A) (e : Fault) → IsAmong fs e → Within fs (or_refuse x e)
or_within fs x e h = search arith

caller_within : (fs : List Fault) (s : State) (t : ℕ) → IsAmong fs fault.Parameter → IsAmong fs fault.Busy
    → Within fs (caller s t)
caller_within fs s t h k = search (then_within, refuse_within, or_within)

found_within : (fs : List Fault) (s : State) (p h : ℕ) → IsAmong fs fault.Handle → Within fs (found s p h)
found_within fs s p h k = or_within fs _ fault.Handle k

kind_within : (fs : List Fault) (k : Kind) (b : Option Body) → IsAmong fs fault.Handle → Within fs (if_kind k b)
kind_within fs k b h = grind arith

host_within : (fs : List Fault) (b : Option Body) → IsAmong fs fault.Handle → Within fs (if_host b)
host_within fs b k = grind arith

host_of_within : (fs : List Fault) (s : State) (id : Id) → IsAmong fs fault.Handle → Within fs (host_of s id)
host_of_within fs s id k = search (then_within, or_within, host_within)

modified_within : (fs : List Fault) (s : State) (t h : ℕ) (k : Kind) → IsAmong fs fault.Parameter
    → IsAmong fs fault.Busy → IsAmong fs fault.Handle → IsAmong fs fault.Access → Within fs (modified s t h k)
modified_within fs s t h k p b there may = search (then_within, caller_within, found_within, kind_within, refuse_within)

post_within : (fs : List Fault) (n : ℕ) (b : Body) → IsAmong fs fault.Handle → IsAmong fs fault.Posts
    → Within fs (post_answer n b)
post_within fs n b h k = grind arith

unlock_within : (fs : List Fault) (t : ℕ) (b : Body) → IsAmong fs fault.Handle → IsAmong fs fault.NotOwner
    → Within fs (unlock_answer t b)
unlock_within fs t b h k = grind arith

base_within : (fs : List Fault) (name : ObjectName) → IsAmong fs fault.Parameter → IsAmong fs fault.NamePath
    → Within fs (checked_base name)
base_within fs name h k = grind arith

text_within : (fs : List Fault) (text : List ℕ) (session : ℕ) → IsAmong fs fault.Parameter → IsAmong fs fault.NameLong
    → IsAmong fs fault.NamePath → Within fs (name_of text session)
text_within fs text session h l k = grind (arith, base_within fs (split_name text session))

name_within : (fs : List Fault) (s : State) (p : ℕ) (text : List ℕ) → IsAmong fs fault.Parameter
    → IsAmong fs fault.NameLong → IsAmong fs fault.NamePath → Within fs (name_in s p text)
name_within fs s p text h l k = search (then_within, or_within, text_within)

own_within : (fs : List Fault) (s : State) (p : ℕ) (name : Option (List ℕ)) → IsAmong fs fault.Parameter
    → IsAmong fs fault.NameLong → IsAmong fs fault.NamePath → Within fs (own_name s p name)
own_within fs s p name h l k = grind (arith, then_within, name_within fs s p)

handle_within : (fs : List Fault) (s : State) (p : ℕ) (id : Id) (k : Kind) (asked : Rights) (inherit : Bool)
    → IsAmong fs fault.Handle → IsAmong fs fault.Access → IsAmong fs fault.Limit
    → Within fs (new_handle s p id k asked inherit)
handle_within fs s p id k asked inherit h a l = search (then_within, or_within, kind_within, refuse_within)

room_within : (fs : List Fault) (s : State) (p : ℕ) (m : Making) (k : Kind) → IsAmong fs fault.Access
    → IsAmong fs fault.Limit → Within fs (room_for s p m k)
room_within fs s p m k a l = search (then_within, or_within, refuse_within)

object_says : (fs : List Fault) (s : State) (p : ℕ) (m : Making) (new : New) (name : Option ObjectName)
    → IsAmong fs fault.Access → IsAmong fs fault.Limit → Says fs (λ t. ⊥) (new_object s p m new name)
object_says fs s p m new name a l = search (andThen, room_within)

named_says : (fs : List Fault) (s : State) (p : ℕ) (m : Making) (new : New) (name : ObjectName) (id : Option Id)
    → IsAmong fs fault.Handle → IsAmong fs fault.Access → IsAmong fs fault.Limit
    → Says fs (λ t. ⊥) (named_object s p m new name id)
named_says fs s p m new name None h a l = object_says fs s p m new (Some name) a l
named_says fs s p m new name (Some id) h a l = search (arith, andThen, handle_within)

created_says : (fs : List Fault) (s : State) (p : ℕ) (m : Making) (new : New) (name : Option ObjectName)
    → IsAmong fs fault.Handle → IsAmong fs fault.Access → IsAmong fs fault.Limit
    → Says fs (λ t. ⊥) (created s p m new name)
created_says fs s p m new name h a l = grind (arith, object_says, named_says)

-- what a create may be refused with
abbrev create_refusals : List Fault
create_refusals =
    fault.Parameter ∷ fault.Busy ∷ fault.NameLong ∷ fault.NamePath ∷ fault.Handle ∷ fault.Access ∷ fault.Limit ∷ []

create_says : (s : State) (t : ℕ) (m : Making) (what : Result New Fault) → Within create_refusals what
    → Says create_refusals (λ t. ⊥) (create s t m what)
create_says s t m what h = search (andThen, caller_within, refuse_within, own_within, created_says)

counts_within : (initial most : ℕ) → Within create_refusals (semaphore_of initial most)
counts_within initial most = grind arith

semaphore_within : (initial max : ℤ) → Within create_refusals (new_semaphore initial max)
semaphore_within initial max = search (then_within, or_within, counts_within)

ended_within : (fs : List Fault) (o : Option Object) (b : Option Body) → IsAmong fs fault.Handle
    → Within fs (if_ended o b)
ended_within fs o b h = grind arith

all_within : (fs : List Fault) (s : State) (p : ℕ) (handles : List ℕ) → IsAmong fs fault.Handle
    → Within fs (all_found s p handles)
all_within fs s p [] k = tt
all_within fs s p (h ∷ hs) k = search (arith, then_within, found_within, all_within fs s p hs)

objects_within : (fs : List Fault) (s : State) (p : ℕ) (handles : List ℕ) → IsAmong fs fault.Handle
    → IsAmong fs fault.Access → Within fs (objects_of s p handles)
objects_within fs s p handles h a = search (then_within, all_within, refuse_within)

unsatisfied_says : (fs : List Fault) (s : State) (t : ℕ) (mode : Mode) (timeout : Timeout) (ids : List Id)
    → IsAmong fs fault.Limit → Says fs (λ t. ⊥) (unsatisfied s t mode timeout ids)
unsatisfied_says fs s t mode timeout ids l =
    let becomes : Says fs (λ t. ⊥) (pending s t mode (deadline_in s.clock timeout) ids) = search (andThen, refuse_within) in
    grind (arith, becomes)

wait_says : (fs : List Fault) (s : State) (t : ℕ) (mode : Mode) (timeout : Timeout) (ids : List Id)
    → IsAmong fs fault.Parameter → IsAmong fs fault.Limit → Says fs (λ t. ⊥) (wait_on s t mode timeout ids)
wait_says fs s t mode timeout ids p l = search (andThen, refuse_within, ready_says)
  where
    ready_says : (b : Bool) → Says fs (λ t. ⊥) (cond b (satisfied s t mode ids) (unsatisfied s t mode timeout ids))
    ready_says true = tt
    ready_says false = unsatisfied_says fs s t mode timeout ids l

shown_says : (fs : List Fault) (s : State) (n : ℕ) (stands : WaitState)
    → SaysOf fs (λ t. ⊥) (shown s n stands).state (shown s n stands).reply
shown_says fs s n stands = grind arith

-- a signal with a wait
abbrev meeting_refusals : List Fault
meeting_refusals = fault.Parameter ∷ fault.Busy ∷ fault.Handle ∷ fault.Access ∷ fault.Posts ∷ fault.NotOwner ∷ fault.Limit
    ∷ []

signal_within : (t : ℕ) (e : Entry) (b : Option Body) → Within meeting_refusals (after_signal t e b)
signal_within t e (Some (Event x)) = search (then_within, refuse_within)
signal_within t e (Some (Semaphore x)) = search (then_within, refuse_within, post_within)
signal_within t e (Some (Mutex x)) = search (then_within, unlock_within)
signal_within t e b = refl

told_says : (fs : List Fault) (s : State) (name : ℕ) (stands : Option WaitState)
    → SaysOf fs (λ t. ⊥) s (told_at name stands)
told_says fs s name stands = grind arith

-- a duplicate

abbrev copy_refusals : List Fault
copy_refusals = fault.Parameter ∷ fault.Busy ∷ fault.Handle ∷ fault.Access ∷ fault.Limit ∷ []

asked_within : (e : Entry) (mask : Rights) (o : Option Object) → Within copy_refusals (asked_rights e mask o)
asked_within e mask o = grind arith

rights_within : (s : State) (e : Entry) (mask : Rights) (options : ℕ)
    → Within copy_refusals (copy_rights s e mask options)
rights_within s e mask options = grind (arith, asked_within e mask)

admitted_within : (s : State) (e : Entry) (target : ℕ) (mask : Rights) (options : ℕ)
    → Within copy_refusals (admitted s e target mask options)
admitted_within s e target mask options = search (then_within, or_within, rights_within, refuse_within)

copied_says : (s : State) (e : Entry) (target : Option ℕ) (mask : Rights) (inherit : Bool) (options : ℕ)
    → Says copy_refusals (λ t. ⊥) (copied_to s e target mask inherit options)
copied_says s e None mask inherit options = tt
copied_says s e (Some target) mask inherit options = search (arith, andThen, admitted_within)

-- a reply that is no refusal says nothing
no_refusal : (fs : List Fault) (Q : State → Type 0) (s t : State) (r : Reply) → SaysOf fs (λ t. ⊥) s r → SaysOf fs Q t r
no_refusal fs Q s t r h = grind arith

both : (a b : Bool) → (a && b) ≡ true → a ≡ true
both a b h = grind arith

closed_says : (c : Bool) (s : State) (source handle : ℕ) (Q : State → Type 0) (r : Result Outcome Fault)
    → Says copy_refusals (λ t. ⊥) r → (c ≡ true → Q (settled (without_entry s source handle)))
    → Says copy_refusals Q (cond c (Ok (without_source s source handle r)) (with_source r))
closed_says c s source handle Q r h q = grind (arith, no_refusal)

outcome_says : (s : State) (call : Call) (r : Reply)
    → Says (refusals_of call) (ClosesSource s call) (outcome_of s call r)
outcome_says s (calls.MakeEvent t m manual set) r = create_says s t m (Ok (new_event manual set)) tt
outcome_says s (calls.MakeMutex t m owned) r = create_says s t m (Ok (new_mutex t owned)) tt
outcome_says s (calls.MakeSemaphore t m initial max) r =
    create_says s t m (new_semaphore initial max) (semaphore_within initial max)
outcome_says s (calls.MakeTimer t m manual) r = create_says s t m (Ok (new_timer manual)) tt
outcome_says s (calls.MakeHost t m object_type manual signaled) r =
    create_says s t m (Ok (new_host object_type manual signaled)) tt
outcome_says s (calls.Duplicate t source h target mask inherit options) r =
    let call : Call = calls.Duplicate t source h target mask inherit options in
    andThen copy_refusals (ClosesSource s call) (caller s t) _ (caller_within copy_refusals s t refl refl)
    (λ p. andThen copy_refusals (ClosesSource s call)
    (or_refuse (get_or s.processes source None) fault.Parameter) _
    (or_within copy_refusals _ fault.Parameter refl) (λ session.
    andThen copy_refusals (ClosesSource s call) (refuse_if (is_wrong options target) fault.Parameter) _
    (refuse_within copy_refusals _ fault.Parameter refl)
    (λ tested. andThen copy_refusals (ClosesSource s call) (found s source h) _
    (found_within copy_refusals s source h refl) (λ e.
    andThen copy_refusals (ClosesSource s call) (refuse_if (is_stuck target e) fault.Handle) _
    (refuse_within copy_refusals _ fault.Handle refl)
    (λ free. closed_says (leaves options e) s source h (ClosesSource s call)
    (copied_to s e target mask inherit options)
    (copied_says s e target mask inherit options) (λ q. (both _ _ q, refl)))))))
outcome_says s (calls.ReleaseSemaphore t h count) r =
    search (andThen, caller_within, or_within, found_within, kind_within, refuse_within, post_within) depth 8
outcome_says s (calls.SignalAndWait t signal timeout h) r =
    search (andThen, caller_within, found_within, refuse_within, signal_within, told_says) depth 8
outcome_says s call r =
    search (
      andThen,
      modified_within,
      caller_within,
      found_within,
      kind_within,
      refuse_within,
      or_within,
      unlock_within,
      host_of_within,
      name_within,
      handle_within,
      objects_within,
      wait_says,
      shown_says,
      ended_within,
    )

-- no call has 8 among its own
no_memory : (call : Call) → IsAmong (refusals_of call) fault.Memory → ⊥
no_memory (calls.Spawn session) h = cc (h)
no_memory call h = cc (h)

abbrev IsOwn : List Fault → Reply → Type 0
IsOwn fs (reply.Refused e) = IsAmong fs e
IsOwn fs r = Unit {0}

same_whole : (a b : Whole) → a.state ≡ b.state → a.keeper ≡ b.keeper → a ≡ b
same_whole a b s k = λ i. record { state = s i; keeper = k i }

-- what a refusal that the model gives says and leaves
said : (w v : Whole) (call : Call) (e : Fault) (r : Result Outcome Fault)
    → Says (refusals_of call) (ClosesSource w.state call) r
    → final w.state r ≡ record { reply = reply.Refused e; state = v.state } → OnlyCloses w.keeper v.keeper
    → (is_ok r ≡ false → v.keeper ≡ w.keeper)
    → IsAmong (refusals_of call) e
    × ((v ≡ w) ⊎ (ClosesSource w.state call v.state × OnlyCloses w.keeper v.keeper))
said w v call e r says is only same = grind (arith, same_whole)

abbrev IsMemory : Reply → Type 0
IsMemory (reply.Refused f) = f ≡ fault.Memory
IsMemory r = Unit {0}

-- one of some, and so one of more
among_more : (more e : Fault) (fs : List Fault) → IsAmong fs e → IsAmong (more ∷ fs) e
among_more more e fs among = grind arith

-- a refusal of the call's own
own : (w v : Whole) (call : Call) (e : Fault) → IsAmong (refusals_of call) e
    → (v ≡ w) ⊎ (ClosesSource w.state call v.state × OnlyCloses w.keeper v.keeper) → IsRefused w call e v
own w v call e among leaves = record {
  own = among_more fault.Memory e (refusals_of call) among;
  memory = λ lack. absurd (no_memory call (search arith));
  leaves = leaves;
}

-- a refusal for want of memory
lack : (w v : Whole) (call : Call) (e : Fault) → e ≡ fault.Memory → takes_memory w.state call ≡ true → v ≡ w
    → IsRefused w call e v
lack w v call e is takes same = search arith

pub refused : (w v : Whole) (call : Call) (e : Fault) → Step w call (reply.Refused e) v → IsRefused w call e v
refused w v call e (does is keeps) =
    let told = said w v call e (outcome_of w.state call (reply.Refused e))
    (outcome_says w.state call (reply.Refused e)) is (ap opened keeps) (λ _. keeps) in
    own w v call e told.0 told.1
refused w v call e (closes duplicates is only) =
    let told = said w v call e (outcome_of w.state call (reply.Refused e))
    (outcome_says w.state call (reply.Refused e)) (ap (final w.state) is) only (λ no. absurd (cc (is, no))) in
    own w v call e told.0 told.1
refused w v call e (lacks takes ok is same) = lack w v call e (subst IsMemory (sym is) refl) takes same
