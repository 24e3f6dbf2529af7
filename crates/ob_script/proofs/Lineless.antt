-- A call without a line is refused, and changes nothing.
use Rattle.ob_script.proofs.Cited.{◌≡◌, ℕ, arith, refl, sym, List, [], ◌∷◌, length, Bool, true, false, not, ◌&&◌, Option, Some, None, Result, Ok, Err, nat_lt, is_ok, true≢false, inl, inr, list_all, cases_lt, false_from_ne_true, length-map, Call, Reply, Fits, name_words, line_of}
use Rattle.ob_rights.specs.declared.fault.Fault.{Fault}
use Rattle.ob_name.specs.Texts.{is_printable}
use Rattle.ob_store.specs.State.{State, Whole}
use Rattle.ob_manager.specs.declared.call.CallOf.TheVariants as calls
use Rattle.ob_manager.specs.declared.reply.Reply.TheVariants.{Refused}
use Rattle.ob_manager.specs.Outcomes.{Outcome, ◌>>=◌}
use Rattle.ob_manager.specs.Creating.{name_in, own_name}
use Rattle.ob_manager.specs.Steps.{Step, does, closes as closes_source, lacks, KeeperAfter, final, outcome_of}
use Rattle.ob_script.proofs.Short.{AreShort, no_feed, have_line, number_short, handles_short, make_short, least, wide, words_short, make_few}

-- a chain of tests fails where its first part does, and where all that follows does
first_fails : {A B : Type 0} (r : Result A Fault) (f : A → Result B Fault) → is_ok r ≡ false → is_ok (r >>= f) ≡ false
first_fails r f fails = search arith

rest_fails : {A B : Type 0} (r : Result A Fault) (f : A → Result B Fault) → ((x : A) → is_ok (f x) ≡ false)
    → is_ok (r >>= f) ≡ false
rest_fails r f fails = search arith

-- a name that is no word of a line is none of an object
abbrev is_nameable : Option (List ℕ) → Bool
is_nameable None = true
is_nameable (Some text) = not (nat_lt 260 (length text)) && list_all no_feed text

unprintable : (text : List ℕ) → list_all no_feed text ≡ false → list_all is_printable text ≡ false
unprintable [] is = absurd (true≢false is)
unprintable (byte ∷ bytes) is = search (arith, unprintable bytes)

nameless : (s : State) (process : ℕ) (text : List ℕ) → is_nameable (Some text) ≡ false
    → is_ok (name_in s process text) ≡ false
nameless s process text is = search (arith, unprintable)

own_fails : (s : State) (process : ℕ) (name : Option (List ℕ)) → is_nameable name ≡ false
    → is_ok (own_name s process name) ≡ false
own_fails s process name is = search (arith, first_fails, nameless)

-- one that is has its place there
name_short : (name : Option (List ℕ)) → is_nameable name ≡ true → AreShort 260 (name_words name)
name_short name is = search arith

-- the name in a call
abbrev named : Call → Option (List ℕ)
named (calls.MakeEvent thread make manual set) = make.name
named (calls.MakeMutex thread make owned) = make.name
named (calls.MakeSemaphore thread make initial max) = make.name
named (calls.MakeTimer thread make manual) = make.name
named (calls.MakeHost thread make object_type manual signaled) = make.name
named (calls.OpenNamed thread kind mask inherit text) = Some text
named call = None

-- whichever call it is
fails : (s : State) (call : Call) (reply : Reply) → Fits call → line_of call ≡ None
    → is_ok (outcome_of s call reply) ≡ false
fails s (calls.Duplicate thread source handle target mask inherit options) reply fits none =
    let more : nat_lt options 4 ≡ false = false_from_ne_true _ (λ few.
    have_line 22 (calls.Duplicate thread source handle target mask inherit options) few
    (search (arith, words_short) depth 12) (search arith) none) in search arith
fails s (calls.Tick now) reply fits none = search (arith, number_short)
fails s (calls.WaitFor thread mode timeout handles) reply fits none = elim (cases_lt 64 (length handles)) [
  | inl many ↦ search arith
  | inr few ↦
      absurd (have_line 22 (calls.WaitFor thread mode timeout handles) refl
      (search (arith, words_short, handles_short 22 least handles fits.2) depth 12) (search (arith, length-map)) none)
]
fails s call reply fits none =
    let bad = false_from_ne_true (is_nameable (named call)) (λ is. let name = name_short (named call) is in
    have_line 260 call refl (search (arith, words_short, make_short 260 wide) depth 12) (search (arith, make_few)) none) in
    first_of (cc, search (arith, rest_fails, first_fails, own_fails, nameless) depth 7)

-- what refuses leaves all as it was
refused_of : (w v : Whole) (reply : Reply) (r : Result Outcome Fault) → is_ok r ≡ false
    → final w.state r ≡ record { reply = reply; state = v.state } → KeeperAfter reply v.state w.keeper v.keeper
    → (v ≡ w) × (fault : Fault) × (reply ≡ Refused fault)
refused_of w v reply (Ok outcome) bad is keeps = absurd (true≢false bad)
refused_of w v reply (Err e) bad is keeps =
    let kept : v.keeper ≡ w.keeper = search arith in
    (λ i. record { state = (sym is i).state; keeper = kept i }, e, λ i. (sym is i).reply)

pub lineless_is_refused : (w v : Whole) (call : Call) (reply : Reply) → Fits call → line_of call ≡ None
    → Step w call reply v → (v ≡ w) × (fault : Fault) × (reply ≡ Refused fault)
lineless_is_refused w v call reply fits none (does is keeps) =
    refused_of w v reply (outcome_of w.state call reply) (fails w.state call reply fits none) is keeps
lineless_is_refused w v call reply fits none (closes_source is gives only) = absurd (cc (fails w.state call reply fits none))
lineless_is_refused w v call reply fits none (lacks takes ok is same) = absurd (cc (fails w.state call reply fits none))
