-- Bodies are read as they were spelled.
use Rattle.std.proofs.lemmas.Bool.Decides.{nat_tests}
use Rattle.std.proofs.Common.{◌≡◌, ℕ, zero, suc, Bool, true, false, cond, List, ◌++◌, Ok, refl, eqb, arith}
use Rattle.std.specs.Int.{w64, to_le_bytes}
use Rattle.std.proofs.lemmas.Bool.{eqb-true}
use Rattle.std.proofs.lemmas.Option.{cond_some}
use Rattle.ob_codec.specs.Codecs.{as_codec, both_codec, flag_codec, form_takes, option_codec, some_codec, tagged_codec, u32_codec, u64_codec}
use Rattle.ob_codec.specs.Laws.{IsCodec, Takes}
use Rattle.ob_codec.specs.Reading.{Read, as_at}
use Rattle.ob_codec.specs.Spelling.{AreBytes, both, flag, option}
use Rattle.ob_codec.specs.Steps.{bind_ok, ok_is}
use Rattle.ob_body.specs.declared.body.Body.{Body}
use Rattle.ob_body.specs.declared.body.Body.TheVariants.{Event, Mutex, Semaphore, Timer, Host}
use Rattle.ob_body.specs.TimerState.{TimerState}
use Rattle.ob_body.specs.Spelling.{BodyFits, EventFits, HostFits, MutexFits, SemaphoreFits, TimerFits, body_at, body_in, body_text, event_at, event_of, event_parts, event_text, host_at, host_of, host_parts, host_text, PartsFit, mutex_at, mutex_of, mutex_parts, mutex_text, parts_text, semaphore_at, semaphore_of, semaphore_parts, semaphore_text, tag_of, parts_at, periodic_at, periodic_of, periodic_parts, periodic_text, timer_at, timer_of, timer_parts, timer_text}

pub event_codec : IsCodec event_text event_at EventFits
event_codec = as_codec event_of event_parts (λ _. refl) (λ _. refl) (both_codec flag_codec flag_codec)

pub host_codec : IsCodec host_text host_at HostFits
host_codec = some_codec host_of host_parts HostFits (λ h fits. grind (arith, nat_tests, fits))
    (λ p h fits e. grind (arith, nat_tests, cond_some)) (both_codec u32_codec event_codec)

parts_codec : IsCodec (both flag (both flag (option (to_le_bytes w64)))) parts_at PartsFit
parts_codec = both_codec flag_codec (both_codec flag_codec (option_codec u64_codec))

-- a timer without a period
abbrev OnceFits : TimerState → Type 0
OnceFits t = TimerFits t × (t.period ≡ 0)

once_codec : IsCodec timer_text timer_at OnceFits
once_codec = some_codec (timer_of 0) timer_parts OnceFits (λ t fits. search arith)
    (λ p t fits e. grind (arith, nat_tests, cond_some)) parts_codec

-- a timer with one
abbrev AgainFits : TimerState → Type 0
AgainFits t = TimerFits t × (eqb t.period 0 ≡ false)

again_codec : IsCodec periodic_text periodic_at AgainFits
again_codec = some_codec periodic_of periodic_parts AgainFits (λ t fits. search arith)
    (λ p t fits e. grind (arith, nat_tests, cond_some)) (both_codec parts_codec u32_codec)

pub semaphore_codec : IsCodec semaphore_text semaphore_at SemaphoreFits
semaphore_codec = some_codec semaphore_of semaphore_parts SemaphoreFits
    (λ s fits. grind (arith, nat_tests, fits.above_zero, fits.within, fits.countable))
    (λ p s fits e. grind (arith, nat_tests, cond_some)) (both_codec u32_codec u32_codec)

pub mutex_codec : IsCodec mutex_text mutex_at MutexFits
mutex_codec = some_codec mutex_of mutex_parts MutexFits (λ m fits. grind (arith, nat_tests, fits))
    (λ p m fits e. grind (arith, nat_tests, cond_some))
    (both_codec (option_codec u32_codec) (both_codec u32_codec flag_codec))

-- a timer is read by its tag
timer-again : (d : TimerState) (rest : List ℕ) → TimerFits d
    → body_in (tag_of (Timer d)) (parts_text (Timer d) ++ rest) ≡ Ok (Timer d, rest)
unfolding body_in
timer-again d rest fits = by (eqb d.period 0) refl
  where
    by : (b : Bool) → eqb d.period 0 ≡ b
        → body_in (cond b 3 5) (cond b (timer_text d) (periodic_text d) ++ rest) ≡ Ok (Timer d, rest)
    by true none = search (arith, nat_tests, once_codec.again d rest, eqb-true)
    by false some = search (arith, again_codec.again d rest)

timer-takes : {spell : TimerState → List ℕ} {read : List ℕ → Read TimerState} {Fits : TimerState → Type 0}
    → IsCodec spell read Fits → (t : ℕ)
    → ((d : TimerState) → Fits d → TimerFits d × (parts_text (Timer d) ≡ spell d) × (tag_of (Timer d) ≡ t))
    → (bytes : List ℕ) (x : Body) (rest : List ℕ) → AreBytes bytes → as_at Timer read bytes ≡ Ok (x, rest)
    → Takes bytes (parts_text x) rest × BodyFits x × (tag_of x ≡ t)
timer-takes {read = read} is t of bytes x rest fits e =
    let b = bind_ok (read bytes) (λ (y : TimerState × List ℕ). Ok (Timer y.0, y.1)) (x, rest) e in
    let k = is.takes bytes b.0.0 b.0.1 fits b.1 in
    search (arith, ok_is, of b.0.0 k.1)

one-again : (t : ℕ) (x : Body) (rest : List ℕ) → tag_of x ≡ t → BodyFits x
    → body_in t (parts_text x ++ rest) ≡ Ok (x, rest)
unfolding body_in
one-again t (Event e) rest is fits = search (arith, event_codec.again)
one-again t (Mutex m) rest is fits = search (arith, mutex_codec.again)
one-again t (Semaphore s) rest is fits = search (arith, semaphore_codec.again)
one-again t (Timer d) rest is fits = search (arith, timer-again)
one-again t (Host h) rest is fits = search (arith, host_codec.again)

one-takes : (t : ℕ) (bytes : List ℕ) (x : Body) (rest : List ℕ) → AreBytes bytes → body_in t bytes ≡ Ok (x, rest)
    → Takes bytes (parts_text x) rest × BodyFits x × (tag_of x ≡ t)
unfolding body_in
one-takes zero = form_takes _ _ _ event_codec 0 Event (λ _. refl) (λ _ fits. fits) (λ _. refl)
one-takes (suc zero) = form_takes _ _ _ mutex_codec 1 Mutex (λ _. refl) (λ _ fits. fits) (λ _. refl)
one-takes (suc (suc zero)) = form_takes _ _ _ semaphore_codec 2 Semaphore (λ _. refl) (λ _ fits. fits) (λ _. refl)
one-takes (suc (suc (suc zero))) = timer-takes once_codec 3 (search arith)
one-takes (suc (suc (suc (suc zero)))) = form_takes _ _ _ host_codec 4 Host (λ _. refl) (λ _ fits. fits) (λ _. refl)
one-takes (suc (suc (suc (suc (suc zero))))) = timer-takes again_codec 5 (search arith)
one-takes (suc (suc (suc (suc (suc (suc t)))))) = λ bytes x rest fits e. absurd cc

pub body_codec : IsCodec body_text body_at BodyFits
body_codec = tagged_codec tag_of parts_text body_in BodyFits (λ t. record { again = one-again t; takes = one-takes t })
