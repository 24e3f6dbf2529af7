-- Waits are read as they were spelled.
use Rattle.std.proofs.lemmas.Bool.Decides.{nat_tests}
use Rattle.std.proofs.Common.{◌≡◌, ℕ, zero, suc, ◌<◌, not, true, false, eqb, leb, List, [], ◌∷◌, ◌++◌, length, Option, Some, None, Ok, ap, arith, refl}
use Rattle.std.specs.List.{AllByRecursion, IsDistinct, list_any}
use Rattle.std.proofs.lemmas.Map.Steps.{length-le_from_distinct_below}
use Rattle.ob_codec.specs.Codecs.{as_codec, both_codec, form_takes, list_codec, option_codec, tagged_codec, u32_codec, u64_codec, where_codec}
use Rattle.ob_codec.specs.Laws.{IsCodec, Takes}
use Rattle.ob_codec.specs.Reading.{Read, where_at}
use Rattle.ob_codec.specs.Sparse.{SparseFewFit, entries_from, sparse_at}
use Rattle.ob_codec.specs.SparseLaws.{sparse_codec}
use Rattle.ob_codec.specs.Spelling.{AreBytes}
use Rattle.ob_codec.specs.Steps.{bind_ok, ok_is}
use Rattle.pin_core.specs.SpellingLaws.{id_codec}
use Rattle.ob_waits.specs.Spelling.{NumberedFits, IdsFit, StateFits, WaitFits, WaitsFit, are_within, can_be, one_each, numbered_at, numbered_of, numbered_parts, numbered_text, ids_at, ids_text, parts_text, state_at, state_in, state_text, tag_of, wait_at, wait_of, wait_parts, wait_text, waits_at, waits_text, with_rest}
use Rattle.ob_waits.specs.Waits.{WaitList, is_waits_of}
use Rattle.ob_waits.specs.declared.wait.Mode.TheVariants.{Any, All}
use Rattle.ob_waits.specs.declared.wait.State.{State}
use Rattle.ob_waits.specs.declared.wait.State.TheVariants.{Pending, Answered}
use Rattle.ob_waits.specs.declared.wait.Wait.{Wait}

pub ids_codec : IsCodec ids_text ids_at IdsFit
ids_codec = list_codec id_codec 64

one-again : (t : ℕ) (x : State) (rest : List ℕ) → tag_of x ≡ t → StateFits x
    → state_in t (parts_text x ++ rest) ≡ Ok (x, rest)
unfolding state_in
one-again t (Pending Any ids) rest is fits = search (arith, ids_codec.again)
one-again t (Pending All ids) rest is fits = search (arith, ids_codec.again)
one-again t (Answered code) rest is fits = search (arith, u32_codec.again)

one-takes : (t : ℕ) (bytes : List ℕ) (x : State) (rest : List ℕ) → AreBytes bytes → state_in t bytes ≡ Ok (x, rest)
    → Takes bytes (parts_text x) rest × StateFits x × (tag_of x ≡ t)
unfolding state_in
one-takes zero = form_takes _ _ _ ids_codec 0 (Pending Any) (λ _. refl) (λ _ fits. fits) (λ _. refl)
one-takes (suc zero) = form_takes _ _ _ ids_codec 1 (Pending All) (λ _. refl) (λ _ fits. fits) (λ _. refl)
one-takes (suc (suc zero)) = form_takes _ _ _ u32_codec 2 Answered (λ _. refl) (λ _ fits. fits) (λ _. refl)
one-takes (suc (suc (suc t))) = λ bytes x rest fits e. absurd cc

pub state_codec : IsCodec state_text state_at StateFits
state_codec = tagged_codec tag_of parts_text state_in StateFits
    (λ t. record { again = one-again t; takes = one-takes t })

pub wait_codec : IsCodec wait_text wait_at WaitFits
wait_codec = as_codec wait_of wait_parts (λ _. refl) (λ _. refl)
    (both_codec u32_codec (both_codec (option_codec u64_codec) state_codec))

pub numbered_codec : IsCodec numbered_text numbered_at NumberedFits
numbered_codec = as_codec numbered_of numbered_parts (λ _. refl) (λ _. refl) (both_codec u32_codec wait_codec)

-- the threads of waits, each of which has one, are no more than there are
abbrev pub threads_of : List (Option Wait) → List ℕ
threads_of [] = []
threads_of (None ∷ waits) = threads_of waits
threads_of (Some wait ∷ waits) = wait.thread ∷ threads_of waits

rows_long : (k : ℕ) (waits : List (Option Wait)) → length (entries_from k waits) ≡ length (threads_of waits)
rows_long k [] = refl
rows_long k (None ∷ waits) = rows_long (suc k) waits
rows_long k (Some wait ∷ waits) = ap suc (rows_long (suc k) waits)

others : (thread : ℕ) (waits : List (Option Wait)) → not (list_any (is_waits_of thread) waits) ≡ true
    → AllByRecursion (λ other. eqb thread other ≡ false) (threads_of waits)
others thread [] none = tt
others thread (None ∷ waits) none = others thread waits none
others thread (Some wait ∷ waits) none = grind (arith, nat_tests, others thread waits)

pub distinct : (waits : List (Option Wait)) → one_each waits ≡ true → IsDistinct eqb (threads_of waits)
unfolding IsDistinct
distinct [] one = tt
distinct (None ∷ waits) one = distinct waits one
distinct (Some wait ∷ waits) one = grind (arith, others wait.thread waits, distinct waits)

below : (threads slots : ℕ) (waits : List (Option Wait)) → are_within threads slots waits ≡ true → (thread : ℕ)
    → list_any (eqb thread) (threads_of waits) ≡ true → thread < threads
below threads slots [] within thread has = absurd cc
below threads slots (x ∷ waits) within thread has = grind (arith, nat_tests, below threads slots waits)

few_waits : (threads slots limit clock : ℕ) (waits : List (Option Wait)) → can_be limit clock waits ≡ true
    → are_within threads slots waits ≡ true → leb (length (entries_from 0 waits)) threads ≡ true
few_waits threads slots limit clock waits can within =
    let few = length-le_from_distinct_below (threads_of waits) threads in
    grind (arith, nat_tests, distinct waits, below threads slots waits, rows_long 0 waits, few)

abbrev ListsFit : ℕ → ℕ → ℕ → ℕ → List (Option Wait) → Type 0
ListsFit limit clock threads slots waits = (SparseFewFit threads WaitFits waits × (can_be limit clock waits ≡ true))
    × (are_within threads slots waits ≡ true)

abbrev lists_at : ℕ → ℕ → ℕ → ℕ → List ℕ → Read (List (Option Wait))
lists_at limit clock threads slots = where_at (are_within threads slots)
    (where_at (can_be limit clock) (sparse_at threads wait_at))

lists_codec : (limit clock threads slots : ℕ)
    → IsCodec waits_text (lists_at limit clock threads slots) (ListsFit limit clock threads slots)
lists_codec limit clock threads slots = where_codec
    (where_codec (sparse_codec wait_codec threads) (can_be limit clock))
    (are_within threads slots)

pub waits_again : (threads slots : ℕ) (list : WaitList) (rest : List ℕ) → WaitsFit list
    → are_within threads slots list.waits ≡ true
    → waits_at list.limit list.clock threads slots (waits_text list.waits ++ rest) ≡ Ok (list, rest)
waits_again threads slots list rest fits within =
    search (arith, (lists_codec list.limit list.clock threads slots).again list.waits rest, few_waits)

pub waits_take : (limit clock threads slots : ℕ) (bytes : List ℕ) (list : WaitList) (rest : List ℕ) → AreBytes bytes
    → waits_at limit clock threads slots bytes ≡ Ok (list, rest)
    → Takes bytes (waits_text list.waits) rest × WaitsFit list × (are_within threads slots list.waits ≡ true)
waits_take limit clock threads slots bytes list rest fits e =
    let x = bind_ok (lists_at limit clock threads slots bytes)
    (λ (x : List (Option Wait) × List ℕ). Ok (with_rest limit clock x.0, x.1)) (list, rest) e in
    let w = (lists_codec limit clock threads slots).takes bytes x.0.0 x.0.1 fits x.1 in
    search (arith, ok_is)
