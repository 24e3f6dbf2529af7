-- What is found by each number at its thread, and how that changes.
use Rattle.ob_waits.proofs.Cited.{nat_tests, ◌≡◌, ◌<◌, ◌≤◌, ◌+◌, ℕ, suc, List, Option, Some, None, refl, ap, ◌∙◌, sym, arith, get_or, cond, eqb, Wait, NumberedWait, listed, IsSparse, thread_of, AreByThread, IsOfThread, answered_at, found, number_at, answered, number_of}
use Rattle.std.proofs.lemmas.Option.{same_Some, none-some}
use Rattle.ob_waits.proofs.ListedLaws.{value_at}
use Rattle.ob_waits.proofs.TrackedLaws.{number_is, number_none}

nothing : {A : Type 0} (o : Option A) → ((x : A) → o ≡ Some x → ⊥) → o ≡ None
nothing None none_is = refl
nothing (Some x) none_is = absurd (none_is x refl)

module _ {given : ℕ} {by_thread : List (Option NumberedWait)} {threads : ℕ → Option ℕ}
    (s : AreByThread given by_thread threads) where
  -- what is found by a number stands at its thread
  found_of_thread : (n : ℕ) (w : Wait) → found by_thread threads n ≡ Some w
      → (0 < n) × (n ≤ given) × (number_at (get_or by_thread w.thread None) ≡ Some n)
  found_of_thread n w is = grind (arith, s.each w.thread, s.is_there n)

  none : (n : ℕ) → (0 < n → n ≤ given → ⊥) → found by_thread threads n ≡ None
  none n out = nothing _ (λ w is. grind (arith, found_of_thread n w))

  pub by_thread_sparse : IsSparse given (found by_thread threads)
  by_thread_sparse = search (arith, none)

  -- the wait of a number, in the list of all
  pub number_reads : (n : ℕ) → get_or (listed (suc given) (found by_thread threads)) n None ≡ found by_thread threads n
  number_reads n = search (arith, by_thread_sparse, value_at)

  -- a number that wasn't given has no thread
  pub not_given : (n : ℕ) → given < n → threads n ≡ None
  not_given n past = nothing _ (λ t is. grind (arith, s.is_there n t, s.each t))

  -- the number of a thread's wait is that of what stands there
  number_of_thread : (t : ℕ) (h : NumberedWait) → get_or by_thread t None ≡ Some h
      → thread_of (get_or (listed (suc given) (found by_thread threads)) h.number None) ≡ Some t
  number_of_thread t h is = search (arith, number_reads)

  pub number_held : (t n : ℕ) → thread_of (get_or (listed (suc given) (found by_thread threads)) n None) ≡ Some t
      → number_at (get_or by_thread t None) ≡ Some n
  number_held t n own = search (arith, found_of_thread, number_reads)

  pub number_held_is : (t : ℕ) → number_at (get_or by_thread t None)
      ≡ number_of t (listed (suc given) (found by_thread threads))
  number_held_is t = by (get_or by_thread t None) refl
    where
      by : (o : Option NumberedWait) → get_or by_thread t None ≡ o
          → number_at o ≡ number_of t (listed (suc given) (found by_thread threads))
      by None e = sym (number_none _ t (λ m own. none-some m (sym (ap number_at e) ∙ number_held t m own)))
      by (Some h) e = sym (number_is _ t h.number (number_of_thread t h e)
          (λ m own. same_Some m h.number (sym (number_held t m own) ∙ ap number_at e)))

  -- at a thread that has no wait nothing stands
  pub free_thread : (t : ℕ) → number_of t (listed (suc given) (found by_thread threads)) ≡ None
      → get_or by_thread t None ≡ None
  free_thread t free = grind (arith, number_held_is t)

  pub known_held : (t n : ℕ) → thread_of (get_or (listed (suc given) (found by_thread threads)) n None) ≡ Some t
      → (threads n ≡ Some t) × (n < suc given)
  known_held t n own = by (get_or by_thread t None) refl (number_held t n own)
    where
      by : (o : Option NumberedWait) → get_or by_thread t None ≡ o → number_at o ≡ Some n
          → (threads n ≡ Some t) × (n < suc given)
      by None e is = absurd cc
      by (Some h) e is = grind (arith, s.each t h)

-- lists by thread, and threads, that read as they did
pub same_by_thread : {given : ℕ} {by_thread by_thread' : List (Option NumberedWait)} {threads threads' : ℕ → Option ℕ}
    → ((i : ℕ) → get_or by_thread' i None ≡ get_or by_thread i None) → ((q : ℕ) → threads' q ≡ threads q)
    → AreByThread given by_thread threads → AreByThread given by_thread' threads'
same_by_thread same known s = record { each = λ t h is. grind (arith, s.each t h, same t, known); is_there = search arith }

-- a wait comes to stand at its thread, with the next number
module _ (given n : ℕ) (w : Wait) (by_thread by_thread' : List (Option NumberedWait)) (threads threads' : ℕ
    → Option ℕ) (s : AreByThread given by_thread threads) (is : n ≡ given + 1)
    (free : get_or by_thread w.thread None ≡ None)
    (new : (i : ℕ) → get_or by_thread' i None ≡ cond (eqb w.thread i) (Some (record { number = n; wait = w }))
    (get_or by_thread i None)) (known : (q : ℕ) → threads' q ≡ cond (eqb n q) (Some w.thread) (threads q)) where
  pub took_found : (q : ℕ) → found by_thread' threads' q ≡ cond (eqb n q) (Some w) (found by_thread threads q)
  took_found q = grind (arith, nat_tests, s.is_there q)

  pub took_thread : AreByThread n by_thread' threads'
  took_thread = record {
    each = λ u h e. grind (arith, nat_tests, new u, known, s.each u h, s.is_there, not_given s n);
    is_there = λ q u e. grind (arith, nat_tests, new u, known q, s.is_there q u);
  }

-- a thread's wait is answered, if it has one
module _ (given t code : ℕ) (by_thread by_thread' : List (Option NumberedWait)) (threads : ℕ
    → Option ℕ) (s : AreByThread given by_thread threads) (new : (i : ℕ) → get_or by_thread' i None
    ≡ cond (eqb t i) (answered_at code (get_or by_thread t None)) (get_or by_thread i None)) where
  sits_on : (p : Option NumberedWait) → get_or by_thread t None ≡ p → (h : NumberedWait) → answered_at code p ≡ Some h
      → IsOfThread given threads t h
  sits_on None is h e = absurd (cc)
  sits_on (Some x) is h e = let old = s.each t x is in search arith

  pub answered_by_thread : AreByThread given by_thread' threads
  answered_by_thread = record {
    each = λ u h e. grind (arith, nat_tests, new u, s.each u h, sits_on (get_or by_thread t None) refl h);
    is_there = λ q u e. grind (arith, nat_tests, new u, s.is_there q u);
  }

  pub answered_found : (n : ℕ) → threads n ≡ Some t → (q : ℕ) → found by_thread' threads q
      ≡ cond (eqb n q) (answered (found by_thread threads n) code) (found by_thread threads q)
  answered_found n at q = grind (arith, nat_tests, s.is_there n t, s.is_there q t, new)

-- the wait of a number leaves its thread
module _ (given n t : ℕ) (by_thread by_thread' : List (Option NumberedWait)) (threads threads' : ℕ
    → Option ℕ) (s : AreByThread given by_thread threads) (at : threads n ≡ Some t) (new : (i : ℕ)
    → get_or by_thread' i None ≡ cond (eqb t i) None (get_or by_thread i None)) (known : (q : ℕ)
    → threads' q ≡ cond (eqb n q) None (threads q)) where
  pub left_found : (q : ℕ) → found by_thread' threads' q ≡ cond (eqb n q) None (found by_thread threads q)
  left_found q = grind (arith, nat_tests, new, known q, s.is_there n t, s.is_there q t)

  pub left_thread : AreByThread given by_thread' threads'
  left_thread = record {
    each = λ u h e. grind (arith, nat_tests, new u, known h.number, s.each u h, s.is_there n t);
    is_there = λ q u e. grind (arith, nat_tests, new u, known q, s.is_there q u, s.is_there n t);
  }
