-- Numbers that are given to nobody.
use Rattle.ob_waits.proofs.Cited.{cases_lt, ◌≡◌, ℕ, suc, ◌+◌, ◌≤◌, List, length, replicate, Option, None, arith, get_or, get_or_past, get_or_append_left, length-append, length-replicate, ext_get_or, Wait, AreTold, AnsweredNumbers, AreTimely, IsSparse, listed, IsOrdered, IsTracked, PendingIndex, AreByThread, skipped}
use Rattle.std.proofs.lemmas.List.{get_or-replicate, get_or-append_right}
use Rattle.ob_waits.proofs.ListedLaws.{length_listed, value_at}

none_of : {A : Type 0} (n k : ℕ) → get_or (replicate {A = Option A} n None) k None ≡ None
none_of n k = search (arith, get_or-replicate, get_or_past, length-replicate, cases_lt)

pub length-skipped : (last : ℕ) (ws : List (Option Wait)) → length ws ≤ last + 1 → length (skipped last ws) ≡ last + 1
length-skipped last ws le = search (arith, length-append, length-replicate)

-- each number has the wait that it had
pub get_skipped : (last : ℕ) (ws : List (Option Wait)) (k : ℕ) → get_or (skipped last ws) k None ≡ get_or ws k None
get_skipped last ws k = search (arith, get_or_append_left, get_or-append_right, get_or_past, none_of, cases_lt)

pub listed_skipped : (given last : ℕ) (f : ℕ → Option Wait) → given ≤ last → IsSparse given f
    → listed (suc last) f ≡ skipped last (listed (suc given) f)
listed_skipped given last f le s = ext_get_or None _ _ (search (arith, length-skipped, length_listed))
    (search (arith, get_skipped, value_at))

pub by_thread_skipped : {given last : ℕ} {by_thread : _} {threads : ℕ → Option ℕ} → given ≤ last
    → AreByThread given by_thread threads → AreByThread last by_thread threads
by_thread_skipped le s = record { each = λ t held is. grind (arith, s.each t held); is_there = s.is_there }

module _ (last : ℕ) (ws : List (Option Wait)) where
  ordered : length ws ≤ last + 1 → (numbers : List ℕ) → IsOrdered (length ws) numbers
      → IsOrdered (length (skipped last ws)) numbers
  ordered le numbers o = search (arith, length-skipped)

  pub tracked_skipped : (limit : ℕ) (pending_index : PendingIndex) → length ws ≤ last + 1 → last ≤ limit
      → IsTracked limit ws pending_index
      → IsTracked limit (skipped last ws) pending_index
  tracked_skipped limit pending_index le most t = search (arith, length-skipped, get_skipped, ordered)

  pub timely_skipped : (clock : ℕ) (dues : List (Option ℕ)) → AreTimely clock ws dues
      → AreTimely clock (skipped last ws) dues
  timely_skipped clock dues a = search (arith, get_skipped)

  pub told_skipped : (u : AnsweredNumbers) → AreTold ws u → AreTold (skipped last ws) u
  told_skipped u told = record {
    rising = told.rising;
    out_of_order = λ t n. rw (get_skipped last ws n) (told.out_of_order t n);
    each = λ t n. rw (get_skipped last ws n) (told.each t n);
    placed = λ t n. rw (get_skipped last ws n) (told.placed t n);
  }
