-- What giving a number makes of a list of numbers, and a new process of what is kept.
use Rattle.ob_codec.proofs.AtPlace.{at_place}
use Rattle.std.proofs.Common.{◌≡◌, ℕ, suc, ◌+◌, ◌<◌, ◌≤◌, ◌||◌, Bool, true, false, cond, eqb, List, [], ◌∷◌, length, Option, Some, None, refl, ap, ◌∙◌, arith, get_or, set}
use Rattle.std.specs.Prelude.{is_none}
use Rattle.std.specs.List.{list_any, position_or_len}
use Rattle.std.proofs.lemmas.List.{get_or_past}
use Rattle.std.proofs.lemmas.List.Folds.{list_any-append}
use Rattle.std.proofs.lemmas.Bool.Decides.{nat_tests}
use Rattle.ob_tables.specs.declared.entry.Entry.{Entry}
use Rattle.ob_tables.specs.Tables.{put}
use Rattle.ob_tables.specs.declared.limits.Limits.{Limits}
use Rattle.ob_tables.specs.Processes.{IsFromOne, IsLive, ProcessesKept, ProcessesState, next_number}

-- a number that can be given
pub record IsFree (numbers : List (Option ℕ)) (n : ℕ) : Type 0 where
  pub above : 0 < n
  pub within : n ≤ length numbers
  pub none : get_or numbers n None ≡ None

least_within : (xs : List (Option ℕ)) → position_or_len is_none xs ≤ length xs
least_within [] = omega arith
least_within (None ∷ xs) = omega arith
least_within (Some x ∷ xs) = omega (arith, least_within xs)

least_none : (xs : List (Option ℕ)) → get_or xs (position_or_len is_none xs) None ≡ None
least_none [] = refl
least_none (x ∷ xs) = grind (arith, least_none xs)

least_is_free : (xs : List (Option ℕ)) → 0 < length xs → IsFree xs (next_number true xs)
least_is_free [] some = absurd (omega (arith, some))
least_is_free (x ∷ xs) some = record {
  above = omega arith;
  within = omega (arith, least_within xs);
  none = ap (λ n. get_or (x ∷ xs) n None) (next (position_or_len is_none xs)) ∙ least_none xs;
}
  where
    next : (k : ℕ) → k + 1 ≡ suc k
    next k = omega arith

pub next_is_free : (reuse : Bool) (numbers : List (Option ℕ)) → IsFromOne numbers
    → IsFree numbers (next_number reuse numbers)
next_is_free true numbers one = least_is_free numbers one.not_empty
next_is_free false numbers one = record {
  above = one.not_empty;
  within = omega arith;
  none = search (arith, get_or_past);
}

module _ {A : Type 0} (xs : List A) (n : ℕ) (x : A) (within : n ≤ length xs) where
  pub get_or-put : (k : ℕ) (d : A) → get_or (put xs n x) k d ≡ cond (eqb k n) x (get_or xs k d)
  get_or-put k d = grind (arith, nat_tests, at_place)

  pub length-put : (length xs ≤ length (put xs n x)) × ((most : ℕ) → length xs ≤ most → n < most
      → length (put xs n x) ≤ most)
  length-put = grind (arith, nat_tests, at_place)

  pub within-put : n < length (put xs n x)
  within-put = grind (arith, nat_tests, at_place)

  pub length-put-same : {B : Type 0} (ys : List B) (y : B) → length ys ≡ length xs
      → length (put ys n y) ≡ length (put xs n x)
  length-put-same ys y same = grind (arith, nat_tests, at_place)

-- something is among them that was, or that comes
any_set : (p : Option ℕ → Bool) (xs : List (Option ℕ)) (n : ℕ) (x : Option ℕ) → p None ≡ false → n < length xs
    → get_or xs n None ≡ None → list_any p (set xs n x) ≡ (p x || list_any p xs)
any_set p [] n x other lt none = absurd (omega (arith, lt))
any_set p (y ∷ xs) n x other lt none = grind (arith, any_set p xs)

pub any_put : (p : Option ℕ → Bool) (xs : List (Option ℕ)) (n : ℕ) (x : Option ℕ) → p None ≡ false → IsFree xs n
    → list_any p (put xs n x) ≡ (p x || list_any p xs)
any_put p xs n x other free = grind (arith, nat_tests, any_set, list_any-append)

pub live_put : (xs : List (Option ℕ)) (n x k : ℕ) → IsFree xs n → IsLive xs k → IsLive (put xs n (Some x)) k
live_put xs n x k free live = grind (arith, nat_tests, get_or-put xs n (Some x) free.within k None)

pub from_one_put : (xs : List (Option ℕ)) (n : ℕ) (x : Option ℕ) → IsFree xs n → IsFromOne xs → IsFromOne (put xs n x)
from_one_put xs n x free one = grind (arith, nat_tests, get_or-put xs n x free.within, length-put xs n x free.within)

-- what is kept where a process comes with its first thread and a table
pub process_kept : (limits : Limits) (l : ProcessesState) (ts : List (List (Option Entry))) (n m session : ℕ)
    (table : List (Option Entry)) → IsFree l.processes n → IsFree l.threads m → n ≤ limits.processes → m ≤ limits.threads
    → ProcessesKept limits l ts → ProcessesKept limits (record {
      processes = put l.processes n (Some session);
      threads = put l.threads m (Some n);
    }) (put ts n table)
process_kept limits l ts n m session table p t few_p few_t k = grind (
  arith,
  nat_tests,
  from_one_put,
  get_or-put l.processes n (Some session) p.within,
  get_or-put ts n table (omega (arith, p.within, k.tabled)),
  get_or-put l.threads m (Some n) t.within,
  length-put l.processes n (Some session) p.within,
  length-put l.threads m (Some n) t.within,
  length-put-same l.processes n (Some session) p.within,
)

-- and where a thread does
pub thread_kept : (limits : Limits) (l : ProcessesState) (ts : List (List (Option Entry))) (m process : ℕ)
    → IsFree l.threads m → m ≤ limits.threads → IsLive l.processes process → ProcessesKept limits l ts
    → ProcessesKept limits (record l { threads = put l.threads m (Some process) }) ts
thread_kept limits l ts m process t few live k = grind (
  arith,
  nat_tests,
  from_one_put,
  get_or-put l.threads m (Some process) t.within,
  length-put l.threads m (Some process) t.within,
)
