-- Each live process has a live thread: as a test of what is read, and as it is kept.
use Rattle.ob_store.proofs.Cited.{at_place, IsPopulated, State, ◌≡◌, ℕ, ◌≢◌, zero, suc, Bool, true, List, [], ◌∷◌, length, Option, Some, None, refl, ap, ◌∙◌, arith, get_or, set, thread_ended, threads_ended, IsLive, ProcessesState, IsFree, ◌||◌, list_any, after_thread_end, exited, process_ended, is_of, are_populated, is_populated, put, any_put, get_or-put}
use Rattle.std.proofs.lemmas.Bool.{eq-eqb}
use Rattle.ob_store.proofs.ByPlace.{below_at, below_from}
use Rattle.ob_store.proofs.PlacedLaws.{live_within}

-- as a test
pub populated_pass : (l : ProcessesState) → IsPopulated l.processes l.threads → are_populated l ≡ true
populated_pass l populated = search (arith, below_from)

pub populated_from : (l : ProcessesState) → are_populated l ≡ true → IsPopulated l.processes l.threads
populated_from l all q live =
    grind (arith, below_at (is_populated l) (length l.processes) q all (live_within l.processes q live))

pub populated_thread : (ps ts : List (Option ℕ)) (m process : ℕ) → IsFree ts m → IsPopulated ps ts
    → IsPopulated ps (put ts m (Some process))
populated_thread ps ts m process free populated q live =
    search (arith, any_put (is_of q) ts m (Some process) refl free, populated q live)

-- a process comes with its first thread
pub populated_process : (ps ts : List (Option ℕ)) (n m session : ℕ) → IsFree ps n → IsFree ts m → IsPopulated ps ts
    → IsPopulated (put ps n (Some session)) (put ts m (Some n))
populated_process ps ts n m session p t populated q live = search (arith, any_put, get_or-put)

-- each live process but one has a live thread
abbrev Besides : ℕ → State → Type 0
Besides p s = (q : ℕ) → q ≢ p → IsLive s.processes q → list_any (is_of q) s.threads ≡ true

-- still so where a thread of that one ends
thread_left : (s : State) (p t : ℕ) → is_of p (get_or s.threads t None) ≡ true → Besides p s
    → Besides p (thread_ended s t)
thread_left s p t its besides q other live = still s.threads t its ∙ besides q other live
  where
    still : (ts : List (Option ℕ)) (t : ℕ) → is_of p (get_or ts t None) ≡ true
        → list_any (is_of q) (set ts t None) ≡ list_any (is_of q) ts
    still [] t is = refl
    still (x ∷ ts) zero is = search arith
    still (x ∷ ts) (suc t) is = ap (λ (b : Bool). is_of q x || b) (still ts t is)

-- or all of them below a number
threads_left : (s : State) (p n : ℕ) → Besides p s → Besides p (threads_ended s p n)
threads_left s p zero besides = besides
threads_left s p (suc n) besides = search (arith, thread_left, threads_left s p n besides)

-- so each has one where that one ends
process_left : (s : State) (p : ℕ) → Besides p s → IsPopulated (process_ended s p).processes (process_ended s p).threads
process_left s p besides q live = grind (arith, at_place)

pub populated_exited : (s : State) (p : ℕ) → IsPopulated s.processes s.threads
    → IsPopulated (exited s p).processes (exited s p).threads
populated_exited s p populated = search (arith, threads_left, process_left)

-- a thread ends, and its process with its last one
pub populated_thread_ended : (s : State) (p t : ℕ) → get_or s.threads t None ≡ Some p
    → IsPopulated s.processes s.threads
    → IsPopulated (after_thread_end s p t).processes (after_thread_end s p t).threads
populated_thread_ended s p t its populated =
    grind (arith, eq-eqb, thread_left s p t (ap (is_of p) its ∙ eq-eqb p p refl), process_left (thread_ended s t) p)
