-- Numbers that no live thread of a process has are passed by.
use Rattle.ob_store.proofs.Cited.{◌≡◌, ℕ, zero, suc, ◌+◌, ◌-◌, ◌<◌, ◌≤◌, Option, Some, None, refl, ap, ◌∙◌, sym, arith, get_or, true, false, KeeperState, PartsState, IsEnding, thread_ended, threads_ended, State}
use Rattle.ob_tables.specs.Processes.{is_of}

is_of_none : (p : ℕ) (x : Option ℕ) → (x ≡ Some p → ⊥) → is_of p x ≡ false
is_of_none = search arith

-- nothing of the process is between
pub passed : (s : State) (p a d : ℕ) → ((t : ℕ) → a ≤ t → t < a + d
    → get_or (threads_ended s p a).threads t None ≡ Some p → ⊥) → threads_ended s p (a + d) ≡ threads_ended s p a
passed s p a zero none = search arith
passed s p a (suc d) none =
    let rest : threads_ended s p (a + d) ≡ threads_ended s p a = passed s p a d (search arith) in
    let at = ap (λ (x : State). get_or x.threads (a + d) None) rest in
    let other = is_of_none p _ (λ h. none (a + d) (omega arith) (omega arith) (sym at ∙ h)) in
    let more : a + suc d ≡ suc (a + d) = omega arith in
    rw (more, other) rest

pub passed_to : (s : State) (p a b : ℕ) → a ≤ b → ((t : ℕ) → a ≤ t → t < b
    → get_or (threads_ended s p a).threads t None ≡ Some p → ⊥) → threads_ended s p b ≡ threads_ended s p a
passed_to s p a b le none = search (arith, passed s p a (b - a))

-- the parts are on their way as well to where no thread between has ended
pub ending_passed : (first : KeeperState) (p : PartsState) (s : State) (process a b : ℕ) → a ≤ b
    → ((t : ℕ) → a ≤ t → t < b → get_or p.processes.threads t None ≡ Some process → ⊥)
    → IsEnding first p (threads_ended s process a) → IsEnding first p (threads_ended s process b)
ending_passed first p s process a b le none ending = search (arith, passed_to)

-- the ends of threads leave all tables
pub threads_tables : (s : State) (p n : ℕ) → (threads_ended s p n).tables ≡ s.tables
threads_tables s p zero = refl
threads_tables s p (suc n) = search (arith, threads_tables s p n)

-- the next one of the process ends
pub ending_ended : (first : KeeperState) (p p' : PartsState) (s : State) (process thread : ℕ)
    → is_of process (get_or p.processes.threads thread None) ≡ true → IsEnding first p (threads_ended s process thread)
    → IsEnding first p' (thread_ended (threads_ended s process thread) thread)
    → IsEnding first p' (threads_ended s process (thread + 1))
ending_ended first p p' s process thread its before after = search arith

-- a thread of the process
pub its_own : (p : ℕ) (x : Option ℕ) → x ≡ Some p → is_of p x ≡ true
its_own p x is = search arith
