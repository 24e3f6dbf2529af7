-- One more wait at the end.
use Rattle.ob_waits.proofs.Cited.{at_place, ◌≡◌, ℕ, zero, suc, ◌<◌, ◌≤◌, List, [], ◌∷◌, ◌++◌, length, Option, Some, None, arith, get_or, Bool, true, inl, inr, list_any, ◌==◌, get_or_append_left, length_push, Id, Mode, Wait, Answered, thread_of, IsWaitable, WaitWaitable, Within, IsOrdered, numbers_of, new_wait, nowhere, is_code, is_pending, names_slot, number_of, PendingIndex, IsRight, HasPlace, IsTracked}
use Rattle.std.proofs.lemmas.Bool.{cases_Bool}
use Rattle.ob_waits.proofs.TrackedLaws.{no_number}

-- some element passes
pub any_at : {A : Type 0} (p : A → Bool) (d : A) (xs : List A) → list_any p xs ≡ true
    → (i : ℕ) × (i < length xs) × (p (get_or xs i d) ≡ true)
any_at p d [] h = absurd (cc)
any_at p d (x ∷ xs) h = elim (cases_Bool (p x)) [
  | inl is ↦ (zero, omega arith, is)
  | inr is ↦ let r = any_at p d xs (grind arith) in (suc r.0, (let lt = r.1 in omega arith), r.2)
]

-- The theorem: a wait of a thread that had none is tracked, where the lists have its number as they must.
pub tracked_came : (limit : ℕ) (ws : List (Option Wait)) (r r' : PendingIndex) (w : Wait) → 0 < length ws
    → length ws ≤ limit
    → WaitWaitable (Some w) → number_of w.thread ws ≡ None
    → IsTracked limit ws r → IsRight ws r' → (is_pending (Some w) ≡ true → Within (length ws) r'.order)
    → ((s : ℕ) → names_slot s (Some w) ≡ true → Within (length ws) (numbers_of r'.index s))
    → IsTracked limit (ws ++ Some w ∷ []) r'
tracked_came limit ws r r' w some below waitable alone k right ordered named =
    let none : (m : ℕ) → thread_of (get_or ws m None) ≡ Some w.thread → ⊥ = λ m own. no_number w.thread ws m alone own
    in
    let more : (numbers : List ℕ) → IsOrdered (length ws) numbers → IsOrdered (length (ws ++ Some w ∷ [])) numbers =
    λ numbers h. search (arith, length_push) in
    record {
      limit_fits = k.limit_fits;
      at_most = omega (arith, length_push ws (Some w));
      zero_has_none = search (arith, get_or_append_left);
      kept = record {
        each = grind (arith, at_place);
        one_each = λ i j u. grind
            (arith, at_place, none i, none j, k.kept.one_each i j u);
      };
      right = record {
        order_rises = more r'.order right.order_rises;
        order_all = grind (arith, at_place);
        index_rises = record { each = λ s. more (numbers_of r'.index s) (right.index_rises.each s) };
        index_all = grind (arith, at_place);
      };
    }

-- one that is pending, for which the roster has a place
pub tracked_added : (limit : ℕ) (ws : List (Option Wait)) (r r' : PendingIndex) (n t : ℕ) (mode : Mode) (ids : List Id)
    (d : Option ℕ) → length ws ≡ n → 0 < n → n ≤ limit → IsWaitable mode ids → number_of t ws ≡ None →
    IsTracked limit ws r → IsRight ws r' → HasPlace r' ids n
    → IsTracked limit (ws ++ Some (new_wait t mode ids d) ∷ []) r'
tracked_added limit ws r r' n t mode ids d len some below waitable alone k right place =
    tracked_came limit ws r r' (new_wait t mode ids d) (omega arith) (omega arith) waitable alone k right
    (search arith) (λ s g.
    let found = any_at (λ (id : Id). id.slot == s) nowhere ids g in
    let same : (get_or ids found.0 nowhere).slot ≡ s = grind arith in
    search arith)

-- one that is answered needs none
pub tracked_answered : (limit : ℕ) (ws : List (Option Wait)) (r : PendingIndex) (t code : ℕ) (d : Option ℕ)
    → 0 < length ws
    → length ws ≤ limit → is_code code ≡ true → number_of t ws ≡ None
    → IsTracked limit ws r → IsTracked limit (ws ++ Some (record { thread = t; deadline = d; state = Answered code })
    ∷ []) r
tracked_answered limit ws r t code d some below coded alone k = tracked_came limit ws r r _ some below coded alone k
    k.right (search arith) (search arith)
