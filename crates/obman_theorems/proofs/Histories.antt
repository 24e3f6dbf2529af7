-- A history recounts the state, and the lanes are its parts.
use Rattle.std.proofs.lemmas.Bool.Decides.{nat_tests}
use Rattle.std.proofs.Common.{Result, ◌≡◌, ◌<◌, ℕ, zero, suc, Bool, true, false, List, [], ◌∷◌, length, get_or, arith, refl, subst, not}
use Rattle.std.specs.Prelude.{IfNone, IfOk, Option}
use Rattle.std.specs.List.{list_any}
use Rattle.pin_core.specs.Holds.{tally}
use Rattle.ob_store.specs.Consistent.{IsConsistent}
use Rattle.ob_store.specs.State.{State, Whole, opening}
use Rattle.ob_shared.specs.Closing.{AreWhole, has_number, has_twice}
use Rattle.ob_shared.specs.Journal.{Continues, IsHistoryFrom, IsHistory, IsOrigin, Replays}
use Rattle.ob_shared.specs.Lanes.{LaneState}
use Rattle.ob_shared.specs.declared.book.Entry.{Entry}
use Rattle.ob_shared.proofs.Journals.{history_from_state, is_history}
use Rattle.obman_theorems.proofs.Rest.{at_rest}
use Rattle.obman_theorems.specs.Theorems.{AreOneHistory, IsRecounted}

ends_kept : (w v : Whole) (entries : List Entry) → IsConsistent w → Replays w entries v → IsConsistent v
ends_kept w v [] kept same = search arith
ends_kept w v (e ∷ entries) kept replays = ends_kept replays.0 v entries replays.2 replays.3

pub recounts : (from : State) (journal : List Entry) (w : Whole) → IsHistoryFrom from journal w
    → IsRecounted from journal w
recounts from journal w h = record {
  state = history_from_state from journal w h;
  rest = at_rest w (ends_kept h.first w journal h.kept h.replays);
}

pub book_recounts : (saved : List ℕ) (journal : List Entry) (w : Whole) → Continues saved journal w
    → (from : State) × IsOrigin w.state.limits saved from × IsRecounted from journal w
book_recounts saved journal w h = (h.from, h.opens, recounts h.from journal w h.history)

pub new_recounts : (saved : List ℕ) (journal : List Entry) (w : Whole) → Continues saved journal w → saved ≡ []
    → IsRecounted (opening w.state.limits) journal w
new_recounts saved journal w h none = recounts (opening w.state.limits) journal w
    (is_history journal w (subst (λ (bytes : List ℕ). Continues bytes journal w) none h))

-- lanes with one number
none_counted : {A : Type 0} (p : A → Bool) (xs : List A) → list_any p xs ≡ false → tally p xs ≡ 0
none_counted p [] h = refl
none_counted p (x ∷ xs) h = grind (arith, none_counted p xs)

one_counted : (n : ℕ) (lanes : List LaneState) → has_twice lanes ≡ false → list_any (has_number n) lanes ≡ true
    → tally (has_number n) lanes ≡ 1
one_counted n [] apart some = cc some
one_counted n (lane ∷ lanes) apart some =
    grind (arith, nat_tests, none_counted (has_number n) lanes, one_counted n lanes)

any_none : {A : Type 0} (p : A → Bool) (xs : List A) (i : ℕ) (d : A) → list_any p xs ≡ false → i < length xs
    → p (get_or xs i d) ≡ false
any_none p [] i d none within = absurd (omega (arith, within))
any_none p (x ∷ xs) zero d none within = grind arith
any_none p (x ∷ xs) (suc i) d none within = grind (arith, any_none p xs i d)

there : (b : Bool) → not b ≡ false → b ≡ true
there b h = search arith

pub one_history : (given : ℕ) (lanes : List LaneState) (journal : List Entry) (w : Whole)
    → AreWhole given lanes journal → IsHistory journal w → AreOneHistory given lanes journal w
one_history given lanes journal w whole history = grind (arith, recounts (opening w.state.limits) journal w history, one_counted, any_none, there)

-- what two clauses on one answer come to
pub both_ok : {A E : Type 0} {P Q R : A → Type 0} (r : Result A E) → ((x : A) → P x → Q x → R x) → IfOk r P → IfOk r Q
    → IfOk r R
both_ok r f p q = search arith

pub if_none : {A : Type 0} {P Q : Type 0} (r : Option A) → (P → Q) → IfNone r P → IfNone r Q
if_none r f p = search arith

-- of a book that began as a new manager
pub book_history : (given : ℕ) (lanes : List LaneState) (saved : List ℕ) (journal : List Entry) (w : Whole)
    → Continues saved journal w → AreWhole given lanes journal → saved ≡ [] → AreOneHistory given lanes journal w
book_history given lanes saved journal w h whole none = one_history given lanes journal w whole
    (is_history journal w (subst (λ (bytes : List ℕ). Continues bytes journal w) none h))
