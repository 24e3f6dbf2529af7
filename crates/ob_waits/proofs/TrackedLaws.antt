-- What the waits keep from call to call.
use Rattle.ob_waits.proofs.Cited.{at_place, ◌≡◌, ℕ, ◌<◌, List, [], ◌∷◌, length, Option, Some, None, arith, get_or, set, true, get_or_past, position_or_len_is, fails_before_first, Wait, thread_of, is_code, is_pending, is_waits_of, number_of, answered, PendingIndex, AreIndexed, ThinsIndex, IsTracked}
use Rattle.std.proofs.lemmas.List.Quantifiers.{position-Some}
use Rattle.ob_waits.proofs.Keeping.{Fade}
use Rattle.ob_waits.proofs.PendingIndexLaws.{right_left}

-- at first nothing is there
pub tracked_none : (limit : ℕ) → limit < 4294967296 → IsTracked limit (None ∷ []) (record { order = []; index = [] })
tracked_none limit fits = search arith

-- whose wait it is
pub waits_thread : (t : ℕ) (w : Option Wait) → is_waits_of t w ≡ true → thread_of w ≡ Some t
waits_thread = search arith

pub has_wait : (ws : List (Option Wait)) (n t : ℕ) → thread_of (get_or ws n None) ≡ Some t → n < length ws
has_wait ws n t h = search (arith, get_or_past)

-- a thread without a number has no wait
pub no_number : (t : ℕ) (ws : List (Option Wait)) (n : ℕ) → number_of t ws ≡ None
    → thread_of (get_or ws n None) ≡ Some t → ⊥
no_number t ws n none own = search (arith, has_wait, fails_before_first)

-- the number of a thread's wait
pub number_own : (ws : List (Option Wait)) (t n : ℕ) → number_of t ws ≡ Some n → thread_of (get_or ws n None) ≡ Some t
number_own ws t n is = search (arith, position-Some)

pub number_is : (ws : List (Option Wait)) (t n : ℕ) → thread_of (get_or ws n None) ≡ Some t
    → ((m : ℕ) → thread_of (get_or ws m None) ≡ Some t → m ≡ n) → number_of t ws ≡ Some n
number_is ws t n own alone = search (arith, has_wait, position_or_len_is)

pub number_none : (ws : List (Option Wait)) (t : ℕ) → ((m : ℕ) → thread_of (get_or ws m None) ≡ Some t → ⊥)
    → number_of t ws ≡ None
number_none ws t none = search (arith, position_or_len_is (is_waits_of t) ws (length ws))

pub lists_faded : (ws ws' : List (Option Wait)) (order : List ℕ) (index : List (List ℕ)) → Fade ws ws'
    → AreIndexed ws order index → AreIndexed ws' order index
lists_faded ws ws' order index f a = search arith

pub tracked_faded : (limit : ℕ) (ws ws' : List (Option Wait)) (r : PendingIndex) → Fade ws ws' → IsTracked limit ws r
    → IsTracked limit ws' r
tracked_faded limit ws ws' r f k = search arith

pub tracked_left : (limit : ℕ) (ws : List (Option Wait)) (r r' : PendingIndex) → ThinsIndex ws r r'
    → IsTracked limit ws r
    → IsTracked limit ws r'
tracked_left limit ws r r' l k = search (arith, right_left)

-- a pending wait is answered
pub fade_answered : (ws : List (Option Wait)) (n code : ℕ) → is_code code ≡ true
    → is_pending (get_or ws n None) ≡ true → Fade ws (set ws n (answered (get_or ws n None) code))
fade_answered ws n code coded pending = grind (arith, at_place)

pub tracked_removed : (limit : ℕ) (ws : List (Option Wait)) (r : PendingIndex) (n t : ℕ)
    → thread_of (get_or ws n None) ≡ Some t → IsTracked limit ws r → IsTracked limit (set ws n None) r
tracked_removed limit ws r n t own k = grind (arith, at_place)
