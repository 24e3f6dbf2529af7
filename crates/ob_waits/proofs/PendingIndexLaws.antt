-- The roster stays right while lists are thinned and grow, and while waits come, are answered and go.
use Rattle.ob_waits.proofs.Cited.{arith, ◌≡◌, ℕ, List, length, Option, Wait, IsOrdered, AreOrdered, KeepsPending, KeepsEach, Thins, ThinsEach, PendingIndex, AreIndexed, IsRight, ThinsIndex}
use Rattle.ob_waits.proofs.NumberLaws.{ordered_thinned}

lists_thinned : (waits : List (Option Wait)) (order order' : List ℕ) (index index' : List (List ℕ))
    → Thins waits order order' → ThinsEach waits index index' → AreIndexed waits order index
    → AreIndexed waits order' index'
lists_thinned waits order order' index index' t ts a = search (arith, ordered_thinned (length waits))

pub right_left : (waits : List (Option Wait)) (old new : PendingIndex) → ThinsIndex waits old new → IsRight waits old
    → IsRight waits new
right_left waits old new l r = search (arith, lists_thinned)

-- the lists grow, and what leaves them isn't the number of a pending wait
pub right_grown : (waits : List (Option Wait)) (n : ℕ) (old new : PendingIndex) → length waits ≡ n → IsRight waits old
    → IsOrdered n new.order → KeepsPending waits old.order new.order
    → AreOrdered n new.index → KeepsEach waits old.index new.index → IsRight waits new
right_grown waits n old new next right orders order lists index = search arith
