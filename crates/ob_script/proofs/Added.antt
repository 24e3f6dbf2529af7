-- The lines that `--more` adds are bad without it, and each other line is what it is without it.
use Rattle.ob_script.proofs.Cited.{arith, ◌≡◌, ◌⊎◌, inl, inr, ℕ, List, [], ◌∷◌, Bool, true, false, Option, refl, if◌then◌else◌, nat_tests, Kind, Timeout, Call, Command, Bad, kind_of, labelled, ◌>>=◌, asked, command_of, command_of_words, limit_of, mode_of, open_of, timeout_of, wait_of}

abbrev IsAdded : Command → Command → Type 0
IsAdded before after = (before ≡ Bad) ⊎ (after ≡ before)

same : (command : Command) → IsAdded command command
same command = inr refl

more : (command : Command) → IsAdded Bad command
more command = inl refl

-- one of two commands
chosen : (b : Bool) (x y before after : Command) → IsAdded x y → IsAdded before after
    → IsAdded (if b then x else before) (if b then y else after)
chosen b x y before after here there = search arith

then_chosen : {A : Type 0} (b : Bool) (x before after : Option A) (f : A → Option Call)
    → IsAdded (asked (before >>= f)) (asked (after >>= f))
    → IsAdded (asked ((if b then x else before) >>= f)) (asked ((if b then x else after) >>= f))
then_chosen b x before after f there = search (arith, same)

-- what is made of the next value
then_added : {A : Type 0} (read : Option A) (f g : A → Option Call)
    → ((a : A) → IsAdded (asked (f a)) (asked (g a))) → IsAdded (asked (read >>= f)) (asked (read >>= g))
then_added read f g each = search (arith, more)

kind_added : (word : List ℕ) (f : Kind → Option Call)
    → IsAdded (asked (kind_of false word >>= f)) (asked (kind_of true word >>= f))
kind_added word f = search (then_chosen, more)

open_added : (words : List (List ℕ)) → IsAdded (asked (open_of false words)) (asked (open_of true words))
open_added words = search (arith, more, then_added, kind_added)

limit_added : (word : List ℕ) (f : Timeout → Option Call)
    → IsAdded (asked (limit_of false word >>= f)) (asked (limit_of true word >>= f))
limit_added word f = grind (arith, nat_tests)

timeout_added : (word : List ℕ) (f : Timeout → Option Call)
    → IsAdded (asked (timeout_of false word >>= f)) (asked (timeout_of true word >>= f))
timeout_added word f = search (then_chosen, limit_added)

wait_added : (words : List (List ℕ)) → IsAdded (asked (wait_of false words)) (asked (wait_of true words))
wait_added (thread ∷ mode ∷ timeout ∷ words) =
    then_added (labelled 116 thread) _ _ (λ thread. then_added (mode_of mode) _ _ (λ mode. timeout_added timeout _))
wait_added words = inl refl

words_added : (words : List (List ℕ)) → IsAdded (command_of_words false words) (command_of_words true words)
words_added [] = inl refl
words_added (verb ∷ words) = search (chosen, same, more, wait_added, open_added) depth 41

pub line_is_added : (line : List ℕ) → IsAdded (command_of false line) (command_of true line)
line_is_added line = search (chosen, same, words_added)
