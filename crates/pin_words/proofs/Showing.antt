-- What is shown of one slot more.
use Rattle.pin_words.proofs.Cited.{◌≡◌, ℕ, suc, ◌+◌, ◌<◌, List, [], ◌∷◌, ◌++◌, length, get_or, take, sym, ap, ◌∙◌, length-take-le, arith, take_more, Descr, Id, Slot, shown_from}

shown-append : (k : ℕ) (xs ys : List Slot) → shown_from k (xs ++ ys) ≡ shown_from k xs ++ shown_from (k + length xs) ys
shown-append k [] ys = search arith
shown-append k (x ∷ xs) ys = search (arith, shown-append (suc k) xs ys)

pub one_more_shown : (slots : List Slot) (i : ℕ) (d : Slot) (rows : List (Id × Descr)) → i < length slots
    → rows ≡ shown_from 0 (take i slots) → rows ++ shown_from i (get_or slots i d ∷ [])
    ≡ shown_from 0 (take (i + 1) slots)
one_more_shown slots i d rows lt is =
    let long : 0 + length (take i slots) ≡ i = (let l = length-take-le i slots (omega arith) in omega arith) in
    ap (λ (r : List (Id × Descr)). r ++ shown_from i (get_or slots i d ∷ [])) is
    ∙ (ap (λ (n : ℕ). shown_from 0 (take i slots) ++ shown_from n (get_or slots i d ∷ [])) (sym long)
    ∙ (sym (shown-append 0 (take i slots) (get_or slots i d ∷ [])) ∙ ap (shown_from 0) (sym (take_more slots i d lt))))
