-- The lines of a journal's script are those into which its text is cut.
use Rattle.ob_console.proofs.Cited.{◌≡◌, ℕ, arith, refl, ap, sym, List, [], ◌∷◌, ◌++◌, length, length-append, All, ◌≢◌, flat_map, eqb-false, not-true, append_assoc, All-cons, All-nil, All-tail, AllPass-from_list_all, IsWithin, with_ends, Entry, printed_reply, comment, is_repeatable, lines_for}
use Rattle.ob_script.proofs.Within.{HasNone, asking_has, comment_has, reply_has}

-- each entry by its lines
abbrev pub lines_in : List Entry → List (List ℕ)
lines_in journal = flat_map (λ (entry : Entry). lines_for entry.call entry.reply) journal

is_within : (line : List ℕ) → HasNone line → IsWithin line
is_within line has = search (arith, AllPass-from_list_all, eqb-false, not-true)

pub lines_within : (journal : List Entry) → All IsWithin (lines_in journal)
lines_within [] = All-nil IsWithin
lines_within (entry ∷ entries) =
    let say = comment (printed_reply entry.reply) in
    All-cons IsWithin _ (say ∷ lines_in entries)
    (is_within _ (asking_has (is_repeatable entry.call entry.reply) entry.call))
    (All-cons IsWithin say (lines_in entries)
    (is_within say (comment_has (printed_reply entry.reply) (reply_has entry.reply))) (lines_within entries))

no_end : (front back : List ℕ) → IsWithin (front ++ 10 ∷ back) → ⊥
no_end [] back within = within 0 0 (omega arith) refl
no_end (byte ∷ front) back within = no_end front back (All-tail (λ byte. byte ≢ 10) byte (front ++ 10 ∷ back) within)

cut : (x y a b : List ℕ) → IsWithin x → IsWithin y → x ++ 10 ∷ a ≡ y ++ 10 ∷ b → (x ≡ y) × (a ≡ b)
cut [] [] a b x_in y_in same = (refl, (cc))
cut [] (c ∷ y) a b x_in y_in same = absurd (y_in 0 0 (omega arith) (cc))
cut (c ∷ x) [] a b x_in y_in same = absurd (x_in 0 0 (omega arith) (cc))
cut (c ∷ x) (e ∷ y) a b x_in y_in same =
    let rest = cut x y a b (All-tail (λ byte. byte ≢ 10) c x x_in) (All-tail (λ byte. byte ≢ 10) e y y_in) (cc) in
    ((cc), rest.1)

-- an input is cut into lines in one way
pub one_cut : (ours theirs : List (List ℕ)) (rest : List ℕ) → All IsWithin ours → All IsWithin theirs → IsWithin rest
    → with_ends ours ≡ with_ends theirs ++ rest → (theirs ≡ ours) × (rest ≡ [])
one_cut [] [] rest ours_in theirs_in within same = (refl, sym same)
one_cut [] (y ∷ theirs) rest ours_in theirs_in within same =
    absurd (omega (arith, ap length same, length-append {A = ℕ}))
one_cut (x ∷ ours) [] rest ours_in theirs_in within same =
    absurd (no_end x (with_ends ours) (rw (← same, append_assoc x (10 ∷ []) (with_ends ours)) at within))
one_cut (x ∷ ours) (y ∷ theirs) rest ours_in theirs_in within same =
    let split = cut x y (with_ends ours) (with_ends theirs ++ rest) (ours_in 0 [] (omega arith))
    (theirs_in 0 [] (omega arith)) (simp append_assoc at same) in
    let more = one_cut ours theirs rest (All-tail IsWithin x ours ours_in) (All-tail IsWithin y theirs theirs_in) within
    split.1 in ((cc), more.1)
