-- Waits are written as their rows stand, by rising number.
use Rattle.ob_waits.proofs.Cited.{◌≡◌, ℕ, zero, suc, ◌+◌, ◌-◌, ◌<◌, ◌≤◌, ◌^◌, true, List, [], ◌∷◌, ◌++◌, length, drop, Option, None, arith, append_assoc, get_or, AllByRecursion, flat_map, is_some, drop_all, get_or_past, length-append, SparseFits, entries_from, row_of, RowFits, WaitFits, row_text, Wait}
use Rattle.std.proofs.lemmas.Grind.{flat_map-append}

-- the rows behind a number
abbrev pub rows_behind : ℕ → List (Option Wait) → List (ℕ × Wait)
rows_behind last ws = entries_from (suc last) (drop (suc last) ws)

one_row : (j k : ℕ) (ws : List (Option Wait))
    → entries_from j (drop k ws) ≡ row_of j (get_or ws k None) ++ entries_from (suc j) (drop (suc k) ws)
one_row j k [] = search (arith, drop_all, get_or_past)
one_row j zero (w ∷ ws) = search arith
one_row j (suc k) (x ∷ ws) = one_row j k ws

no_rows : (d k : ℕ) (ws : List (Option Wait)) → ((i : ℕ) → k ≤ i → i < k + d → get_or ws i None ≡ None)
    → entries_from k (drop k ws) ≡ entries_from (k + d) (drop (k + d) ws)
no_rows zero k ws none = search arith
no_rows (suc d) k ws none =
    search (arith, one_row, no_rows d (suc k) ws (λ i le lt. none i (omega arith) (omega arith)))

-- the next number has the next row, if it has one
pub row_next : (last n : ℕ) (ws : List (Option Wait)) → last < n
    → ((k : ℕ) → is_some (get_or ws k None) ≡ true → last < k → n ≤ k)
    → rows_behind last ws ≡ row_of n (get_or ws n None) ++ rows_behind n ws
row_next last n ws above least =
    let none = no_rows (n - suc last) (suc last) ws (λ i le lt. grind (arith, least i)) in
    search (arith, one_row n n ws, none)

pub row_none : (last : ℕ) (ws : List (Option Wait)) → ((k : ℕ) → is_some (get_or ws k None) ≡ true → last < k → ⊥)
    → rows_behind last ws ≡ []
row_none last ws none = search (arith, drop_all, no_rows (length ws) (suc last) ws (search arith))

-- at first number 0 has no row
pub rows_all : (ws : List (Option Wait)) → get_or ws 0 None ≡ None → entries_from 0 ws ≡ rows_behind 0 ws
rows_all ws none = search arith

-- how many rows there are
pub few_rows : (k : ℕ) (ws : List (Option Wait)) → length (entries_from k ws) ≤ length ws
few_rows k [] = omega arith
few_rows k (w ∷ ws) = search (arith, few_rows (suc k) ws)

pub all_rows_few : (ws : List (Option Wait)) → get_or ws 0 None ≡ None → length (entries_from 0 ws) ≤ length ws - 1
all_rows_few ws none = search (arith, rows_all, few_rows)

-- what is written with what is still to be written, and how much that is
pub record Written (last count : ℕ) (out before : List ℕ) (ws : List (Option Wait)) : Type 0 where
  pub text : out ++ flat_map row_text (rows_behind last ws) ≡ before ++ flat_map row_text (entries_from 0 ws)
  pub many : count + length (rows_behind last ws) ≡ length (entries_from 0 ws)
  pub fits : AllByRecursion RowFits (rows_behind last ws) → AllByRecursion RowFits (entries_from 0 ws)

pub written_next : (last n count more : ℕ) (out out' before : List ℕ) (ws : List (Option Wait)) → last < n
    → ((k : ℕ) → is_some (get_or ws k None) ≡ true → last < k → n ≤ k)
    → out' ≡ out ++ flat_map row_text (row_of n (get_or ws n None)) → more ≡ length (row_of n (get_or ws n None))
    → AllByRecursion RowFits (row_of n (get_or ws n None))
    → Written last count out before ws → Written n (count + more) out' before ws
written_next last n count more out out' before ws above least text is fit w = let next = row_next last n ws above
    least in search (arith, append_assoc, flat_map-append, length-append)

-- waits of which each row fits have a spelling
pub rows_fit : (ws : List (Option Wait)) (given : ℕ) → get_or ws 0 None ≡ None → length ws ≡ given + 1 → given < 2 ^ 32
    → AllByRecursion RowFits (entries_from 0 ws) → SparseFits WaitFits ws
rows_fit ws given none len range fits = search (arith, all_rows_few)
