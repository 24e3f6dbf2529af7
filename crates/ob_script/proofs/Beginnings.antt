-- A list of which the beginning is kept.
use Rattle.ob_script.proofs.Cited.{arith, ◌≡◌, ℕ, ◌≤◌, List, ◌++◌, [], length, take, append-nil, take_all, take_at}

-- where so many stand as are kept, it is no matter what comes behind them
pub full_part : (items rest others : List ℕ) → length items ≡ 65 → take 65 (items ++ rest) ≡ take 65 (items ++ others)
full_part items rest others is = search (arith, take_at)

-- where nothing comes behind them, they are what is kept
pub all_parts : (items kept : List ℕ) → take 65 (items ++ []) ≡ kept → length items ≤ 65 → items ≡ kept
all_parts items kept is few = rw (append-nil, take_all) at is
