-- Any input is lines and the beginning of one more.
use Rattle.ob_console.proofs.Cited.{arith, ◌≡◌, ◌≢◌, ℕ, List, [], ◌∷◌, ◌++◌, inl, inr, cases_eq, append_assoc, All-append, All-nil, All-cons, All-head, All-tail, flat_map-append, line_end, Splits, IsWithin}

-- an input has lines and a rest
pub record HasLines (input : List ℕ) : Type 0 where
  pub lines : List (List ℕ)
  pub rest : List ℕ
  pub splits : Splits input lines rest

-- a byte before what has lines
line_before : (byte : ℕ) (bytes : List ℕ) → byte ≡ 10 → (lines : List (List ℕ)) (rest : List ℕ)
    → Splits bytes lines rest → Splits (byte ∷ bytes) ([] ∷ lines) rest
line_before byte bytes is lines rest splits = search arith

byte_before : (byte : ℕ) (bytes : List ℕ) → byte ≢ 10 → (lines : List (List ℕ)) (rest : List ℕ)
    → Splits bytes lines rest → HasLines (byte ∷ bytes)
byte_before byte bytes other [] rest splits = search arith
byte_before byte bytes other (line ∷ lines) rest splits =
    let first = All-cons (λ b. b ≢ 10) byte line other (All-head IsWithin line lines splits.each) in
    let each = All-cons IsWithin (byte ∷ line) lines first (All-tail IsWithin line lines splits.each) in
    record { lines = (byte ∷ line) ∷ lines; rest = rest; splits = search (arith, each) }

pub has_lines : (input : List ℕ) → HasLines input
has_lines [] = search arith
has_lines (byte ∷ bytes) = let more = has_lines bytes in elim (cases_eq byte 10) [
  | inl is ↦ search (arith, line_before, more.splits)
  | inr other ↦ search (arith, byte_before)
]

-- more of the open line
pub splits_more : (input : List ℕ) (lines : List (List ℕ)) (rest bytes : List ℕ) → IsWithin bytes
    → Splits input lines rest → Splits (input ++ bytes) lines (rest ++ bytes)
splits_more input lines rest bytes within splits =
    search (arith, All-append (λ b. b ≢ 10) rest bytes splits.open_ended within, append_assoc)

-- the lines of what comes behind, where the open line goes on
pub splits_on : (input : List ℕ) (lines : List (List ℕ)) (rest bytes : List ℕ) (later : List (List ℕ)) (last : List ℕ)
    → Splits input lines rest → Splits (rest ++ bytes) later last → Splits (input ++ bytes) (lines ++ later) last
splits_on input lines rest bytes later last splits more =
    search (arith, All-append IsWithin lines later splits.each more.each, append_assoc, flat_map-append)

-- one line is complete
pub splits_one : (rest bytes : List ℕ) → IsWithin rest → IsWithin bytes
    → Splits (rest ++ (bytes ++ line_end)) ((rest ++ bytes) ∷ []) []
splits_one rest bytes within_rest within =
    let line : IsWithin (rest ++ bytes) = All-append (λ b. b ≢ 10) rest bytes within_rest within in
    search (arith, All-cons, All-nil, append_assoc, line)

-- nothing has no line
pub splits_nothing : Splits [] [] []
splits_nothing = search arith
