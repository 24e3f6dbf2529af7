-- What is read is what the last number and the rows come to.
use Rattle.ob_waits.proofs.Cited.{◌≡◌, Global, Vec, ℕ, zero, suc, Bool, true, cond, arith, ◌+◌, List, [], ◌∷◌, map, Some, Result, Ok, Err, refl, ap, ◌∙◌, sym, list_all, and_parts, leb-true, ltb-true, TextFault, Value, ◌>>=◌, Fails, Gives, Read, fits_from, spread_from, built, rows_within, are_within, numbered_at, numbered_parts, is_within, row_at, waits_at, WaitList, NumberedWait, Wait}
use Rattle.std.specs.Int.{w32}
use Rattle.ob_codec.specs.declared.fault.ReadFault.{ReadFault}
use Rattle.ob_codec.specs.declared.fault.ReadFault.TheVariants.{Memory, Text}
use Rattle.ob_codec.specs.Reading.{items_at, list_at, number_at}

-- rows that are read as waits with their numbers
abbrev in_parts : Read (List NumberedWait) → Read (List (ℕ × Wait))
in_parts read = read >>= λ (x : List NumberedWait × List ℕ). Ok (map numbered_parts x.0, x.1)

items_in_parts : (n : ℕ) (bytes : List ℕ) → in_parts (items_at numbered_at n bytes) ≡ items_at row_at n bytes
unfolding items_at
items_in_parts zero bytes = refl
items_in_parts (suc n) bytes = grind (arith, items_in_parts n)

pub list_in_parts : (most : ℕ) (bytes : List ℕ) → in_parts (list_at most numbered_at bytes) ≡ list_at most row_at bytes
unfolding list_at
list_in_parts most bytes = search (arith, items_in_parts)

pub rows_in_parts : (r : Result (Vec NumberedWait Global) ReadFault) (most : ℕ) (bytes rest : List ℕ)
    → Gives (λ rows. rows.items) r (list_at most numbered_at bytes) rest
    → Gives (λ rows. map numbered_parts rows.items) r (list_at most row_at bytes) rest
rows_in_parts (Ok rows) most bytes rest is = sym (list_in_parts most bytes) ∙ ap in_parts is
rows_in_parts (Err Memory) most bytes rest fails = tt
rows_in_parts (Err (Text f)) most bytes rest fails = sym (list_in_parts most bytes) ∙ ap in_parts fails

-- what all comes to, where threads and slots are below some, and the bytes behind it
abbrev pub within : ℕ → ℕ → Result WaitList TextFault → Result WaitList TextFault
within threads slots r = r >>= λ (l : WaitList). cond (are_within threads slots l.waits) (Ok l) (Err Value)

abbrev pub behind : List ℕ → Result WaitList TextFault → Read WaitList
behind rest r = r >>= λ (l : WaitList). Ok (l, rest)

-- whether the places of a list pass is whether its rows do
abbrev row_within : ℕ → ℕ → ℕ × Wait → Bool
row_within threads slots p = is_within threads slots (Some p.1)

module _ (threads slots : ℕ) where
  places_pass : (k n end : ℕ) (ps : List (ℕ × Wait)) → end ≡ k + n → fits_from k end ps ≡ true
      → are_within threads slots (spread_from k n ps) ≡ list_all (row_within threads slots) ps
  places_pass k zero end [] is fits = refl
  places_pass k zero end (p ∷ ps) is fits = search (arith, and_parts, leb-true, ltb-true)
  places_pass k (suc n) end [] is fits = places_pass (suc k) n end [] (omega arith) refl
  places_pass k (suc n) end (p ∷ ps) is fits =
      search (arith, and_parts, places_pass (suc k) n end ps, places_pass (suc k) n end (p ∷ ps))

  pass_in_parts : (rows : List NumberedWait) → list_all (row_within threads slots) (map numbered_parts rows)
      ≡ rows_within threads slots rows
  pass_in_parts [] = refl
  pass_in_parts (h ∷ rows) = search (arith, pass_in_parts rows)

read_fails : (e : ReadFault) (total : Read WaitList) (rest : List ℕ) (r : Result WaitList TextFault)
    → total ≡ behind rest r → Fails e r → Fails e total
read_fails = search arith

-- what is read, so, or why nothing is
module _ (limit clock threads slots last : ℕ) (bytes between rest : List ℕ) (rows : List NumberedWait)
    (first : number_at w32 bytes ≡ Ok (last, between))
    (second : list_at threads row_at between ≡ Ok (map numbered_parts rows, rest)) where
  pub rows_read : waits_at limit clock threads slots bytes ≡ behind rest
      (cond (rows_within threads slots rows) (built limit clock last rows) (Err Value))
  rows_read = search (arith, places_pass, pass_in_parts)

  pub rows_fail : (e : ReadFault)
      → Fails e (cond (rows_within threads slots rows) (built limit clock last rows) (Err Value))
      → Fails e (waits_at limit clock threads slots bytes)
  rows_fail e fails = read_fails e _ rest _ rows_read fails

pub none_read : (c : Bool) (r : Result WaitList TextFault) → r ≡ Err Value → cond c r (Err Value) ≡ Err Value
none_read = search arith

-- what was read has its limit and its moment, and all threads and slots are below
pub read_within : (limit clock threads slots : ℕ) (bytes : List ℕ) (list : WaitList) (rest : List ℕ)
    → waits_at limit clock threads slots bytes ≡ Ok (list, rest)
    → (list.limit ≡ limit) × (list.clock ≡ clock) × (are_within threads slots list.waits ≡ true)
read_within limit clock threads slots bytes list rest e = search arith
