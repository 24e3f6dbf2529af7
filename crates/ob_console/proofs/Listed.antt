-- The names of objects, printed row by row.
use Rattle.ob_console.proofs.Cited.{arith, ◌≡◌, ℕ, List, [], ◌∷◌, ◌++◌, length, subst, ◌∙◌, append_assoc, append-nil, flat_map-append, flat_map, Id, printed_count, printed_names, printed_row, Writes, Begins, begins_more, begins_on, writes_on}
use Rattle.ob_name.specs.Names.{ObjectName}
use Rattle.ob_name.specs.Listing.{Rows}

-- these rows, printed behind how many there are in all
abbrev pub printed_first : Rows → Rows → List ℕ
printed_first rows done = printed_count (length rows) ++ flat_map printed_row done

-- all rows but those that are left are written or pending
pub record IsListed (rows left : Rows) (before after first pending : List ℕ) : Type 0 where
  pub done : Rows
  pub whole : done ++ left ≡ rows
  pub written : Writes before after (first ++ printed_first rows done) pending

printed_next : (rows done : Rows) (row : ObjectName × Id)
    → printed_first rows (done ++ row ∷ []) ≡ printed_first rows done ++ printed_row row
printed_next rows done row = search (arith, append_assoc, flat_map-append)

-- the row is written or pending
pub row_written : (rows : Rows) (row : ObjectName × Id) (left : Rows) (a b c first pending rest : List ℕ)
    → IsListed rows (row ∷ left) a b first pending → Writes b c (pending ++ printed_row row) rest → IsListed rows left a c first rest
row_written rows row left a b c first pending rest one two = record {
  done = one.done ++ row ∷ [];
  whole = append_assoc one.done (row ∷ []) left ∙ one.whole;
  written = search (arith, append-nil, append_assoc, flat_map-append, writes_on, one.written);
}

-- the sink fails at a row
pub row_begun : (rows : Rows) (row : ObjectName × Id) (left : Rows) (a b c first pending : List ℕ)
    → IsListed rows (row ∷ left) a b first pending → Begins b c (pending ++ printed_row row) → Begins a c (first ++ printed_names rows)
row_begun rows row left a b c first pending one two =
    subst (λ back. Begins a c back) (search (arith, append_assoc, flat_map-append))
    (begins_more a c (first ++ printed_first rows (one.done ++ row ∷ [])) (flat_map printed_row left)
    (search (arith, printed_next, begins_on, one.written)))

-- the sink fails at the first line
pub head_begun : (rows : Rows) (a c first : List ℕ) → Begins a c (first ++ printed_count (length rows))
    → Begins a c (first ++ printed_names rows)
head_begun rows a c first begins =
    rw append_assoc at (begins_more a c (first ++ printed_count (length rows)) (flat_map printed_row rows) begins)
