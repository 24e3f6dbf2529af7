-- A lane's list beside its part of the journal.
use Rattle.std.proofs.Common.{◌≡◌, ◌≢◌, ℕ, ◌+◌, ◌-◌, ◌<◌, ◌≤◌, List, [], ◌∷◌, ◌++◌, Some, length, take, drop, get_or, refl, sym, ap, ◌∙◌, arith, append-nil, inl, inr, All, set}
use Rattle.std.proofs.lemmas.Bool.{cases_eq}
use Rattle.std.proofs.lemmas.List.{take_at, take_more, drop_more, take-append-drop, length-take, get_or_default, get_or-set_other, get_or-set_same}
use Rattle.std.proofs.lemmas.List.Edits.{get_or-between, length-between}
use Rattle.std.proofs.lemmas.Option.{get_or_from_slice_get, slice_get_cases, slice_get_within}
use Rattle.std.proofs.Math.Seq.{drop-length, take-length}
use Rattle.std.specs.List.{slice_get, slice_range}
use Rattle.ob_shared.specs.declared.book.Entry.{Entry}
use Rattle.ob_shared.specs.Closing.{DifferAt, IsPart}
use Rattle.ob_shared.specs.Comparing.{HaveRead}
use Rattle.ob_shared.specs.Lanes.{LaneState, part}

part_append : (k : ℕ) (xs ys : List Entry) → part k (xs ++ ys) ≡ part k xs ++ part k ys
part_append k [] ys = refl
part_append k (x ∷ xs) ys = grind (arith, part_append k xs ys)

part_split : (k i : ℕ) (js : List Entry) → part k js ≡ part k (take i js) ++ part k (drop i js)
part_split k i js = rw (← part_append k (take i js) (drop i js), take-append-drop)

part_of : (k : ℕ) (e : Entry) (es : List Entry) → e.lane ≡ k → part k (e ∷ es) ≡ e ∷ part k es
part_of k e es is = grind arith

part_snoc : (k : ℕ) (es : List Entry) (e : Entry) → e.lane ≡ k → part k (es ++ e ∷ []) ≡ part k es ++ e ∷ []
part_snoc k es e is = rw (part_append k es (e ∷ []), part_of k e [] is)

part_else : (k : ℕ) (es : List Entry) (e : Entry) → e.lane ≢ k → part k (es ++ e ∷ []) ≡ part k es
part_else k es e off =
    let none : part k (e ∷ []) ≡ [] = grind arith in rw (part_append k es (e ∷ []), none, append-nil)

-- both lists were read
pub part_whole : (k : ℕ) (js xs : List Entry) (i p : ℕ) → i ≡ length js → p ≡ length xs → take p xs ≡ part k (take i js)
    → xs ≡ part k js
part_whole k js xs i p ends full same = rw (full, ends, take-length xs, take-length js) at same

-- two lists that are equal up to a place, and what stands there
seam : (zs ys : List Entry) → slice_get (zs ++ ys) (length zs) ≡ slice_get ys 0
seam [] ys = refl
seam (z ∷ zs) ys = seam zs ys

differ_part : (k : ℕ) (js xs : List Entry) (i p : ℕ) → p ≤ length xs → take p xs ≡ part k (take i js)
    → slice_get xs p ≢ slice_get (part k (drop i js)) 0 → DifferAt xs (part k js) p
differ_part k js xs i p room same differs =
    let long : length (part k (take i js)) ≡ p = omega (arith, length-take p xs, ap length same) in
    rw (part_split k i js) (record {
      before = rw same (sym (take_at (part k (take i js)) (part k (drop i js)) p long));
      differs = λ is. differs (is ∙ rw long at (seam (part k (take i js)) (part k (drop i js))));
    })

-- the list has more than the journal
pub differ_end : (i k : ℕ) (js xs : List Entry) (p : ℕ) → i ≡ length js → p < length xs → take p xs ≡ part k (take i js)
    → DifferAt xs (part k js) p
differ_end i k js xs p ends room same = differ_part k js xs i p (omega (arith, room)) same
    (rw (ends, drop-length js) (λ none. grind (arith, slice_get_cases xs p)))

-- one entry more of the journal
module _ (i : ℕ) (e : Entry) (k : ℕ) (js xs : List Entry) (p : ℕ) (inside : i < length js) (is : e ≡ get_or js i e)
    (old : take p xs ≡ part k (take i js)) where
  -- it is another lane's
  pub part_other : e.lane ≢ k → take p xs ≡ part k (take (i + 1) js)
  part_other off = rw (take_more js i e inside, ← is, part_else k (take i js) e off, old) refl

  -- it is the lane's, and what its list has next
  pub part_found : e.lane ≡ k → slice_get xs p ≡ Some e
      → (p + 1 ≤ length xs) × (take (p + 1) xs ≡ part k (take (i + 1) js))
  part_found own found =
      let within = slice_get_within xs p e found in (
        omega (arith, within),
        rw (take_more js i e inside, take_more xs p e within, ← is)
            (rw (get_or_from_slice_get xs p e e found, part_snoc k (take i js) e own, old)),
      )

  -- it is the lane's, and not what its list has next
  pub differ_next : p ≤ length xs → e.lane ≡ k → slice_get xs p ≢ Some e → DifferAt xs (part k js) p
  differ_next room own differs =
      differ_part k js xs i p room old (rw (drop_more js i e inside, ← is, part_of k e (drop (i + 1) js) own) differs)

-- one entry more, which is of none of these lanes
pub read_other : (first : ℕ) (lanes : List LaneState) (js : List Entry) (read : List ℕ) (i : ℕ) (e : Entry)
    → i < length js → e ≡ get_or js i e
    → ((k : ℕ) → k < length lanes → e.lane ≢ first + k) → HaveRead first lanes (take i js) read
    → HaveRead first lanes (take (i + 1) js) read
read_other first lanes js read i e inside is off old k d within =
    part_other i e (first + k) js (get_or lanes k d).list (get_or read k 0) inside is (old k d within) (off k within)

-- one entry more, which is the next one of a lane's list
pub read_next : (first : ℕ) (lanes : List LaneState) (js : List Entry) (read : List ℕ) (i place : ℕ) (e : Entry)
    (lane : LaneState) → i < length js → e ≡ get_or js i e
    → place < length lanes → length lanes ≤ length read → e.lane ≡ first + place → lane ≡ get_or lanes place lane
    → slice_get lane.list (get_or read place 0) ≡ Some e
    → HaveRead first lanes (take i js) read → HaveRead first lanes (take (i + 1) js)
    (set read place (get_or read place 0 + 1))
read_next first lanes js read i place e lane inside is within room own of next old k d below = elim (cases_eq k place) [
  | inl same ↦ rw (same, get_or-set_same read place (get_or read place 0 + 1) 0 (omega (arith, within, room)))
      (part_found i e (first + place) js (get_or lanes place d).list (get_or read place 0) inside is
      (old place d within) own (rw (of ∙ get_or_default lanes place lane d within) at next)).1
  | inr other ↦ rw (get_or-set_other read place k (get_or read place 0 + 1) 0 other)
      (part_other i e (first + k) js (get_or lanes k d).list (get_or read k 0) inside is (old k d below)
      (λ (q : e.lane ≡ first + k). other (omega (arith, q, own))))
]

-- each of some lanes that stand together
pub range_parts : (js : List Entry) (lanes : List LaneState) (a b : ℕ) → b ≤ length lanes
    → All (IsPart js) (slice_range lanes a b)
    → (k : ℕ) (d : LaneState) → a ≤ k → k < b → IsPart js (get_or lanes k d)
range_parts js lanes a b fits parts k d from to =
    let same : a + (k - a) ≡ k = omega (arith, from) in
    rw (get_or-between lanes a b (k - a) d (omega (arith, from, to)), same) at
    (parts (k - a) d (omega (arith, from, to, length-between lanes a b fits)))
