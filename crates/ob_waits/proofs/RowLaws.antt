-- Waits that are built one after another are those that the rows stand for; and which rows come next of those that are
-- written.
use Rattle.std.proofs.lemmas.Bool.Decides.{nat_tests}
use Rattle.std.proofs.lemmas.Bool.{cases_Bool}
use Rattle.ob_waits.proofs.Cited.{inr, inl, ◌≡◌, ℕ, zero, suc, ◌+◌, ◌-◌, ◌<◌, ◌≤◌, ◌&&◌, not, true, false, cond, leb, List, [], ◌∷◌, ◌++◌, length, replicate, Option, Some, None, Result, Ok, Err, refl, arith, map, drop, drop_more, drop_all, append_assoc, get_or, list_any, is_some, and_parts, lt-leb, length_push, list_all-append, TextFault, Value, Fails, fits_from, spread, spread_from, come, may_come, tested, with_row, thread_of, can_be, numbered_parts, may_stand, one_each, WaitList, is_full, is_waits_of, number_of, skipped, NumberedWait, Wait}
use Rattle.ob_codec.specs.declared.fault.ReadFault.{ReadFault}
use Rattle.ob_codec.specs.declared.fault.ReadFault.TheVariants.{Memory, Text}
use Rattle.ob_codec.specs.SparseLaws.{length-spread}
use Rattle.ob_waits.proofs.SkipLaws.{get_skipped, length-skipped}
use Rattle.ob_waits.proofs.TrackedLaws.{no_number, number_none, number_own}

-- what some rows come to behind waits that are there
abbrev pub left : ℕ → List (Option Wait) → List (ℕ × Wait) → Option (List (Option Wait))
left last ws ps = cond (fits_from (length ws) (suc last) ps)
    (Some (ws ++ spread_from (length ws) (suc last - length ws) ps)) None

-- the numbers up to the next row are nobody's
gap : (d k m n t : ℕ) (w : Wait) (ps : List (ℕ × Wait)) → n ≡ k + d → t ≡ d + suc m
    → spread_from k t ((n, w) ∷ ps) ≡ replicate d None ++ Some w ∷ spread_from (suc n) m ps
gap zero k m n t w ps is total =
    let e : n ≡ k = omega arith in
    let e' : t ≡ suc m = omega arith in
    search arith
gap (suc d) k m n t w ps is total =
    let e : t ≡ suc (d + suc m) = omega arith in
    search (arith, gap d (suc k) m n (d + suc m) w ps (omega arith) refl)

-- a row comes next
module _ (last n : ℕ) (ws : List (Option Wait)) (w : Wait) (ps : List (ℕ × Wait)) (some : 0 < n) (le : length ws ≤ n)
    (most : n ≤ last) where
  length-more : length (skipped (n - 1) ws ++ Some w ∷ []) ≡ suc n
  length-more = search (arith, length-skipped, length_push)

  places : ws ++ spread_from (length ws) (suc last - length ws) ((n, w) ∷ ps)
      ≡ (skipped (n - 1) ws ++ Some w ∷ [])
      ++ spread_from (length (skipped (n - 1) ws ++ Some w ∷ []))
      (suc last - length (skipped (n - 1) ws ++ Some w ∷ [])) ps
  places =
      let row = gap (n - length ws) (length ws) (last - n) n (suc last - length ws) w ps (omega arith) (omega arith) in
      search (arith, append_assoc, length-more, row)

  pub left_next : left last ws ((n, w) ∷ ps) ≡ left last (skipped (n - 1) ws ++ Some w ∷ []) ps
  left_next = search (arith, length-more, places)

-- no row is left
spread_nothing : (k n : ℕ) → spread_from {A = Wait} k n [] ≡ replicate n None
spread_nothing k zero = refl
spread_nothing k (suc n) = search (arith, spread_nothing (suc k) n)

pub left_none : (last : ℕ) (ws : List (Option Wait)) → left last ws [] ≡ Some (skipped last ws)
left_none last ws = search (arith, spread_nothing)

has_one : (t : ℕ) (w : Wait) (front back : List (Option Wait)) → t ≡ w.thread
    → list_any (is_waits_of t) (front ++ Some w ∷ back) ≡ true
has_one t w [] back same = search arith
has_one t w (x ∷ front) back same = search (arith, has_one t w front back same)

alone_in : (w : Wait) (front back : List (Option Wait)) → one_each (front ++ Some w ∷ back) ≡ true → (m : ℕ)
    → thread_of (get_or front m None) ≡ Some w.thread → ⊥
alone_in w [] back one m own = cc (own)
alone_in w (None ∷ front) back one zero own = cc (own)
alone_in w (None ∷ front) back one (suc m) own = alone_in w front back one m own
alone_in w (Some a ∷ front) back one zero own = search (arith, has_one, and_parts, a.thread, w.thread)
alone_in w (Some a ∷ front) back one (suc m) own = search (arith, alone_in w front back, and_parts)

-- a wait among waits that can be
there : (limit clock n : ℕ) (ws : List (Option Wait)) (w : Wait) (back : List (Option Wait))
    → can_be limit clock (skipped n ws ++ Some w ∷ back) ≡ true
    → (may_stand clock (Some w) && not (is_some (number_of w.thread ws))) ≡ true
there limit clock n ws w back can = by (number_of w.thread ws) refl
  where
    by : (o : Option ℕ) → number_of w.thread ws ≡ o → (may_stand clock (Some w) && not (is_some o)) ≡ true
    by None is = search (arith, list_all-append)
    by (Some m) is = absurd (alone_in w (skipped n ws) back (grind arith) m (search (arith, get_skipped, number_own)))

pub left_refused : (limit clock last n : ℕ) (ws : List (Option Wait)) (w : Wait) (ps : List (ℕ × Wait)) → 0 < length ws
    → ((leb (length ws) n && leb n last) && (may_stand clock (Some w) && not (is_some (number_of w.thread ws))))
    ≡ false → tested limit clock (left last ws ((n, w) ∷ ps)) ≡ Err Value
left_refused limit clock last n ws w ps some not_so =
    grind (arith, nat_tests, left_next last n ws w ps, append_assoc, there limit clock (n - 1) ws w)

-- of a row that can come the thread has no wait, and a number is left for it
module _ (last : ℕ) (list : WaitList) (held : NumberedWait) (may : may_come last list held ≡ true) where
  alone : number_of held.wait.thread list.waits ≡ None
  alone = grind arith

  pub alone_skipped : number_of held.wait.thread (skipped (held.number - 1) list.waits) ≡ None
  alone_skipped = number_none (skipped (held.number - 1) list.waits) held.wait.thread
      (search (arith, get_skipped, no_number, alone))

  pub not_full : 0 < held.number → last ≤ list.limit
      → is_full (record list { waits = skipped (held.number - 1) list.waits }) ≡ false
  not_full some most = grind (arith, nat_tests, length-skipped (held.number - 1) list.waits)

-- the step of building: what is left comes to what it came to
pub record Goes (last : ℕ) (list : WaitList) (ps : List (ℕ × Wait)) (total : Result WaitList TextFault) : Type 0 where
  pub not_empty : 0 < length list.waits
  pub at_most : length list.waits ≤ last + 1
  pub most : last ≤ list.limit
  pub rest : tested list.limit list.clock (left last list.waits ps) ≡ total

first_row : (rows : List NumberedWait) (i : ℕ) (held : NumberedWait) → i < length rows → held ≡ get_or rows i held
    → map numbered_parts (drop i rows) ≡ numbered_parts held ∷ map numbered_parts (drop (i + 1) rows)
first_row rows i held lt is = search (arith, drop_more)

module _ (rows : List NumberedWait) (i : ℕ) {last : ℕ} {list : WaitList} {total : Result WaitList TextFault}
    (goes : Goes last list (map numbered_parts (drop i rows)) total) where
  pub goes_on : (list' : WaitList) (held : NumberedWait) → i < length rows → held ≡ get_or rows i held
      → come last list held ≡ Ok list' → Goes last list' (map numbered_parts (drop (i + 1) rows)) total
  goes_on list' held lt is e =
      let may : may_come last list held ≡ true = search arith in
      let same : with_row list held ≡ list' = search arith in
      let above : length list.waits ≤ held.number = grind arith in
      let most : held.number ≤ last = grind arith in
      let longer : length (with_row list held).waits ≡ suc held.number = search (arith, length-skipped, length_push) in
      let now = rw (first_row rows i held lt is) at goes in
      rw (← same) (search (arith, left_next))

  pub ends : (e : ReadFault) (held : NumberedWait) → i < length rows → held ≡ get_or rows i held
      → Fails e (come last list held) → Fails e total
  ends Memory held lt is fails = tt
  ends (Text f) held lt is fails = elim (cases_Bool (may_come last list held)) [
    | inl may ↦ absurd (let e = rw may at fails in cc e)
    | inr not_so ↦
        let e = rw not_so at fails in
        let now = rw (first_row rows i held lt is) at goes in search (arith, left_refused)
  ]

  pub all_put : length rows ≤ i → can_be list.limit list.clock (skipped last list.waits) ≡ true
      → total ≡ Ok (record list { waits = skipped last list.waits })
  all_put past can =
      let rest = rw (drop_all i rows past) at goes in
      let done : tested list.limit list.clock (left last list.waits []) ≡ total = rest.rest in
      search (arith, done, left_none last list.waits, can)

-- so are all, where the last number is above the limit
pub too_many : (limit clock last : ℕ) (ps : List (ℕ × Wait)) → limit < last
    → tested limit clock (spread (last, ps)) ≡ Err Value
too_many limit clock last ps lt = search (arith, length-spread, lt-leb)
