-- The answered waits are known in order while waits come, are answered and go.
use Rattle.std.proofs.lemmas.Bool.Decides.{nat_tests}
use Rattle.ob_waits.proofs.Cited.{at_place, ◌≡◌, ◌≢◌, ◌⊎◌, ℕ, ◌+◌, ◌<◌, ◌≤◌, List, [], ◌∷◌, ◌++◌, ◌-◌, length, Option, Some, None, refl, ◌∙◌, sym, subst, arith, get_or, set, true, false, IfSome, IsAtMost, IsLeastFrom, Wait, is_answered, AnsweredNumbers, IsAnswered, AreToldBut, AreTold, ThinsAnswered, thread_of, IsRising, Within, is_pending}
use Rattle.ob_waits.proofs.NumberLaws.{last_most, within_left, within_last}

-- the same waits, and more room
pub told_room : {ws : List (Option Wait)} {u u' : AnsweredNumbers} → u'.queue ≡ u.queue
    → ((t : ℕ) → get_or u'.out_of_order t None ≡ get_or u.out_of_order t None)
    → length u.out_of_order ≤ length u'.out_of_order → AreTold ws u
    → AreTold ws u'
told_room {u = u} {u' = u'} queue out_of_order longer told = record {
  rising = subst IsRising (sym queue) told.rising;
  out_of_order = λ t n h. told.out_of_order t n (sym (out_of_order t) ∙ h);
  each = search arith;
  placed = search arith;
}

-- a wait comes, of a thread that had none; one that is answered still has to be told
pub told_came : (ws : List (Option Wait)) (w : Wait) (u : AnsweredNumbers) → w.thread < length u.out_of_order
    → AreTold ws u
    → AreToldBut (Some (length ws)) (ws ++ Some w ∷ []) u
told_came ws w u place told = record {
  rising = told.rising;
  out_of_order = λ t n h. grind (arith, at_place, told.out_of_order t n);
  each = λ t n. grind (arith, at_place, told.each t n);
  placed = λ t n. grind (arith, at_place, told.placed t n);
}

-- one that is pending hasn't
pub told_added : (ws : List (Option Wait)) (w : Wait) (u : AnsweredNumbers) → is_pending (Some w) ≡ true
    → w.thread < length u.out_of_order → AreTold ws u → AreTold (ws ++ Some w ∷ []) u
told_added ws w u pending place told = let came = told_came ws w u place told in grind
    (arith, at_place, came.each, came.out_of_order, came.placed)

-- and its number is put at the end of the list, or at its thread
pub told_fresh : (ws : List (Option Wait)) (n : ℕ) (u u' : AnsweredNumbers) → u'.queue ≡ u.queue ++ n ∷ []
    → u'.out_of_order ≡ u.out_of_order
    → IsRising u'.queue → AreToldBut (Some n) ws u → AreTold ws u'
told_fresh ws n u u' queue out_of_order rising told = record {
  rising = rising;
  out_of_order = λ t m h. told.out_of_order t m (search arith);
  each = search (arith, within_last, within_left);
  placed = search arith;
}

-- a wait goes
module _ (ws : List (Option Wait)) (n t : ℕ) (own : thread_of (get_or ws n None) ≡ Some t) where
  pub told_gone : (u : AnsweredNumbers) → get_or u.out_of_order t None ≢ Some n → AreTold ws u
      → AreTold (set ws n None) u
  told_gone u free told = record {
    rising = told.rising;
    out_of_order = λ s m h. grind (arith, at_place, told.out_of_order s m);
    each = λ s m. grind (arith, at_place, told.each s m);
    placed = λ s m. grind (arith, at_place, told.placed s m);
  }

  pub told_cleared : (u : AnsweredNumbers) → get_or u.out_of_order t None ≡ Some n → AreTold ws u
      → AreTold (set ws n None) (record u { out_of_order = set u.out_of_order t None })
  told_cleared u at told = record {
    rising = told.rising;
    out_of_order = λ s m h. grind (arith, nat_tests, at_place, told.out_of_order s m);
    each = λ s m. grind (arith, nat_tests, at_place, told.each s m);
    placed = λ s m. grind (arith, nat_tests, at_place, told.placed s m);
  }

-- numbers of waits that are over are dropped
pub told_dropped : (ws : List (Option Wait)) (u u' : AnsweredNumbers) → ThinsAnswered ws u.queue u'.queue
    → u'.out_of_order ≡ u.out_of_order
    → AreTold ws u → AreTold ws u'
told_dropped ws u u' drops out_of_order told = record {
  rising = drops.rising told.rising;
  out_of_order = λ t n h. told.out_of_order t n (search arith);
  each = λ t n apart own. search arith;
  placed = search arith;
}

-- the lesser of the two that are least is the least of all
answered_thread : (w : Option Wait) → is_answered w ≡ true → (t : ℕ) × IsAnswered t w
answered_thread None h = absurd (cc (h))
answered_thread (Some w) h = (w.thread, (refl, h))

pub least_told : (ws : List (Option Wait)) (u : AnsweredNumbers) (after : ℕ) (first second result : Option ℕ)
    → AreTold ws u
    → IfSome first (λ n. is_answered (get_or ws n None) ≡ true) → IfSome first (λ n. after < n)
    → ((k : ℕ) → Within k u.queue → after < k → is_answered (get_or ws k None) ≡ true → IsAtMost first k)
    → IfSome second (λ n. is_answered (get_or ws n None) ≡ true) → IfSome second (λ n. after < n)
    → ((t n : ℕ) → get_or u.out_of_order t None ≡ Some n → after < n → IsAtMost second n)
    → (result ≡ first) ⊎ (result ≡ second) → ((k : ℕ) → IsAtMost first k → IsAtMost result k)
    → ((k : ℕ) → IsAtMost second k → IsAtMost result k)
    → IsLeastFrom (after + 1) (λ n. is_answered (get_or ws n None)) result
least_told ws u after first second result told passes above least passes' above' least' either lesser lesser' = record {
  passes = search arith;
  above = search arith;
  least = λ n le own. let thread = answered_thread (get_or ws n None) own in grind (arith, told.each thread.0 n);
}

-- what is above the last of numbers that rise is above them all
pub above_all : (ns : List ℕ) (m : ℕ) → (0 < length ns → get_or ns (length ns - 1) 0 < m) → IsRising ns → (k : ℕ)
    → Within k ns → k < m
above_all [] m last r k w = absurd w
above_all (x ∷ ns) m last r k w = grind (arith, last_most k x ns r w)

-- the first of numbers that rise is the least of them
pub first_least : (ns : List ℕ) (d : ℕ) → IsRising ns → (k : ℕ) → Within k ns → get_or ns 0 d ≤ k
first_least [] d r k w = absurd w
first_least (x ∷ ns) d r k w = search arith

-- a number that is answered is above one that is not below it and isn't
pub next_one : (k n : ℕ) (ws : List (Option Wait)) → n ≤ k → is_answered (get_or ws k None) ≡ true
    → is_answered (get_or ws n None) ≡ false → n < k
next_one k n ws le passes over = search arith
