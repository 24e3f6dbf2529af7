-- The ordered set of threads, while threads come and end.
use Rattle.ob_codec.proofs.AtPlace.{at_place}
use Rattle.std.proofs.Common.{◌≡◌, ℕ, zero, suc, ◌<◌, ◌≤◌, ◌&&◌, Bool, true, false, cond, eqb, List, [], ◌∷◌, length, Option, Some, None, refl, sym, arith, get_or, set}
use Rattle.std.specs.Prelude.{◌%◌, IfSome, is_some}
use Rattle.std.specs.List.{list_any}
use Rattle.std.specs.BTreeSet.{BTreeSet, IsKeyRangeOf, Updates, contains}
use Rattle.std.specs.Ordering.{is_gt, nat_cmp}
use Rattle.std.specs.declared.ops.Bound.TheVariants.{Included}
use Rattle.std.proofs.lemmas.Map.Keys.{le_from_not_gt}
use Rattle.std.proofs.lemmas.List.{get_or_past}
use Rattle.std.proofs.lemmas.Bool.Decides.{nat_tests}
use Rattle.least.specs.From.{IsLeastFrom}
use Rattle.ob_tables.specs.Tables.{put}
use Rattle.ob_tables.specs.Members.{AreMembers, key}
use Rattle.ob_tables.specs.Processes.{is_of}
use Rattle.ob_tables.proofs.GivenLaws.{IsFree, get_or-put, length-put}

-- each thread of each process has a number of its own
key_same : (p t q u : ℕ) → t < 4294967296 → u < 4294967296 → eqb (key p t) (key q u) ≡ (eqb p q && eqb t u)
key_same p t q u lt lu = grind (arith, nat_tests)

-- a change at one of them
pub changed_at : (s s' : BTreeSet ℕ) (p t : ℕ) (b : Bool) → t < 4294967296 → Updates nat_cmp s s' (key p t) b → (q u : ℕ)
    → u < 4294967296 → contains nat_cmp s' (key q u) ≡ cond (eqb p q && eqb t u) b (contains nat_cmp s (key q u))
changed_at s s' p t b lt changed q u lu = grind (arith, nat_tests, changed.0 (key q u), key_same p t q u lt lu)

pub member_added : (threads : List (Option ℕ)) (s s' : BTreeSet ℕ) (p t : ℕ) → AreMembers threads s → IsFree threads t
    → t ≤ 65536 → Updates nat_cmp s s' (key p t) true → AreMembers (put threads t (Some p)) s'
member_added threads s s' p t are free few changed = grind (
  arith,
  nat_tests,
  length-put threads t (Some p) free.within,
  changed_at s s' p t true (omega (arith, few)) changed,
  get_or-put threads t (Some p) free.within,
)

pub member_gone : (threads : List (Option ℕ)) (s s' : BTreeSet ℕ) (p t : ℕ) → AreMembers threads s
    → get_or threads t None ≡ Some p → t < 4294967296 → Updates nat_cmp s s' (key p t) false
    → AreMembers (set threads t None) s'
member_gone threads s s' p t are its lt changed = grind (arith, nat_tests, at_place, changed_at s s' p t false lt changed)

-- one that came leaves again
pub member_undone : (threads : List (Option ℕ)) (s s' s'' : BTreeSet ℕ) (p t : ℕ) → AreMembers threads s
    → IsFree threads t → t ≤ 65536 → Updates nat_cmp s s' (key p t) true → Updates nat_cmp s' s'' (key p t) false
    → AreMembers threads s''
member_undone threads s s' s'' p t are free few came left = grind (
  arith,
  nat_tests,
  changed_at s s' p t true (omega (arith, few)) came,
  changed_at s' s'' p t false (omega (arith, few)) left,
)

is_false : (b : Bool) → (b ≡ true → ⊥) → b ≡ false
is_false = search arith

-- a process has a thread where the least one is there
pub any_least : (threads : List (Option ℕ)) (p : ℕ) (least : Option ℕ)
    → IsLeastFrom 0 (λ t. is_of p (get_or threads t None)) least → is_some least ≡ list_any (is_of p) threads
any_least threads p None is = sym (none threads (λ t. at t))
  where
    at : (t : ℕ) → is_of p (get_or threads t None) ≡ true → ⊥
    at t h = is.least t (omega arith) h

    none : (ts : List (Option ℕ)) → ((t : ℕ) → is_of p (get_or ts t None) ≡ true → ⊥) → list_any (is_of p) ts ≡ false
    none [] nope = refl
    none (x ∷ ts) nope = search (arith, is_false (is_of p x) (nope 0), none ts (λ t. nope (suc t)))
any_least threads p (Some t) is = sym (some threads t is.passes)
  where
    some : (ts : List (Option ℕ)) (t : ℕ) → is_of p (get_or ts t None) ≡ true → list_any (is_of p) ts ≡ true
    some [] t h = absurd (cc h)
    some (x ∷ ts) zero h = search arith
    some (x ∷ ts) (suc t) h = search (arith, some ts t h)

pub own_within : (threads : List (Option ℕ)) (p t : ℕ) → is_of p (get_or threads t None) ≡ true → t < length threads
own_within threads p t h = grind (arith, nat_tests, get_or_past)

pub few_from : (threads : List (Option ℕ)) (p from : ℕ) (least : Option ℕ) → length threads ≤ 65537
    → IsLeastFrom from (λ t. is_of p (get_or threads t None)) least → IfSome least (λ t. t ≤ 65536)
few_from threads p from least few is = grind (arith, own_within)

-- the least number from one on that stands for a thread of a process
module _ (members : BTreeSet ℕ) (p from : ℕ) (threads : List (Option ℕ)) (are : AreMembers threads members) where
  abbrev own : ℕ → Bool
  own t = is_of p (get_or threads t None)

  pub first_is : (n : ℕ) → key p from ≤ n → n ≤ key p 4294967295 → contains nat_cmp members n ≡ true
      → ((q : ℕ) → key p from ≤ q → q ≤ key p 4294967295 → contains nat_cmp members q ≡ true → n ≤ q)
      → IsLeastFrom from own (Some (n % 4294967296))
  first_is n above below there least =
      let is : key p (n % 4294967296) ≡ n = omega (arith, above, below) in
      grind (arith, own_within, are.each p (n % 4294967296), is)

  pub none_is : ((q : ℕ) → key p from ≤ q → q ≤ key p 4294967295 → contains nat_cmp members q ≡ false)
      → IsLeastFrom from own None
  none_is none = grind (arith, own_within)

-- the first of a range of them
pub record IsFirst (members : BTreeSet ℕ) (low high n : ℕ) : Type 0 where
  pub above : low ≤ n
  pub below : n ≤ high
  pub there : contains nat_cmp members n ≡ true
  pub least : (q : ℕ) → low ≤ q → q ≤ high → contains nat_cmp members q ≡ true → n ≤ q

not_above : (a b : ℕ) → a ≤ b → is_gt (nat_cmp a b) ≡ false
not_above a b le = grind (arith, nat_tests)

pub first_of : (members : BTreeSet ℕ) (low high n : ℕ) (rest keys : List ℕ) → keys ≡ n ∷ rest
    → IsKeyRangeOf nat_cmp (Included low) (Included high) members keys → IsFirst members low high n
first_of members low high n rest keys is range = search (arith, le_from_not_gt, not_above)
