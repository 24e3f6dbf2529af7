-- The lists of the slots, where one of them changes.
use Rattle.ob_waits.proofs.Cited.{nat_tests, at_place, arith, ◌≡◌, ℕ, ◌<◌, List, length, Option, get_or, set, get_or_read, Wait, Within, IsOrdered, numbers_of, AreOrdered, KeepsPending, KeepsEach, Thins, ThinsEach}
use Rattle.ob_waits.proofs.NumberLaws.{thins_both}

thins_changed : (waits : List (Option Wait)) (lists : List (List ℕ)) (k : ℕ) (new : List ℕ)
    → Thins waits (numbers_of lists k) new → ThinsEach waits lists (set lists k new)
thins_changed waits lists k new t = grind (arith, at_place)

pub keeps_changed : (waits : List (Option Wait)) (lists : List (List ℕ)) (k : ℕ) (new : List ℕ)
    → KeepsPending waits (numbers_of lists k) new → KeepsEach waits lists (set lists k new)
keeps_changed waits lists k new h = grind (arith, at_place)

pub stays_changed : (n : ℕ) (lists : List (List ℕ)) (k : ℕ) (new : List ℕ) → Within n new
    → (s : ℕ) → Within n (numbers_of lists s) → Within n (numbers_of (set lists k new) s)
stays_changed n lists k new h s was = grind (arith, at_place)

pub lists_changed : (n : ℕ) (lists : List (List ℕ)) (k : ℕ) (new : List ℕ) → IsOrdered n new
    → AreOrdered n lists → AreOrdered n (set lists k new)
lists_changed n lists k new numbers all = grind (arith, nat_tests, at_place)

-- a list was read, thinned and written back
pub thins_there : {waits : List (Option Wait)} {lists seen : List (List ℕ)} {old new : List ℕ} (k : ℕ)
    → lists ≡ seen → old ≡ get_or lists k old → Thins waits old new → k < length lists
    → ThinsEach waits seen (set lists k new)
thins_there {waits = waits} {lists = lists} {old = old} {new = new} k same is thins lt =
    search (arith, thins_changed, get_or_read)

pub thins_each_none : (waits : List (Option Wait)) (lists : List (List ℕ)) → ThinsEach waits lists lists
thins_each_none waits lists = search arith

pub thins_each_both : (waits : List (Option Wait)) (a b c : List (List ℕ)) → ThinsEach waits a b → ThinsEach waits b c
    → ThinsEach waits a c
thins_each_both waits a b c x y = search (arith, thins_both)
