-- A set of triples, and the lists in which it is kept slot by slot.
use Rattle.ob_codec.proofs.AtPlace.{at_place}
use Rattle.std.proofs.Common.{◌≡◌, ◌≢◌, ℕ, ◌+◌, ◌<◌, ◌≤◌, Bool, true, List, [], ◌∷◌, ◌++◌, length, get_or, set, zero, suc, sym, refl, ap, ◌∙◌, arith, append_assoc}
use Rattle.std.specs.Prelude.{Vec}
use Rattle.std.specs.Global.{Global}
use Rattle.pin_core.specs.declared.holders.Hold.{Hold}
use Rattle.std.specs.List.{count_by}
use Rattle.pin_core.specs.Holds.{Holding, tally, is_at_slot, is_hold, is_copy, with_hold, drop_first}
use Rattle.pin_core.specs.declared.id.Id.{Id}
use Rattle.pin_core.specs.Grouped.{all_of, AllAt, AreGrouped}
use Rattle.pin_core.proofs.Counts.{tally-count, count-append, drop-absent, drop-in-first, drop-in-later}

abbrev Group : Type 0
Group = Vec Hold Global

-- the test passes triples about the slot s alone
abbrev pub IsAbout : ℕ → (Hold → Bool) → Type 0
IsAbout s p = (h : Hold) → p h ≡ true → h.id.slot ≡ s

none-elsewhere : (p : Hold → Bool) (n s : ℕ) (hs : List Hold) → IsAbout s p → AllAt n hs → n ≢ s → tally p hs ≡ 0
none-elsewhere p n s [] about here apart = refl
none-elsewhere p n s (h ∷ hs) about here apart = search (arith, none-elsewhere p n s hs about here.1 apart)

none-after : (p : Hold → Bool) (n s : ℕ) (vs : List Group) → IsAbout s p → AreGrouped n vs → s < n
    → tally p (all_of vs) ≡ 0
none-after p n s [] about g lt = refl
none-after p n s (v ∷ vs) about g lt = let e = none-elsewhere p n s v.items about g.0 (λ z. let f : n ≡ s = z in
    omega arith) in
    let ih = none-after p (n + 1) s vs about g.1 (omega arith) in
    let both = count-append p v.items (all_of vs) in omega arith

-- a count over the set is one over the slot's list
pub count-grouped : (p : Hold → Bool) (n i s : ℕ) (vs : List Group) (d : Group) → s ≡ n + i → AreGrouped n vs
    → IsAbout s p → i < length vs
    → tally p (all_of vs) ≡ tally p (get_or vs i d).items
count-grouped p n i s [] d e g about inside = absurd (omega arith)
count-grouped p n zero s (v ∷ vs) d e g about inside = search (arith, none-after, count-append)
count-grouped p n (suc i) s (v ∷ vs) d e g about inside = let first =
    none-elsewhere p n s v.items about g.0 (λ z. let f : n ≡ s = z in omega arith) in
    let ih = count-grouped p (n + 1) i s vs d (omega arith) g.1 about (omega arith) in
    let both = count-append p v.items (all_of vs) in omega arith

count-all : (s : ℕ) (hs : List Hold) → AllAt s hs → tally (is_at_slot s) hs ≡ length hs
count-all s [] here = refl
count-all s (h ∷ hs) here = search (arith, count-all s hs here.1)

pub group-at : (n i s : ℕ) (vs : List Group) (d : Group) → s ≡ n + i → AreGrouped n vs → i < length vs
    → AllAt s (get_or vs i d).items
group-at n i s [] d e g inside = absurd (omega arith)
group-at n zero s (v ∷ vs) d e g inside = search arith
group-at n (suc i) s (v ∷ vs) d e g inside = group-at (n + 1) i s vs d (omega arith) g.1 (omega arith)

-- the pins of a slot are the length of its list
pub length-grouped : (s : ℕ) (vs : List Group) (d : Group) → AreGrouped 0 vs → s < length vs
    → length (get_or vs s d).items ≡ tally (is_at_slot s) (all_of vs)
length-grouped s vs d g inside = let e : s ≡ 0 + s = omega arith in
    sym (count-all s (get_or vs s d).items (group-at 0 s s vs d e g inside))
    ∙ sym (search (arith, count-grouped))

pub grouped-set : (n i s : ℕ) (vs : List Group) (v : Group) → s ≡ n + i → AreGrouped n vs → AllAt s v.items
    → AreGrouped n (set vs i v)
grouped-set n i s [] v e g here = tt
grouped-set n zero s (x ∷ vs) v e g here = search arith
grouped-set n (suc i) s (x ∷ vs) v e g here = (g.0, grouped-set (n + 1) i s vs v (omega arith) g.1 here)

pub all-same : (i : ℕ) (vs : List Group) (v d : Group) → v.items ≡ (get_or vs i d).items
    → all_of (set vs i v) ≡ all_of vs
all-same i [] v d e = refl
all-same zero (x ∷ vs) v d e = search arith
all-same (suc i) (x ∷ vs) v d e = search (arith, all-same i vs v d e)

pub AllAt-snoc : (s : ℕ) (hs : List Hold) (t : Hold) → AllAt s hs → t.id.slot ≡ s → AllAt s (hs ++ t ∷ [])
AllAt-snoc s [] t here e = (e, tt)
AllAt-snoc s (h ∷ hs) t here e = (here.0, AllAt-snoc s hs t here.1 e)

pub AllAt-drop_first : (s : ℕ) (p : Hold → Bool) (hs : List Hold) → AllAt s hs → AllAt s (drop_first p hs)
AllAt-drop_first s p [] here = tt
AllAt-drop_first s p (h ∷ hs) here = search (arith, AllAt-drop_first s p hs here.1)

-- a triple goes before the lists of later slots
with_hold-before : (n : ℕ) (t : Hold) (vs : List Group) → AreGrouped n vs → t.id.slot < n
    → with_hold t (all_of vs) ≡ t ∷ all_of vs
with_hold-before n t [] g lt = refl
with_hold-before n t (v ∷ vs) g lt = cases v.items g.0 (with_hold-before (n + 1) t vs g.1 (omega arith))
  where
    cases : (hs : List Hold) → AllAt n hs → with_hold t (all_of vs) ≡ t ∷ all_of vs
        → with_hold t (hs ++ all_of vs) ≡ t ∷ (hs ++ all_of vs)
    cases [] here ih = ih
    cases (h ∷ hs) here ih = search arith

-- and after the list of a slot that isn't later
with_hold-behind : (n : ℕ) (t : Hold) (hs ys : List Hold) → AllAt n hs → n ≤ t.id.slot
    → with_hold t (hs ++ ys) ≡ hs ++ with_hold t ys
with_hold-behind n t [] ys here le = refl
with_hold-behind n t (h ∷ hs) ys here le = search (arith, with_hold-behind n t hs ys here.1 le)

pub all-with_hold : (n i : ℕ) (t : Hold) (vs : List Group) (v d : Group) → t.id.slot ≡ n + i → AreGrouped n vs
    → i < length vs → v.items ≡ (get_or vs i d).items ++ t ∷ []
    → all_of (set vs i v) ≡ with_hold t (all_of vs)
all-with_hold n i t [] v d e g inside more = absurd (omega arith)
all-with_hold n zero t (x ∷ vs) v d e g inside more = ap (λ (z : List Hold). z ++ all_of vs) more
    ∙ (append_assoc x.items (t ∷ []) (all_of vs)
    ∙ (search (arith, with_hold-before, with_hold-behind)))
all-with_hold n (suc i) t (x ∷ vs) v d e g inside more =
    search (arith, with_hold-behind, all-with_hold (n + 1) i t vs v d (omega arith) g.1 (omega arith) more)

-- what leaves the slot's list leaves the set
pub all-drop_first : (p : Hold → Bool) (n i s : ℕ) (vs : List Group) (v d : Group) → s ≡ n + i → AreGrouped n vs
    → IsAbout s p → i < length vs → v.items ≡ drop_first p (get_or vs i d).items
    → all_of (set vs i v) ≡ drop_first p (all_of vs)
all-drop_first p n i s [] v d e g about inside less = absurd (omega arith)
all-drop_first p n zero s (x ∷ vs) v d e g about inside less = search (arith, none-after, drop-absent, drop-in-first, drop-in-later)
all-drop_first p n (suc i) s (x ∷ vs) v d e g about inside less =
    ap (λ (z : List Hold). x.items ++ z) (all-drop_first p (n + 1) i s vs v d (omega arith) g.1 about
    (omega arith) less)
    ∙ sym (drop-in-later p x.items (all_of vs) (none-elsewhere p n s x.items about g.0 (λ z. let f : n ≡ s = z in
    omega arith)))

abbrev pub AreEmpty : List Group → Type 0
AreEmpty [] = Unit {0}
AreEmpty (v ∷ vs) = (v.items ≡ []) × AreEmpty vs

pub AreEmpty-snoc : (vs : List Group) (v : Group) → AreEmpty vs → v.items ≡ [] → AreEmpty (vs ++ v ∷ [])
AreEmpty-snoc [] v h e = (e, tt)
AreEmpty-snoc (x ∷ vs) v h e = (h.0, AreEmpty-snoc vs v h.1 e)

pub grouped-empty : (n : ℕ) (vs : List Group) → AreEmpty vs → AreGrouped n vs
grouped-empty n [] h = tt
grouped-empty n (v ∷ vs) h = search (arith, grouped-empty (n + 1) vs h.1)

pub all-empty : (vs : List Group) → AreEmpty vs → all_of vs ≡ []
all-empty [] h = refl
all-empty (v ∷ vs) h = search (arith, all-empty vs h.1)

-- the set that the lists hold
abbrev pub holding : List Group → Holding
holding vs = record { slots = length vs; all = all_of vs }

pub inside_of : (w : Holding) (s : ℕ) (vs : List Group) → holding vs ≡ w → s < w.slots → s < length vs
inside_of w s vs is inside = search arith

pub grouped_same : (s : ℕ) (vs : List Group) (v x : Group) → s < length vs → AreGrouped 0 vs → x ≡ get_or vs s x
    → v.items ≡ x.items → AreGrouped 0 (set vs s v)
grouped_same s vs v x inside g at e = search (arith, group-at, grouped-set)

pub grouped_more : (t : Hold) (vs : List Group) (v x : Group) → t.id.slot < length vs → AreGrouped 0 vs
    → x ≡ get_or vs t.id.slot x → v.items ≡ x.items ++ t ∷ [] → AreGrouped 0 (set vs t.id.slot v)
grouped_more t vs v x inside g at e = search (arith, group-at, grouped-set, AllAt-snoc)

pub grouped_less : (p : Hold → Bool) (s : ℕ) (vs : List Group) (v x : Group) → s < length vs → AreGrouped 0 vs
    → x ≡ get_or vs s x → v.items ≡ drop_first p x.items → AreGrouped 0 (set vs s v)
grouped_less p s vs v x inside g at e = search (arith, group-at, grouped-set, AllAt-drop_first)

pub holding_same : (w : Holding) (s : ℕ) (vs : List Group) (v x : Group) → holding vs ≡ w → x ≡ get_or vs s x
    → v.items ≡ x.items → holding (set vs s v) ≡ w
holding_same w s vs v x is at e = grind (arith, at_place, all-same)

pub holding_more : (w : Holding) (t : Hold) (vs : List Group) (v x : Group) → holding vs ≡ w → t.id.slot < length vs
    → AreGrouped 0 vs → x ≡ get_or vs t.id.slot x → v.items ≡ x.items ++ t ∷ []
    → holding (set vs t.id.slot v) ≡ record { slots = w.slots; all = with_hold t w.all }
holding_more w t vs v x is inside g at e = grind (arith, at_place, all-with_hold)

pub holding_less : (w : Holding) (t : Hold) (vs : List Group) (v x : Group) → holding vs ≡ w → t.id.slot < length vs
    → AreGrouped 0 vs → x ≡ get_or vs t.id.slot x → v.items ≡ drop_first (is_hold t) x.items
    → holding (set vs t.id.slot v) ≡ record { slots = w.slots; all = drop_first (is_hold t) w.all }
holding_less w t vs v x is inside g at e = grind (arith, at_place, all-drop_first)

pub copies-held : (w : Holding) (r : ℕ) (id : Id) (vs : List Group) (x : Group) → holding vs ≡ w → id.slot < length vs
    → AreGrouped 0 vs → x ≡ get_or vs id.slot x → count_by (is_copy r id) x.items ≡ tally (is_copy r id) w.all
copies-held w r id vs x is inside g at = search (arith, count-grouped, tally-count)

pub pins_held : (w : Holding) (s : ℕ) (vs : List Group) (x : Group) → holding vs ≡ w → s < length vs → AreGrouped 0 vs
    → x ≡ get_or vs s x → length x.items ≡ tally (is_at_slot s) w.all
pins_held w s vs x is inside g at = search (arith, length-grouped)

pub holding_empty : (n : ℕ) (vs : List Group) → length vs ≡ n → AreEmpty vs
    → holding vs ≡ record { slots = n; all = [] }
holding_empty n vs e h = search (arith, all-empty)
