-- Who holds what: triples of a reader, an Id and a copy number.
use Rattle.std.specs.Prelude.{ℕ, ◌+◌, ◌==◌, ◌&&◌, nat_lt, Bool, true, false, if◌then◌else◌, List, [], ◌∷◌, reverse}
use Rattle.pin_core.specs.declared.id.Id.{Id}
use Rattle.pin_core.specs.declared.holders.Hold.{Hold}

abbrev pub weight : Bool → ℕ
weight true = 1
weight false = 0

-- how many elements pass the test
abbrev pub tally : {X : Type 0} → (X → Bool) → List X → ℕ
tally p [] = 0
tally p (x ∷ xs) = weight (p x) + tally p xs

abbrev pub same_id : Id → Id → Bool
same_id a b = (a.slot == b.slot) && (a.generation == b.generation)

-- the triple is about the slot
abbrev pub is_at_slot : ℕ → Hold → Bool
is_at_slot s h = h.id.slot == s

-- the triple is a copy of the Id that the reader holds
abbrev pub is_copy : ℕ → Id → Hold → Bool
is_copy r id h = (h.reader == r) && same_id h.id id

-- the triple is t
abbrev pub is_hold : Hold → Hold → Bool
is_hold t h = is_copy t.reader t.id h && (h.copy == t.copy)

abbrev pub hold_of : ℕ → Id → ℕ → Hold
hold_of r id k = record { reader = r; id = id; copy = k }

-- the set with the triple in it; a set of triples is listed slot by slot
abbrev pub with_hold : Hold → List Hold → List Hold
with_hold t [] = t ∷ []
with_hold t (h ∷ hs) = if nat_lt t.id.slot h.id.slot then (t ∷ h ∷ hs) else (h ∷ with_hold t hs)

-- the list without its first element that passes the test
abbrev pub drop_first : {X : Type 0} → (X → Bool) → List X → List X
drop_first p [] = []
drop_first p (x ∷ xs) = if p x then xs else (x ∷ drop_first p xs)

-- the list without its last element that passes the test
abbrev pub drop_last : {X : Type 0} → (X → Bool) → List X → List X
drop_last p xs = reverse (drop_first p (reverse xs))

-- the set of triples over this many slots
pub record Holding : Type 0 where
  pub slots : ℕ
  pub all : List Hold

abbrev pub with_one : Holding → Hold → Holding
with_one h t = record { slots = h.slots; all = with_hold t h.all }

abbrev pub without : Holding → Hold → Holding
without h t = record { slots = h.slots; all = drop_first (is_hold t) h.all }
