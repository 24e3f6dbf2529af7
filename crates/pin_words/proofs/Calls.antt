-- What the calls of readers and of the keeper need of the steps.
use Rattle.pin_words.proofs.Cited.{nat_tests, at_place, ◌≡◌, ◌≢◌, ⊎_elim, ℕ, ◌<◌, List, [], ◌∷◌, ◌++◌, length, get_or, set, Some, sym, refl, ap, ◌∙◌, arith, append_assoc, get_or_read, none, step, Allows, Word, Id, Descr, Free, Live, Shape, Slot, decoded, tally, drop_last, same_id, slot_of, reclaimed, count-snoc, count-drop_last-le, Look, KeeperView, ReaderView, IsPlace, place_of, descr_place, M, view, look, id_in, reader_with, reader_got, reader_released, keeper_with, keeper_stored, reader_of, keeper_of, IsReaders, IsKeepers, Shown, Behind, got_view, released, noted, stored, Stale, Go, verdict_of, Err, option_map, StaleStays, HasOnlyLooked, WasStale, Tries}
use Rattle.pin_core.specs.Descrs as descr_code
use Rattle.pin_words.specs.declared.fault.PinFault.TheVariants as fault
use Rattle.pin_words.proofs.ReaderSteps.{notes-step}
use Rattle.pin_words.proofs.KeeperSteps.{stores-step}
use Rattle.pin_words.proofs.Losing.{lost-onward}

pub go-means : (max : ℕ) (id : Id) (w : Word) → verdict_of max id w ≡ Go
    → (w.phase ≡ Live) × (w.generation ≡ id.generation) × (w.pins ≢ max)
go-means max id w e = search arith

pub slot-known : (xs ys : List Slot) (i : ℕ) (y : Slot) → xs ≡ ys → i < length ys → y ≡ get_or ys i y → y ≡ slot_of xs i
slot-known xs ys i y same inside is = search (arith, get_or_read)

-- what is left where a step changes one of the keeper's slots, and so does its list
pub slot-changed : (v v' : KeeperView) (ps : List (Id × Descr)) (ls : List Look) (k : Shape) (xs : List Slot) (s : ℕ)
    (was : Slot) (f : Slot → Slot) → v' ≡ keeper_with v (set v.slots s (f (slot_of v.slots s))) ps ls → v.shape ≡ k
    → v.slots ≡ xs → length xs ≡ k.slots → s < k.slots → was ≡ get_or xs s was
    → (v'.shape ≡ k) × (v'.slots ≡ set xs s (f was)) × (length (set xs s (f was)) ≡ k.slots)
slot-changed v v' ps ls k xs s was f now shape knows long inside is = grind (arith, at_place, slot-known)

-- a slot that is reclaimed keeps its descriptor
pub reclaimed-kept : (max : ℕ) (was kept : Slot) → kept ≡ was
    → record { generation = (reclaimed max was).generation; phase = (reclaimed max was).phase; descr = kept.descr }
    ≡ reclaimed max was
reclaimed-kept max was kept same = search arith

pub released-one : (n p : ℕ) (m m' : M) (id : Id) → IsPlace place_of p id.slot → IsReaders m
    → released (step 0 p 1 0 none) m n m' → 0 < tally (same_id id) (reader_of m.0).held
    → IsReaders m' × (reader_of m'.0 ≡ reader_released (reader_of m.0) id)
released-one n p m m' id at reads does have = search (arith, reader_of, view, reader_released, id_in)

-- what an exchange that won leaves to its caller
pub got-one : (n : ℕ) (m m' : M) (id : Id) → IsReaders m → m' ≡ (got_view m.0 id.slot n, m.1)
    → (decoded n).generation ≡ id.generation → IsReaders m' × (reader_of m'.0 ≡ reader_got (reader_of m.0) id n)
got-one n m m' id reads did gen = search arith

-- what a change of the one part of a seat leaves to its caller
pub read-one : (f : ReaderView → ReaderView) (m m' : M) → IsReaders m
    → m' ≡ (view m.0.keeper (option_map f m.0.reader), m.1)
    → IsReaders m' × (reader_of m'.0 ≡ f (reader_of m.0))
read-one f m m' reads did = search arith

pub kept-one : (f : KeeperView → KeeperView) (m m' : M) → IsKeepers m
    → m' ≡ (view (option_map f m.0.keeper) m.0.reader, m.1)
    → IsKeepers m' × (keeper_of m'.0 ≡ f (keeper_of m.0))
kept-one f m m' keeps did = search arith

-- what a store leaves to its caller
pub stored-one : (n : ℕ) (m m' : M) (s w : ℕ) (d : Descr) → IsKeepers m
    → ((k : KeeperView) (i : ℕ) (e : Descr) → m.0.keeper ≡ Some k → IsPlace descr_place w i → descr_code.IsGiven e
    → n ≡ descr_code.encoded e → m' ≡ (view (Some (keeper_stored k i e)) m.0.reader, m.1))
    → IsPlace descr_place w s → descr_code.IsGiven d → n ≡ descr_code.encoded d
    → IsKeepers m' × (keeper_of m'.0 ≡ keeper_stored (keeper_of m.0) s d)
stored-one n m m' s w d mine did is valid n-is =
    let now = did (keeper_of m.0) s d (rw mine refl) is valid n-is in rw now (rw mine (refl, refl))

pub stores-there : (key : Shape) (slots id i p x : ℕ) (me : M) (v : KeeperView) (d : Descr) (k : Shape)
    → IsPlace descr_place p i → key ≡ k → me.0.keeper ≡ Some v → i < k.slots → (slot_of v.slots i).phase ≡ Free
    → descr_code.IsGiven d → x ≡ descr_code.encoded d
    → Allows (Shown key) slots id me p (λ _. x) (λ _. stored (step slots p x 0 none) me x)
stores-there key slots id i p x me v d k at same is inside free descr-given x-is =
    rw (same, at.is) (stores-step k slots id i x me v d is inside free descr-given x-is)

pub notes-there : (key : Shape) (slots id p : ℕ) (me : M) (r : ReaderView) (y : Id) (k : Shape)
    → IsPlace descr_place p y.slot → key ≡ k → me.0.reader ≡ Some r → y.slot < k.slots → 0 < tally (same_id y) r.held
    → Allows (Shown key) slots id me p (λ n. n) (noted (step slots p 0 0 none) me)
notes-there key slots id p me r y k at same is inside have =
    rw (same, at.is) (notes-step k slots id y.slot me r y is refl inside have)

-- a held Id is one of these, or the new one
pub inside-more : (n : ℕ) (id : Id) (xs : List Id) → id.slot < n → ((x : Id) → 0 < tally (same_id x) xs → x.slot < n)
    → (x : Id) → 0 < tally (same_id x) (xs ++ id ∷ []) → x.slot < n
inside-more n id xs lt all x have = search (arith, count-snoc)

pub inside-less : (n : ℕ) (id : Id) (xs : List Id) → ((x : Id) → 0 < tally (same_id x) xs → x.slot < n) → (x : Id)
    → 0 < tally (same_id x) (drop_last (same_id id) xs) → x.slot < n
inside-less n id xs all x have = search (arith, count-drop_last-le)

-- what was stale is stale at each later word
pub stays-stale : (max : ℕ) (id : Id) (ls : List Look) (n : ℕ) → WasStale max id ls → Behind ls id.slot n
    → verdict_of max id (decoded n) ≡ Stale
stays-stale max id [] n h b = absurd h
stays-stale max id (l ∷ ls) n h b = ⊎_elim (λ (t : (l.slot ≡ id.slot)
    × (verdict_of max id (decoded l.word) ≡ Stale)). grind (arith, nat_tests))
    (λ t. stays-stale max id ls n t b.1) h

pub busy-looked : (r r' : ReaderView) (id : Id) (seen : Word) → Tries r id (Err (fault.Busy seen)) r'
    → HasOnlyLooked r r'
busy-looked r r' id seen t = let found = lost-onward r r' id seen t in
    (look id.slot found.1 ∷ look id.slot found.0 ∷ [], found.2)

pub looked-more : (a b c : ReaderView) → HasOnlyLooked a b → HasOnlyLooked b c → HasOnlyLooked a c
looked-more a b c g h = (
  h.0 ++ g.0,
  h.1 ∙ (ap (λ (z : ReaderView). reader_with z z.held z.notes (h.0 ++ z.looks)) g.1
      ∙ ap (reader_with a a.held a.notes) (sym (append_assoc h.0 g.0 a.looks))),
)

-- what a reader found stale it never pins again
pub stale-answers : StaleStays
stale-answers r r' id res t inside was = search (arith, stays-stale)
