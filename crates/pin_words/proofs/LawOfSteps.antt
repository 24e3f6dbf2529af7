-- The law of the steps.
use Rattle.pin_words.proofs.Cited.{nat_tests, nat_le, ◌≡◌, ⊎_elim, ℕ, ◌<◌, ◌&&◌, nat_lt, List, [], ◌∷◌, replicate, sym, refl, ap, ◌∙◌, subst, arith, Id, Shape, Hold, Free, Live, tally, weight, hold_of, same_id, WorldState, opening_slot, at, copies, times, IsSafe, opening_at, times-le-copies, kept_while_held, may_read, may_publish, may_store, may_close, given_as-le, Note, KeeperView, ReaderView, View, keeper_gave, opening_keeper, Table, AreNoted, HoldsJust, HasReader, IsShown, ArePublished, CloseSteps, CopiesStay, FailedReclaimSteps, GivesReader, LoadSteps, NotesArePublished, PinSteps, PublishSteps, ReadSteps, ReaderAt, ReclaimSteps, ReleaseSteps, ShowsOneWorld, ShowsOpening, StoreSteps}
use Rattle.pin_words.proofs.Holdings.{has-copies}
use Rattle.pin_words.proofs.Steps.{keeper-at, reader-at, in-shape}
use Rattle.pin_words.proofs.ReaderSteps.{looks-shown, reader-pins, reader-releases, reader-notes}
use Rattle.pin_words.proofs.KeeperSteps.{found, keeper-publishes, keeper-closes, keeper-reclaims, keeper-looks, keeper-stores, pinned-still}
use Rattle.pin_words.proofs.Reseated.{gives-shown}

pub law-load : LoadSteps
law-load k s w j i v r sh here inside = record {
  can = search arith;
  shown = rw here.part at (looks-shown k s w sh j i v here.seated inside);
}

pub law-pin : PinSteps
law-pin k s w j i v r sh here inside live room = grind (arith, nat_tests, reader-pins)

held-inside : (k : Shape) (s : Table) (w : WorldState) (sh : IsShown k s w) (j : ℕ) (v : View) (r : ReaderView)
    (id : Id) → ReaderAt s j v r → 0 < tally (same_id id) r.held → (id.slot < k.slots) × (0 < copies w r.number id)
held-inside k s w sh j v r id here have =
    let c = has-copies w r id (reader-at k s w sh j v r here.seated here.part).held have in
    (subst (λ (z : Shape). id.slot < z.slots) sh.shape (sh.safe.held r.number id c).0, c)

pub law-release : ReleaseSteps
law-release k s w j v r id sh here have = let known = held-inside k s w sh j v r id here have in
    search (arith, reader-releases)

pub law-read : ReadSteps
law-read k s w j v r id d sh here have is = let known = held-inside k s w sh j v r id here have in
    let same : (at w id.slot).descr ≡ d = search arith in search (arith, may_read, reader-notes)

pub law-publish : PublishSteps
law-publish k s w j i v q sh here inside free =
    let there = found k s w sh j i v q here.seated here.part inside Free free in record {
      can = (may_publish w i (in-shape k s w sh i inside) there.0, refl);
      shown = keeper-publishes k s w sh j i v q here.seated here.part inside free;
    }

pub law-close : CloseSteps
law-close k s w j i v q sh here inside live =
    let there = found k s w sh j i v q here.seated here.part inside Live live in record {
      can = (may_close w i (in-shape k s w sh i inside) there.0, refl);
      shown = keeper-closes k s w sh j i v q here.seated here.part inside live;
    }

pub law-reclaim : ReclaimSteps
law-reclaim k s w j i v q sh here inside closing hit = search (arith, keeper-reclaims)

pub law-reclaim-failed : FailedReclaimSteps
law-reclaim-failed k s w j i n v q sh here inside closing miss = (
  search (arith, pinned-still),
  record {
    can = search arith;
    shown = rw here.part at (keeper-looks k s w sh j i v here.seated inside);
  },
)

pub law-store : StoreSteps
law-store k s w j i v q d sh here inside free valid =
    let there = found k s w sh j i v q here.seated here.part inside Free free in record {
      can = (may_store w i d (in-shape k s w sh i inside) there.0, refl);
      shown = keeper-stores k s w sh j i v q here.seated here.part inside d free valid;
    }

pub law-held : CopiesStay
law-held k s w j v r id n sh here first last =
    let own = (reader-at k s w sh j v r here.seated here.part).held id in
    let once : times w (hold_of r.number id n) ≡ 1 = search arith in
    (once, kept_while_held w sh.safe (hold_of r.number id n) (omega arith))

published-once : (w : WorldState) (xs : List Note) → IsSafe w → AreNoted w xs → ArePublished w xs
published-once w [] safe h = tt
published-once w (x ∷ xs) safe h = search (arith, given_as-le, published-once w xs safe h.1)

pub law-noted : NotesArePublished
law-noted k s w j v r sh here = let mine = reader-at k s w sh j v r here.seated here.part in
    search (arith, published-once)

pub law-gives : GivesReader
law-gives k s w j v q sh here = search (arith, gives-shown)

-- the views determine the world, but for the order in which it is listed
pub one-world : ShowsOneWorld
one-world k s a b p q =
    let h = p.kept in
    let x = keeper-at k s a p p.keeper h.0 h.1 h.2 h.3 in
    let y = keeper-at k s b q p.keeper h.0 h.1 h.2 h.3 in (
      p.shape ∙ sym q.shape,
      sym x.slots ∙ y.slots,
      sym x.published ∙ y.published,
      λ t. let same = copies-same t.reader in
          p.safe.numbered t.reader t.id t.copy ∙ (ap (λ (n : ℕ). weight (nat_lt 0 t.copy && nat_le t.copy n))
          (same t.id) ∙ sym (q.safe.numbered t.reader t.id t.copy)),
    )
  where
    with-seat : (r j : ℕ) → HasReader s.views j r → (id : Id) → copies a r id ≡ copies b r id
    with-seat r j g id =
        let x = reader-at k s a p j g.0 g.1 g.2 g.3 in
        let y = reader-at k s b q j g.0 g.1 g.2 g.3 in
        search arith

    copies-same : (r : ℕ) (id : Id) → copies a r id ≡ copies b r id
    copies-same r id = ⊎_elim
        (λ (e : HoldsJust a r []). ⊎_elim (search arith) (λ g. with-seat r (q.owner r) g id) (q.owned r))
        (λ g. with-seat r (p.owner r) g id) (p.owned r)

-- where each slot is an opening one, nothing is held
opening-free : (w : WorldState) (n : ℕ) → IsSafe w → w.slots ≡ replicate n opening_slot → (t : Hold) → times w t ≡ 0
opening-free w n safe is t = search (arith, opening_at, times-le-copies)

-- a keeper that knows each slot as an opening one, and published nothing, is that of the opening world
pub shows_opening : (q : KeeperView) (k : Shape) → q ≡ keeper_gave (opening_keeper k) → ShowsOpening q
shows_opening q k is s w j v sh here =
    let mine = keeper-at q.shape s w sh j v q here.seated here.part in
    let slots : w.slots ≡ replicate q.shape.slots opening_slot = rw (← mine.slots, is) refl in (
      sh.shape,
      slots,
      rw (← mine.published, is) refl,
      opening-free w q.shape.slots sh.safe slots,
    )
