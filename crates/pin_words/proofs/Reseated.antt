-- Seats that are split and joined leave the world as it is.
use Rattle.pin_words.proofs.Cited.{nat_tests, IfSome, ◌≡◌, ◌≢◌, inl, inr, ⊎_elim, ℕ, ◌+◌, ◌<◌, ◌≤◌, ◌==◌, cond, List, [], ◌∷◌, ◌++◌, length, replicate, set, zero, suc, Some, None, sym, refl, ◌∙◌, subst, arith, some, some-ne-none, some-injective, ℕ_discrete, dite, get_elem?, length-replicate, IfSome_then, Splits, Joins, opening, set_here, set_else, set_again, at_longer, at_last, Shape, Slot, IsWithinLimits, WorldState, opening_slot, opened_with, Opens, opening_at, KeeperView, ReaderView, View, AreLaid, view, keeper_gave, opening_keeper, keeper_with_slots, view_with_slots, with_views, Table, HoldsJust, OfReader, Agrees, HasKeeper, HasReader, IsShown, Shown, gave, spent, joined, keeper_part, reader_part}
use Rattle.pin_core.proofs.Openings.{opened-safe, opening-is}
use Rattle.pin_words.specs.Plays as play
use Rattle.pin_words.proofs.Steps.{each-set, keeper-at, reader-at, in-list, has-keeper, has-reader, turn-keeper}

each-push : (P : ℕ → View → Type 0) (vs : List View) (a : View) → P (length vs) a
    → ((j : ℕ) (u : View) → get_elem? vs j ≡ some u → P j u)
    → (j : ℕ) (u : View) → get_elem? (vs ++ a ∷ []) j ≡ some u → P j u
each-push P [] a new old zero u e = subst (P 0) (some-injective a u e) new
each-push P [] a new old (suc j) u e = absurd (some-ne-none u (sym e))
each-push P (x ∷ xs) a new old zero u e = old 0 u e
each-push P (x ∷ xs) a new old (suc j) u e = each-push (λ n. P (suc n)) xs a new (λ i. old (suc i)) j u e

-- the seats of the readers, once the reader n has the seat q
abbrev moved-owner : ℕ → ℕ → (ℕ → ℕ) → ℕ → ℕ
moved-owner n q owner r = cond (r == n) q (owner r)

by-owner : (P : ℕ → ℕ → Type 0) (n q : ℕ) (owner : ℕ → ℕ) → P q n → ((r : ℕ) → r ≢ n → P (owner r) r)
    → (r : ℕ) → P (moved-owner n q owner r) r
by-owner P n q owner new old r = dite (ℕ_discrete r n) (search arith) (search arith)

-- the table at the start
pub opens : (k : Shape) (slots : List Slot) (words : List ℕ) → IsWithinLimits k → Opens k slots
    → AreLaid slots (length slots) words → Shown k (opening words [] (view_with_slots k slots))
opens k slots words fits begins are = (
  opened_with k slots,
  record {
    fits = fits;
    shape = refl;
    wide = search arith;
    safe = opened-safe k slots begins;
    words = λ i h. are.words i (inside i h);
    descrs = λ i h. are.descrs i (inside i h);
    given = λ i h. (begins.each i h).given;
    keeper = 0;
    next = 1;
    owner = λ _. 0;
    each = each-push (Agrees (opened_with k slots) 0 1 (λ _. 0)) [] (view_with_slots k slots) (search arith, tt)
        (λ j u e. absurd (some-ne-none u (sym e)));
    unborn = λ r later x. refl;
    kept = (view_with_slots k slots, keeper_with_slots k slots, refl, refl);
    owned = λ r. inl (λ x. refl);
  },
)
  where
    inside : (i : ℕ) → i < k.slots → i < length slots
    inside i h = search arith

-- slots of which nothing was asked
pub fresh_opens : (k : Shape) (slots : List Slot) → IsWithinLimits k → slots ≡ replicate k.slots opening_slot
    → Opens k slots
fresh_opens k slots fits are = search (arith, length-replicate, opening_at)

pub fresh_keeper : (k : Shape) (slots : List Slot) → slots ≡ replicate k.slots opening_slot
    → keeper_with_slots k slots ≡ opening_keeper k
fresh_keeper k slots are = search (arith, opening-is)

-- the parts of a seat that stays, where the reader n gets another seat
stays : (w : WorldState) (keeper next : ℕ) (owner : ℕ → ℕ) (n q j : ℕ) (u : View) → j ≢ owner n
    → Agrees w keeper next owner j u → Agrees w keeper next (moved-owner n q owner) j u
stays w keeper next owner n q j u other a = search arith

-- a reader's part on its new seat
moves : (w : WorldState) (next : ℕ) (owner : ℕ → ℕ) (j q : ℕ) (r : ReaderView) → OfReader w next owner j r
    → OfReader w next (moved-owner r.number q owner) q r
moves w next owner j q r a = search arith

longer-keeper : (vs ws : List View) (j : ℕ) → HasKeeper vs j → HasKeeper (vs ++ ws) j
longer-keeper vs ws j h = search (arith, at_longer)

longer-reader : (vs ws : List View) (j r : ℕ) → HasReader vs j r → HasReader (vs ++ ws) j r
longer-reader vs ws j r h = search (arith, at_longer)

-- a seat that had another reader, or none
still-reader : (vs : List View) (id j r : ℕ) (v v' : View) → get_elem? vs id ≡ some v
    → IfSome v.reader (λ x. x.number ≢ r) → HasReader vs j r → HasReader (set vs id v') j r
still-reader vs id j r v v' seated another h = search (arith, ℕ_discrete, set_else)

module _ (k : Shape) (s : Table) (W : WorldState) (sh : IsShown k s W) where
  -- the same world under other views
  reseated : (next : ℕ) (owner : ℕ → ℕ) (views : List View)
      → ((j : ℕ) (u : View) → get_elem? views j ≡ some u → Agrees W sh.keeper next owner j u)
      → ((r : ℕ) → next ≤ r → HoldsJust W r []) → HasKeeper views sh.keeper
      → ((r : ℕ) → HasReader s.views (sh.owner r) r → HasReader views (owner r) r)
      → IsShown k (with_views s views) W
  reseated next owner views each unborn kept moves = record {
    fits = sh.fits;
    shape = sh.shape;
    wide = sh.wide;
    safe = sh.safe;
    words = sh.words;
    descrs = sh.descrs;
    given = sh.given;
    keeper = sh.keeper;
    next = next;
    owner = owner;
    each = each;
    unborn = unborn;
    kept = kept;
    owned = λ r. ⊎_elim inl (λ h. inr (moves r h)) (sh.owned r);
  }

  -- a new reader
  pub gives-shown : (id : ℕ) (me : View) (v : KeeperView) → get_elem? s.views id ≡ some me → me.keeper ≡ Some v
      → IsShown k (with_views s (set s.views id (gave me) ++ play.given me ∷ [])) W
  gives-shown id me v seated is =
      let was = sh.each id me seated in
      let mine = keeper-at k s W sh id me v seated is in
      let vs = set s.views id (gave me) in
      let owner' = moved-owner sh.next (length vs) sh.owner in
      let old-reader : (j : ℕ) (r : ReaderView) → OfReader W sh.next sh.owner j r
      → OfReader W (sh.next + 1) owner' j r = λ j r a. grind (arith, nat_tests) in
      let agree = Agrees W sh.keeper (sh.next + 1) owner' in
      reseated (sh.next + 1) owner' (vs ++ play.given me ∷ [])
      (each-push agree vs (play.given me) (tt, search arith)
      (each-set agree s.views id (gave me) (search arith, IfSome_then me.reader was.1 (old-reader id))
      (λ j u other e. let a = sh.each j u e in (
        IfSome_then u.keeper a.0 (λ q b. absurd (other (b.mine ∙ sym mine.mine))),
        IfSome_then u.reader a.1 (old-reader j),
      ))))
      (λ r later. sh.unborn r (omega arith))
      (longer-keeper vs (play.given me ∷ []) sh.keeper
      (has-keeper s.views id sh.keeper me (gave me) seated (turn-keeper me keeper_gave) sh.kept))
      (by-owner (λ q r. HasReader s.views (sh.owner r) r → HasReader (vs ++ play.given me ∷ []) q r) sh.next (length vs)
      sh.owner
      (λ h. absurd (let b = reader-at k s W sh (sh.owner sh.next) h.0 h.1 h.2 h.3 in search arith))
      (λ r ne h. longer-reader vs (play.given me ∷ []) (sh.owner r) r
      (has-reader s.views id (sh.owner r) r me (gave me) seated (turn-keeper me keeper_gave) h)))

  -- a seat that knows nothing
  pub blanks-shown : (id : ℕ) (me : View) → get_elem? s.views id ≡ some me
      → IsShown k (with_views s (set s.views id me ++ spent ∷ [])) W
  blanks-shown id me seated =
      rw (set_again s.views id me seated) (reseated sh.next sh.owner (s.views ++ spent ∷ [])
      (each-push (Agrees W sh.keeper sh.next sh.owner) s.views spent (tt, tt) sh.each) sh.unborn
      (longer-keeper s.views (spent ∷ []) sh.keeper sh.kept) (λ r. longer-reader s.views (spent ∷ []) (sh.owner r) r))

  -- two seats in one
  pub joins_shown : (id other : ℕ) (kv : KeeperView) (rv : ReaderView)
      → get_elem? s.views id ≡ some (view (Some kv) None) → other ≢ id
      → get_elem? (set s.views id (view (Some kv) (Some rv))) other ≡ some (view None (Some rv))
      → IsShown k (with_views s (set (set s.views id (view (Some kv) (Some rv))) other spent)) W
  joins_shown id other kv rv seated apart seated' =
      let one = view (Some kv) (Some rv) in
      let vs = set s.views id one in
      let a = sh.each id (view (Some kv) None) seated in
      let b = sh.each other (view None (Some rv)) (sym (set_else s.views id other one apart) ∙ seated') in
      let owner' = moved-owner rv.number id sh.owner in
      let agree = Agrees W sh.keeper sh.next owner' in
      let there : get_elem? (set vs other spent) id ≡ some one = set_else vs other id spent (λ e. apart (sym e))
      ∙ set_here s.views id one (in-list s.views id (view (Some kv) None) seated) in
      reseated sh.next owner' (set vs other spent)
      (each-set agree vs other spent (tt, tt)
      (λ j u away e. each-set (λ j u. j ≢ other → agree j u) s.views id one
      (λ _. (a.0, moves W sh.next sh.owner other id rv b.1))
      (λ j u _ e away. stays W sh.keeper sh.next sh.owner rv.number id j u (λ e. away (e ∙ b.1.mine)) (sh.each j u e))
      j u e away))
      sh.unborn (rw (← a.0.mine) (one, kv, there, refl))
      (by-owner (λ q r. HasReader s.views (sh.owner r) r → HasReader (set vs other spent) q r) rv.number id sh.owner
      (λ _. (one, rv, there, refl, refl))
      (λ r ne h. still-reader vs other (sh.owner r) r (view None (Some rv)) spent seated' (λ e. ne (sym e))
      (still-reader s.views id (sh.owner r) r (view (Some kv) None) one seated tt h)))

  -- a joined seat in two
  pub parts-shown : (id : ℕ) (kv : KeeperView) (rv : ReaderView)
      → get_elem? s.views id ≡ some (view (Some kv) (Some rv))
      → IsShown k (with_views s (set s.views id (view (Some kv) None) ++ view None (Some rv) ∷ [])) W
  parts-shown id kv rv seated =
      let one = view (Some kv) (Some rv) in
      let vs = set s.views id (view (Some kv) None) in
      let a = sh.each id one seated in
      let owner' = moved-owner rv.number (length vs) sh.owner in
      let agree = Agrees W sh.keeper sh.next owner' in
      let all = vs ++ view None (Some rv) ∷ [] in
      reseated sh.next owner' all
      (each-push agree vs (view None (Some rv)) (tt, moves W sh.next sh.owner id (length vs) rv a.1)
      (each-set agree s.views id (view (Some kv) None) (a.0, tt)
      (λ j u away e. stays W sh.keeper sh.next sh.owner rv.number (length vs) j u (λ e. away (e ∙ a.1.mine))
      (sh.each j u e))))
      sh.unborn
      (longer-keeper vs (view None (Some rv) ∷ []) sh.keeper
      (rw (← a.0.mine) (view (Some kv) None, kv, set_here s.views id _ (in-list s.views id one seated), refl)))
      (by-owner (λ q r. HasReader s.views (sh.owner r) r → HasReader all q r) rv.number (length vs) sh.owner
      (λ _. (view None (Some rv), rv, at_last vs (view None (Some rv)) (length vs) refl, refl, refl))
      (λ r ne h. longer-reader vs (view None (Some rv) ∷ []) (sh.owner r) r
      (still-reader s.views id (sh.owner r) r one (view (Some kv) None) seated (λ e. ne (sym e)) h)))

pub gives : (k : Shape) (id : ℕ) (me : View) (v : KeeperView) → me.keeper ≡ Some v
    → Splits (Shown k) id me (gave me) (play.given me)
gives k id me v is s a6 seated = search (arith, gives-shown)

pub blanks : (k : Shape) (id : ℕ) (me : View) → Splits (Shown k) id me me spent
blanks k id me s a4 seated = search (arith, blanks-shown)

pub joins-any : (k : Shape) (id other : ℕ) (me me' : View) (kv : KeeperView) (rv : ReaderView)
    → me ≡ view (Some kv) None → me' ≡ view None (Some rv) → Joins (Shown k) id me other me' (joined me me') spent
joins-any k id other me me' kv rv a b = search (arith, joins_shown)

pub parts-any : (k : Shape) (id : ℕ) (me : View) (kv : KeeperView) (rv : ReaderView) → me ≡ view (Some kv) (Some rv)
    → Splits (Shown k) id me (keeper_part me) (reader_part me)
parts-any k id me kv rv a = rw a (λ s shown seated. search (arith, parts-shown))
