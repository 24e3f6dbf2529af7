-- The steps of a reader keep the rule of the table.
use Rattle.pin_words.proofs.Cited.{nat_tests, IfSome, ◌≡◌, ◌≢◌, inl, inr, ℕ, ◌+◌, ◌-◌, ◌%◌, ◌^◌, ◌<◌, ◌==◌, eqb, true, List, [], ◌∷◌, ◌++◌, get_or-set_other, Some, sym, refl, ap, ◌∙◌, subst, arith, IfSome_then, same_Some, none, some, ℕ_discrete, dite, get_elem?, step, Act, keeps, stepped, carried_after, Valid, Allows, set_here, exchanged, Word, Id, Descr, Live, Shape, Hold, Pin, Release, encoded, decoded, tally, weight, is_at_slot, is_copy, is_hold, with_hold, drop_first, drop_last, same_id, WorldState, at, id_at, pins, copies, last_copy, next_copy, word_at, given_as, after, with_holders, IsSafe, may_be_held, safe_kept, may_release, copies-le-pins, count-with_hold, Look, Note, ReaderView, View, IsPlace, place_of, descr_place, M, view, look, id_in, notes_of, reader_with, reader_got, reader_released, reader_noted, after_step, descr_word, word, Stands, Table, NotAhead, AreNoted, HoldsJust, OfReader, IsShown, Shown, TellsReader, looked_view, got_view, released_view, looked, pinned, released, noted}
use prog.Atomic.{either}
use Rattle.pin_core.proofs.Holding.{release-count}
use Rattle.pin_words.proofs.Bits.{sub_one}
use Rattle.pin_words.proofs.Apart.{few, apart, unlike, pin-set}
use Rattle.pin_words.proofs.Holdings.{holds-more, holds-same-more, holds-less, holds-same-less, has-copies, noted-left}
use Rattle.pin_words.proofs.Steps.{reader-at, in-list, step-shown, still-shown, found-is, in-shape, when-here, held-found, stood, told, met, past-here, turn-reader, turn-to, looks-agree, keeper-stays, reader-stays, at-slot}

-- a held Id is the one of its slot
held-is : (w : WorldState) (next : ℕ) (owner : ℕ → ℕ) (id : ℕ) (r : ReaderView) (x : Id) → IsSafe w
    → OfReader w next owner id r → 0 < tally (same_id x) r.held
    → (x.slot < w.shape.slots) × (x.generation ≡ (at w x.slot).generation) × (may_be_held (at w x.slot).phase ≡ true)
held-is w next owner id r x safe mine have = search arith

-- a reader, at its seat, and a slot
module _ (k : Shape) (s : Table) (W : WorldState) (sh : IsShown k s W) (id i : ℕ) (v : View) (r : ReaderView)
    (seated : get_elem? s.views id ≡ some v) (is : v.reader ≡ Some r) (inside : i < k.slots) where
  -- a step that changes its holds
  reader-goes : (n : ℕ) (hs : List Hold) (held : List Id) (notes : List Note) (looks : List Look)
      → IsSafe (with_holders W hs) → n ≡ encoded (word_at (with_holders W hs) i)
      → ((j : ℕ) → j ≢ i → tally (is_at_slot j) hs ≡ pins W j)
      → ((q : ℕ) → r.number ≢ q → (x : Id) → tally (is_copy q x) hs ≡ copies W q x)
      → HoldsJust (with_holders W hs) r.number held → AreNoted W notes → NotAhead W looks
      → IsShown k (after_step s (place_of i) n id (view v.keeper (Some (reader_with r held notes looks))))
      (with_holders W hs)
  reader-goes n hs held notes looks safe word-is pins-same parts-same holds noted looked =
      let w' : WorldState = with_holders W hs in
      let r' : ReaderView = reader_with r held notes looks in
      let was = sh.each id v seated in
      let mine = reader-at k s W sh id v r seated is in
      step-shown k s W sh id (place_of i) n (view v.keeper (Some r')) w' sh.shape safe
      (λ j h. let was = sh.words j h in let new = pin-set k.slots s.words i n sh.fits.1 sh.wide inside j h in
      let same = pins-same j in grind (arith, nat_tests))
      (λ j h. get_or-set_other s.words (place_of i) (descr_place j) n 0 (λ e. unlike i j (sym e)) ∙ sh.descrs j h)
      sh.given
      (IfSome_then v.keeper was.0 (keeper-stays W hs sh.keeper sh.next id), grind arith)
      (λ j u other a. (
        IfSome_then u.keeper a.0 (keeper-stays W hs sh.keeper sh.next j),
        IfSome_then u.reader a.1 (λ q b. reader-stays W hs sh.next sh.owner j q
            (parts-same q.number (λ e. other (sym b.mine ∙ (ap sh.owner (sym e) ∙ mine.mine)))) b),
      ))
      (λ q later x. parts-same q (λ e. let b = mine.born in omega arith) x ∙ sh.unborn q later x)
      v seated (turn-to v r r' is refl)
      (λ q e. dite (ℕ_discrete r.number q)
      (λ same. inr (
        view v.keeper (Some r'),
        r',
        rw (← same, mine.mine) (set_here s.views id _ (in-list s.views id v seated)),
        refl,
        same,
      ))
      (λ ne. inl (λ x. parts-same q ne x ∙ e x)))

  pub reader-pins : (decoded (word s i)).phase ≡ Live → (decoded (word s i)).pins ≢ k.max_pins
      → IsShown k (after_step s (place_of i) (word s i + 1) id
      (view v.keeper (Some (reader_got r (id_in i (word s i)) (word s i))))) (after W (Pin r.number i (word_at W i)))
  reader-pins live room =
      let mine = reader-at k s W sh id v r seated is in
      let t : Hold = next_copy W r.number i in
      let hs : List Hold = with_hold t W.holders in
      let more : (j : ℕ) → tally (is_at_slot j) hs ≡ pins W j + weight (i == j) =
      λ j. count-with_hold (is_at_slot j) t W.holders in
      let here : id_in i (word s i) ≡ id_at W i = λ c. record {
        slot = i;
        generation = ap (λ (y : Word). y.generation) (found-is k s W sh i inside) c;
      } in
      rw here (reader-goes (word s i + 1) hs (r.held ++ id_at W i ∷ []) r.notes (look i (word s i) ∷ r.looks)
      (safe_kept W (Pin r.number i (word_at W i)) sh.safe (grind (arith, nat_tests)))
      (let one = more i in let old = sh.words i inside in grind (arith, nat_tests))
      (λ j ne. let m = more j in grind (arith, nat_tests))
      (λ q ne x. holds-same-more W q r.number (id_at W i) t.copy ne x)
      (holds-more W r.number r.held (id_at W i) t.copy mine.held)
      mine.notes (past-here k s W sh i inside, mine.looks))

-- a reader, at its seat, and what it holds
module _ (k : Shape) (s : Table) (W : WorldState) (sh : IsShown k s W) (id : ℕ) (v : View) (r : ReaderView) (x : Id)
    (seated : get_elem? s.views id ≡ some v) (is : v.reader ≡ Some r) (inside : x.slot < k.slots)
    (have : 0 < tally (same_id x) r.held) where
  owned : 0 < copies W r.number x
  owned = has-copies W r x (reader-at k s W sh id v r seated is).held have

  -- a held slot has a pin
  pub has-pin : 0 < word s x.slot
  has-pin = search (arith, owned, copies-le-pins, word, encoded, word_at)

  pub reader-releases : IsShown k (after_step s (place_of x.slot) (word s x.slot - 1) id
      (view v.keeper (Some (reader_released r x)))) (after W (Release r.number x))
  reader-releases =
      let i = x.slot in
      let mine = reader-at k s W sh id v r seated is in
      let hs = drop_first (is_hold (last_copy W r.number x)) W.holders in
      let held = drop_last (same_id x) r.held in
      let less : (j : ℕ) → tally (is_at_slot j) hs + weight (i == j) ≡ pins W j =
      λ j. release-count W r.number x sh.safe owned (is_at_slot j) in
      reader-goes k s W sh id i v r seated is inside (word s i - 1) hs held (notes_of held r.notes) r.looks
      (safe_kept W (Release r.number x) sh.safe (may_release W r.number x (in-shape k s W sh i inside) owned))
      (let one = less i in let old = sh.words i inside in grind (arith, nat_tests))
      (λ j ne. let m = less j in grind (arith, nat_tests))
      (λ q ne y. holds-same-less W q r.number x sh.safe owned ne y)
      (holds-less W r.number r.held x sh.safe mine.held owned) (noted-left W held r.notes mine.notes) mine.looks

  pub reader-notes : IsShown k (after_step s (descr_place x.slot) (descr_word s x.slot) id
      (view v.keeper (Some (reader_noted r x (at W x.slot).descr)))) W
  reader-notes =
      let was = sh.each id v seated in
      let mine = reader-at k s W sh id v r seated is in
      let known = held-is W sh.next sh.owner id r x sh.safe mine have in
      let shown : given_as W (id_at W x.slot) (at W x.slot).descr ≡ 1 = search arith in
      let own : given_as W x (at W x.slot).descr ≡ 1 = search arith in
      still-shown k s W sh id (descr_place x.slot) _ (was.0, grind arith) v seated (turn-to v r _ is refl)

tells-all : (k : Shape) (s : Table) (W : WorldState) (sh : IsShown k s W) (id i : ℕ) (v : View)
    → get_elem? s.views id ≡ some v → i < k.slots → IfSome v.reader (λ r. TellsReader r i (word s i))
tells-all k s W sh id i v seated inside = when-here (OfReader W sh.next sh.owner id) (λ r. TellsReader r i (word s i))
    v.reader (λ r is o. told k s W sh id i v r seated is inside o) (sh.each id v seated).1

pub looks-shown : (k : Shape) (s : Table) (W : WorldState) (sh : IsShown k s W) (id i : ℕ) (v : View)
    → get_elem? s.views id ≡ some v → i < k.slots
    → IsShown k (after_step s (place_of i) (word s i) id (looked_view v i (word s i))) W
looks-shown k s W sh id i v seated inside = still-shown k s W sh id (place_of i)
    (looked_view v i (word s i)) (search (arith, looks-agree, sh.each)) v seated (search (arith, turn-reader))

pub loads : (k : Shape) (slots id i p : ℕ) (me : M) → IsPlace place_of p i → i < k.slots
    → Allows (Shown k) slots id me p (λ n. n) (looked (step slots p 0 0 none) me)
loads k slots id i p me at inside = rw at.is (λ s known deep seated small. let sh = known.1 in let n : ℕ = word s i in (
  looked_view me.0 i n,
  keeps,
  tt,
  search (arith, looks-shown),
  at-slot k i _ sh.fits inside
      (refl, tells-all k s known.0 sh id i me.0 seated inside, search (arith, met, sh.each)),
))

pub pins-step : (k : Shape) (slots id i p old new : ℕ) (me : M) (r : ReaderView) → IsPlace place_of p i
    → me.0.reader ≡ Some r → i < k.slots → new ≡ old + 1 → (decoded old).phase ≡ Live → (decoded old).pins ≢ k.max_pins
    → Allows (Shown k) slots id me p (λ n. either (eqb n old) new n) (pinned (step slots p old new none) me)
pins-step k slots id i p old new me r at is inside up live room =
    rw at.is (λ s known deep seated small. let W = known.0 in let sh = known.1 in let n : ℕ = word s i in
    exchanged n old new
    (λ x. (w : View) × (a : Act (Unit {0})) × Valid s.homes me.1 a × Shown k (stepped s (place_of i) x id me.1 w a)
    × pinned (step slots (place_of i) old new none) me n (w, carried_after me.1 a))
    (λ hit. (
      got_view me.0 i n,
      keeps,
      tt,
      (
        after W (Pin r.number i (word_at W i)),
        rw (is, up, ← hit) (reader-pins k s W sh id i me.0 r seated is inside (rw hit live) (λ e. room (rw hit at e))),
      ),
      at-slot k i _ sh.fits inside
          ((λ _. refl), (λ miss. absurd (miss hit)), tells-all k s W sh id i me.0 seated inside),
    ))
    (λ miss. (
      looked_view me.0 i n,
      keeps,
      tt,
      search (arith, looks-shown),
      at-slot k i _ sh.fits inside
          ((λ e. absurd (miss e)), (λ _. refl), tells-all k s W sh id i me.0 seated inside),
    )))

pub releases-step : (k : Shape) (slots id p : ℕ) (me : M) (r : ReaderView) (y : Id) → IsPlace place_of p y.slot
    → me.0.reader ≡ Some r → y.slot < k.slots → 0 < tally (same_id y) r.held
    → Allows (Shown k) slots id me p (λ n. (n + (2 ^ 64 - 1)) % 2 ^ 64) (released (step slots p 1 0 none) me)
releases-step k slots id p me r y at is inside have =
    rw at.is (λ s (W, sh) deep seated small. let i = y.slot in let n : ℕ = word s i in
    let gen = (held-found k s W sh id i r inside (reader-at k s W sh id me.0 r seated is) y have refl).0 in
    let x : Id = id_in i n in
    let have' : 0 < tally (same_id x) r.held = search arith in (
      released_view me.0 i n,
      keeps,
      tt,
      (
        after W (Release r.number x),
        rw (is, sub_one n (has-pin k s W sh id me.0 r x seated is inside have') small)
            (reader-releases k s W sh id me.0 r x seated is inside have'),
      ),
      at-slot k i _ sh.fits inside (refl, tells-all k s W sh id i me.0 seated inside),
    ))

pub notes-step : (k : Shape) (slots id i : ℕ) (me : M) (r : ReaderView) (y : Id) → me.0.reader ≡ Some r → y.slot ≡ i
    → i < k.slots → 0 < tally (same_id y) r.held
    → Allows (Shown k) slots id me (descr_place i) (λ n. n) (noted (step slots (descr_place i) 0 0 none) me)
notes-step k slots id i me r y is here inside have s (W, sh) deep seated small =
    let mine = reader-at k s W sh id me.0 r seated is in
    let n : ℕ = descr_word s i in
    let d : Descr = (at W i).descr in
    let x : Id = id_at W i in
    let known = held-is W sh.next sh.owner id r y sh.safe mine have in
    let have' : 0 < tally (same_id x) r.held = search arith in (
      view me.0.keeper (Some (reader_noted r x d)),
      keeps,
      tt,
      (W, reader-notes k s W sh id me.0 r x seated is inside have'),
      λ r' y' is' have'' word-is. let same = same_Some r r' (sym is ∙ is') in
          let index : i ≡ y'.slot = apart i y'.slot (few i k.slots sh.fits.1 inside) word-is.few (let e = word-is.is in
          omega arith) in
          let known' = held-is W sh.next sh.owner id r y' sh.safe mine
          (subst (λ (z : ReaderView). 0 < tally (same_id y') z.held) (sym same) have'') in (
            d,
            search (arith, sh.given, sh.descrs),
            λ c. (
              view me.0.keeper (Some (reader_noted (same c) record {
                slot = index c;
                generation = (ap (λ (z : ℕ). (at W z).generation) index ∙ sym known'.1) c;
              } d)),
              me.1,
            ),
            subst (λ (z : ReaderView × ℕ). Stands z.0 (descr_place z.1) n) (λ c. (same c, index c))
                (stood k s W sh id (descr_place i) me.0 r seated is),
          ),
    )
