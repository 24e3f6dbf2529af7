-- The steps of the keeper keep the rule of the table.
use Rattle.pin_words.proofs.Cited.{nat_tests, at_place, ◌≡◌, ◌≢◌, inl, ℕ, ◌<◌, ◌≤◌, eqb, List, [], ◌∷◌, ◌++◌, length, get_or, set, get_or-set_other, Some, None, sym, refl, ap, ◌∙◌, subst, arith, IfSome_then, same_Some, none, some, get_elem?, bit_or, IfSome, option_map, step, Act, keeps, stepped, carried_after, Valid, Allows, exchanged, Word, Id, Descr, Free, Live, Closing, Shape, Slot, Event, StoreDescr, Publish, CloseSlot, Reclaim, encoded, decoded, code_of, packed, tally, WorldState, opening_slot, slot_of, at, id_at, pins, word_at, is_with, given_as, refusal, after, in_phase, with_descr, reclaimed, IsSafe, age, safe_kept, may_publish, may_store, may_close, count-snoc, moved, Look, KeeperView, ReaderView, View, look, IsPlace, AtSlot, place_of, descr_place, M, view, keeper_with, keeper_looked, keeper_stored, keeper_published, keeper_closed, keeper_reclaimed, after_step, closing_word, next_word, word, Table, NotAhead, OfKeeper, OfReader, IsShown, Shown, KeptAs, TellsKeeper, stored, published, closed, reclaiming}
use prog.Atomic.{either}
use Rattle.pin_core.specs.declared.word.Phase.{Phase}
use Rattle.pin_core.specs.Descrs as descr_code
use Rattle.pin_words.proofs.Bits.{publish-or, close-or}
use Rattle.pin_words.proofs.Apart.{few, apart, unlike, pin-set, descr-set}
use Rattle.pin_words.proofs.Steps.{keeper-at, step-shown, still-shown, few-pins, found-is, past-here, in-shape, turn-keeper, turn-keeper-to, looks-stay, notes-stay, at-slot}

-- the keeper, at its seat, and a slot
module _ (k : Shape) (s : Table) (W : WorldState) (sh : IsShown k s W) (id i : ℕ) (v : View) (kv : KeeperView)
    (seated : get_elem? s.views id ≡ some v) (is : v.keeper ≡ Some kv) (inside : i < k.slots) where
  mine : OfKeeper W sh.keeper sh.next id kv
  mine = keeper-at k s W sh id v kv seated is

  pub found : (p : Phase) → (slot_of kv.slots i).phase ≡ p
      → ((at W i).phase ≡ p) × (word s i ≡ packed (at W i).generation (code_of p) (pins W i))
  found p phase = search (arith, mine)

  -- a step to x and to the list ps; what is left is that the words are those of the new world
  keeper-goes : (wi n : ℕ) (e : Event) (x : Slot) (ps : List (Id × Descr)) (ls : List Look)
      → refusal W e ≡ None → after W e ≡ moved W i x ps
      → ((y : Id) (d : Descr) → given_as W y d ≤ tally (is_with y d) ps)
      → ((j : ℕ) → j < k.slots → get_or (set s.words wi n) (place_of j) 0 ≡ encoded (word_at (moved W i x ps) j))
      → ((j : ℕ) → j < k.slots → get_or (set s.words wi n) (descr_place j) 0
      ≡ descr_code.encoded (get_or (set W.slots i x) j opening_slot).descr)
      → descr_code.IsGiven x.descr → NotAhead W ls
      → IsShown k (after_step s wi n id (view (Some (keeper_with kv (set W.slots i x) ps ls)) v.reader))
      (moved W i x ps)
  keeper-goes wi n e x ps ls can becomes more words descrs descr-given looks =
      let w' : WorldState = moved W i x ps in
      let mine = keeper-at k s W sh id v kv seated is in
      let wide : length W.slots ≡ W.shape.slots = sh.safe.wide in
      let given-still : (j : ℕ) → j < k.slots → descr_code.IsGiven (get_or (set W.slots i x) j opening_slot).descr =
      λ j h. (let given = sh.given j h in grind (arith, nat_tests, at_place)) in
      let up : (j : ℕ) → age (at W j) ≤ age (at w' j) = grind (arith, nat_tests, at_place) in
      let readers : (j : ℕ) (r : ReaderView) → OfReader W sh.next sh.owner j r → OfReader w' sh.next sh.owner j r =
      λ j r a. search (arith, looks-stay, notes-stay) in
      step-shown k s W sh id wi n _ w' sh.shape (subst IsSafe becomes (safe_kept W e sh.safe can)) words descrs
      given-still (search (arith, looks-stay), IfSome_then v.reader (sh.each id v seated).1 (readers id))
      (λ j u other a. (
        IfSome_then u.keeper a.0 (λ q b. absurd (other (b.mine ∙ sym mine.mine))),
        IfSome_then u.reader a.1 (readers j),
      ))
      sh.unborn v seated (turn-keeper-to v _) (λ r e. inl e)

  -- a step on the word of the pins
  keeper-turns : (n : ℕ) (e : Event) (x : Slot) (ps : List (Id × Descr)) (ls : List Look)
      → refusal W e ≡ None → after W e ≡ moved W i x ps
      → ((y : Id) (d : Descr) → given_as W y d ≤ tally (is_with y d) ps)
      → n ≡ encoded record { generation = x.generation; phase = x.phase; pins = pins W i } → x.descr ≡ (at W i).descr
      → NotAhead W ls
      → IsShown k (after_step s (place_of i) n id (view (Some (keeper_with kv (set W.slots i x) ps ls)) v.reader))
      (moved W i x ps)
  keeper-turns n e x ps ls can becomes more word-is same-descr looks =
      let wide : length W.slots ≡ W.shape.slots = sh.safe.wide in
      let fit : i < W.shape.slots = in-shape k s W sh i inside in
      keeper-goes (place_of i) n e x ps ls can becomes more
      (λ j h. let was = sh.words j h in let new = pin-set k.slots s.words i n sh.fits.1 sh.wide inside j h in
      grind (arith, nat_tests, at_place))
      (λ j h. let was = sh.descrs j h in
      let new = get_or-set_other s.words (place_of i) (descr_place j) n 0 (λ e. unlike i j (sym e)) in
      grind (arith, nat_tests, at_place))
      (rw same-descr (sh.given i inside)) looks

  pub keeper-publishes : (slot_of kv.slots i).phase ≡ Free
      → IsShown k (after_step s (place_of i) (bit_or (word s i) 1073741824) id
      (view (Some (keeper_published kv i)) v.reader)) (after W (Publish i))
  keeper-publishes free =
      let there = found Free free in
      rw (mine.slots, mine.published) (keeper-turns _ (Publish i) (in_phase (at W i) Live)
      (W.published ++ (id_at W i, (at W i).descr) ∷ []) kv.looks
      (may_publish W i (in-shape k s W sh i inside) there.0) refl
      (λ y d. let c = count-snoc (is_with y d) W.published (id_at W i, (at W i).descr) in omega arith)
      (rw there.1 (publish-or _ _ (few-pins k s W sh i))) refl mine.looks)

  pub keeper-closes : (slot_of kv.slots i).phase ≡ Live
      → IsShown k (after_step s (place_of i) (bit_or (word s i) 2147483648) id
      (view (Some (keeper_closed kv i)) v.reader)) (after W (CloseSlot i))
  keeper-closes live =
      let there = found Live live in
      rw (mine.slots, mine.published) (keeper-turns _ (CloseSlot i) (in_phase (at W i) Closing) W.published kv.looks
      (may_close W i (in-shape k s W sh i inside) there.0) refl (λ y d. omega arith)
      (rw there.1 (close-or _ _ (few-pins k s W sh i))) refl mine.looks)

  pub keeper-stores : (d : Descr) → (slot_of kv.slots i).phase ≡ Free → descr_code.IsGiven d
      → IsShown k (after_step s (descr_place i) (descr_code.encoded d) id
      (view (Some (keeper_stored kv i d)) v.reader)) (after W (StoreDescr i d))
  keeper-stores d free descr-given =
      let x : ℕ = descr_code.encoded d in
      let wide : length W.slots ≡ W.shape.slots = sh.safe.wide in
      let fit : i < W.shape.slots = in-shape k s W sh i inside in
      rw (mine.slots, mine.published) (keeper-goes (descr_place i) _ (StoreDescr i d) (with_descr (at W i) d)
      W.published kv.looks (may_store W i d fit (found Free free).0) refl (λ y d. omega arith)
      (λ j h. let was = sh.words j h in
      let new = get_or-set_other s.words (descr_place i) (place_of j) x 0 (unlike j i) in
      grind (arith, nat_tests, at_place))
      (λ j h. let was = sh.descrs j h in let new = descr-set k.slots s.words i x sh.fits.1 sh.wide inside j h in
      grind (arith, nat_tests, at_place))
      descr-given mine.looks)

  -- an exchange that failed found pins
  pub pinned-still : (slot_of kv.slots i).phase ≡ Closing → word s i ≢ closing_word (slot_of kv.slots i)
      → 0 < (decoded (word s i)).pins
  pinned-still closing miss = search (arith, found, pins, mine, found-is)

  pub keeper-reclaims : (slot_of kv.slots i).phase ≡ Closing → word s i ≡ closing_word (slot_of kv.slots i)
      → IsShown k (after_step s (place_of i) (next_word k.max_gen (slot_of kv.slots i)) id
      (view (Some (keeper_reclaimed kv i (word s i))) v.reader)) (after W (Reclaim i))
  keeper-reclaims closing hit =
      let there = found Closing closing in
      let most : k.max_gen ≡ W.shape.max_gen = ap (λ (z : Shape). z.max_gen) (sym sh.shape) in
      let gen-max : kv.shape.max_gen ≡ W.shape.max_gen = ap (λ (z : Shape). z.max_gen) mine.shape in
      let none-left : pins W i ≡ 0 = (let a = there.1 in
      let b : word s i ≡ packed (at W i).generation 3 0 = rw (← mine.slots) hit in omega arith) in
      let slots : set kv.slots i (reclaimed kv.shape.max_gen (slot_of kv.slots i))
      ≡ set W.slots i (reclaimed W.shape.max_gen (at W i)) =
      λ j. set (mine.slots j) i (reclaimed (gen-max j) (get_or (mine.slots j) i opening_slot)) in
      rw (slots, mine.slots, mine.published) (keeper-turns _ (Reclaim i) (reclaimed W.shape.max_gen (at W i))
      W.published (look i (word s i) ∷ kv.looks) (search arith) refl (λ y d. omega arith) (rw (most, none-left) refl)
      (search arith) (past-here k s W sh i inside, mine.looks))

-- the keeper sets a bit of the slot's word
sets-bit : (k : Shape) (slots id i p bit : ℕ) (me : M) (v : KeeperView) (f : KeeperView → ℕ → KeeperView) (e : Event)
    → IsPlace place_of p i → me.0.keeper ≡ Some v → i < k.slots
    → ((s : Table) (W : WorldState) → IsShown k s W → get_elem? s.views id ≡ some me.0
    → IsShown k (after_step s (place_of i) (bit_or (word s i) bit) id (view (Some (f v i)) me.0.reader)) (after W e))
    → Allows (Shown k) slots id me p (λ n. bit_or n bit) (λ n m'. AtSlot p (KeptAs f me m'))
sets-bit k slots id i p bit me v f e at is inside shown =
    rw at.is (λ s known deep seated small. (
      view (option_map (λ z. f z i) me.0.keeper) me.0.reader,
      keeps,
      tt,
      (after known.0 e, search arith),
      at-slot k i _ known.1.fits inside refl,
    ))

pub publishes-step : (k : Shape) (slots id i p : ℕ) (me : M) (v : KeeperView) → IsPlace place_of p i
    → me.0.keeper ≡ Some v → i < k.slots → (slot_of v.slots i).phase ≡ Free
    → Allows (Shown k) slots id me p (λ n. bit_or n 1073741824) (published (step slots p 1073741824 0 none) me)
publishes-step k slots id i p me v at is inside free =
    sets-bit k slots id i p 1073741824 me v keeper_published (Publish i) at is inside (search (arith, keeper-publishes))

pub closes-step : (k : Shape) (slots id i p : ℕ) (me : M) (v : KeeperView) → IsPlace place_of p i → me.0.keeper ≡ Some v
    → i < k.slots → (slot_of v.slots i).phase ≡ Live
    → Allows (Shown k) slots id me p (λ n. bit_or n 2147483648) (closed (step slots p 2147483648 0 none) me)
closes-step k slots id i p me v at is inside live =
    sets-bit k slots id i p 2147483648 me v keeper_closed (CloseSlot i) at is inside (search (arith, keeper-closes))

pub stores-step : (k : Shape) (slots id i x : ℕ) (me : M) (v : KeeperView) (d : Descr) → me.0.keeper ≡ Some v
    → i < k.slots → (slot_of v.slots i).phase ≡ Free → descr_code.IsGiven d → x ≡ descr_code.encoded d
    → Allows (Shown k) slots id me (descr_place i) (λ _. x) (λ _. stored (step slots (descr_place i) x 0 none) me x)
stores-step k slots id i x me v d is inside free descr-given x-is s (W, sh) deep seated small = (
  view (Some (keeper_stored v i d)) me.0.reader,
  keeps,
  tt,
  (after W (StoreDescr i d), rw x-is (keeper-stores k s W sh id i me.0 v seated is inside d free descr-given)),
  λ v' i' d' is' word-is given' x-is'. let same = same_Some v v' (sym is ∙ is') in
      let index : i ≡ i' = apart i i' (few i k.slots sh.fits.1 inside) word-is.few (let e = word-is.is in
      omega arith) in
      let one : d ≡ d' = search arith in
      λ c. (view (Some (keeper_stored (same c) (index c) (one c))) me.0.reader, me.1),
)

keeper-told : (k : Shape) (s : Table) (W : WorldState) (sh : IsShown k s W) (id i : ℕ) (v : View)
    → get_elem? s.views id ≡ some v → i < k.slots
    → IfSome v.keeper (λ z. TellsKeeper z.shape z.slots i (word s i))
keeper-told k s W sh id i v seated inside = IfSome_then v.keeper (sh.each id v seated).0
    (λ z a. let is = found-is k s W sh i inside in rw (a.shape, a.slots) record {
      generation = ap (λ (x : Word). x.generation) is;
      phase = ap (λ (x : Word). x.phase) is;
      room = let le = sh.safe.room i in let count = ap (λ (x : Word). x.pins) is in omega arith;
    })

pub keeper-looks : (k : Shape) (s : Table) (W : WorldState) (sh : IsShown k s W) (id i : ℕ) (v : View)
    → get_elem? s.views id ≡ some v → i < k.slots
    → IsShown k (after_step s (place_of i) (word s i) id
    (view (option_map (λ z. keeper_looked z i (word s i)) v.keeper) v.reader)) W
keeper-looks k s W sh id i v seated inside =
    let was = sh.each id v seated in
    let past = past-here k s W sh i inside in
    still-shown k s W sh id (place_of i) _ (grind arith) v seated (search (arith, turn-keeper))

pub reclaims-step : (k : Shape) (slots id i p old new : ℕ) (me : M) (v : KeeperView) → IsPlace place_of p i
    → me.0.keeper ≡ Some v → i < k.slots → (slot_of v.slots i).phase ≡ Closing → old ≡ closing_word (slot_of v.slots i)
    → new ≡ next_word k.max_gen (slot_of v.slots i)
    → Allows (Shown k) slots id me p (λ n. either (eqb n old) new n) (reclaiming (step slots p old new none) me)
reclaims-step k slots id i p old new me v at is inside closing old-is new-is =
    rw at.is (λ s (W, sh) deep seated small. let n : ℕ = word s i in
    exchanged n old new
    (λ x. (w : View) × (a : Act (Unit {0})) × Valid s.homes me.1 a × Shown k (stepped s (place_of i) x id me.1 w a)
    × reclaiming (step slots (place_of i) old new none) me n (w, carried_after me.1 a))
    (λ hit. (
      view (option_map (λ z. keeper_reclaimed z i n) me.0.keeper) me.0.reader,
      keeps,
      tt,
      (
        after W (Reclaim i),
        rw (is, new-is) (keeper-reclaims k s W sh id i me.0 v seated is inside closing (hit ∙ old-is)),
      ),
      at-slot k i _ sh.fits inside
          ((λ _. refl), (λ miss. absurd (miss hit)), keeper-told k s W sh id i me.0 seated inside),
    ))
    (λ miss. (
      view (option_map (λ z. keeper_looked z i n) me.0.keeper) me.0.reader,
      keeps,
      tt,
      (W, keeper-looks k s W sh id i me.0 seated inside),
      at-slot k i _ sh.fits inside (
        (λ e. absurd (miss e)),
        (λ _. (refl, pinned-still k s W sh id i me.0 v seated is inside closing (λ e. miss (e ∙ sym old-is)))),
        keeper-told k s W sh id i me.0 seated inside,
      ),
    )))
