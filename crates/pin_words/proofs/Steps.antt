-- What a step of one seat owes the rule of the table.
use Rattle.pin_words.proofs.Cited.{IfSome, option_map, ◌≡◌, ◌≢◌, ◌⊎◌, inl, inr, ⊎_elim, ℕ, ◌<◌, ◌≤◌, List, [], ◌∷◌, length, get_or, set, length-set, zero, suc, Option, Some, sym, refl, ap, ◌∙◌, arith, true, some, some-ne-none, ℕ_discrete, dite, get_elem?, at_set, set_here, set_else, Word, Id, Descr, Shape, Hold, IsWithinLimits, encoded, decoded, tally, is_copy, same_id, WorldState, at, pins, copies, word_at, given, given_as, with_holders, IsSafe, may_be_held, age, Look, Note, KeeperView, ReaderView, View, place_of, descr_place, AtSlot, view, look, Table, word_age, IsPast, NotAhead, AreNoted, HoldsJust, OfKeeper, OfReader, Agrees, HasKeeper, HasReader, IsShown, Stands, Behind, TellsReader, AreListed, Show, MeetsBoth, looked_view}
use lib.Seq.{set-get_or}
use Rattle.pin_core.specs.Descrs as descr_code
use Rattle.pin_words.specs.Stepped.{after_step, word}
use Rattle.pin_words.proofs.Holdings.{held-le-pins, has-copies, one-descr}
use Rattle.pin_words.proofs.Apart.{few, apart}

pub of-here : {A : Type 0} (P : A → Type 0) (x : Option A) (a : A) → x ≡ Some a → IfSome x P → P a
of-here a0 x a is h = search arith

pub when-here : {A : Type 0} (P Q : A → Type 0) (x : Option A) → ((a : A) → x ≡ Some a → P a → Q a) → IfSome x P
    → IfSome x Q
when-here x0 x1 x2 f h = search arith

-- what holds of each seat, after one was written
pub each-set : (P : ℕ → View → Type 0) (vs : List View) (i : ℕ) (a : View) → P i a
    → ((j : ℕ) (u : View) → j ≢ i → get_elem? vs j ≡ some u → P j u)
    → (j : ℕ) (u : View) → get_elem? (set vs i a) j ≡ some u → P j u
each-set x0 vs i a new old j u e = search (arith, at_set)

-- the view keeps its parts, and its reader's number
pub record Turns (v v' : View) : Type 0 where
  pub keeper : (k : KeeperView) → v.keeper ≡ Some k → (k' : KeeperView) × (v'.keeper ≡ Some k')
  pub reader : (x : ReaderView) → v.reader ≡ Some x → (x' : ReaderView) × (v'.reader ≡ Some x') × (x'.number ≡ x.number)

pub in-list : {A : Type 0} (l : List A) (i : ℕ) (a : A) → get_elem? l i ≡ some a → i < length l
in-list [] i a e = absurd (some-ne-none a (sym e))
in-list (x ∷ xs) zero a e = omega arith
in-list (x ∷ xs) (suc i) a e = let ih = in-list xs i a e in omega arith

pub has-keeper : (vs : List View) (id j : ℕ) (v v' : View) → get_elem? vs id ≡ some v → Turns v v' → HasKeeper vs j
    → HasKeeper (set vs id v') j
has-keeper vs id j v v' seated turn h = dite (ℕ_discrete j id)
    (λ e. let same : v ≡ h.0 = search arith in
    let new = turn.keeper h.1 (ap (λ (z : View). z.keeper) same ∙ h.3) in
    (v', new.0, search (arith, in-list, set_here), new.1))
    (λ ne. (h.0, h.1, set_else vs id j v' ne ∙ h.2, h.3))

pub has-reader : (vs : List View) (id j r : ℕ) (v v' : View) → get_elem? vs id ≡ some v → Turns v v' → HasReader vs j r
    → HasReader (set vs id v') j r
has-reader vs id j r v v' seated turn h = dite (ℕ_discrete j id)
    (λ e. let same : v ≡ h.0 = search arith in
    let new = turn.reader h.1 (ap (λ (z : View). z.reader) same ∙ h.3) in
    (v', new.0, search (arith, in-list, set_here), new.1, new.2 ∙ h.4))
    (λ ne. (h.0, h.1, set_else vs id j v' ne ∙ h.2, h.3, h.4))

-- a slot is told by its place
pub at-slot : (k : Shape) (i : ℕ) (P : ℕ → Type 0) → IsWithinLimits k → i < k.slots → P i → AtSlot (place_of i) P
at-slot k i x2 fits inside have s is = search (arith, apart, few)

pub behind : (w : WorldState) (ls : List Look) (s n : ℕ) → word_age n ≡ age (at w s)
    → (decoded n).phase ≡ (at w s).phase → (at w s).generation ≤ w.shape.max_gen → NotAhead w ls → Behind ls s n
behind w [] s n is phase bounded h = tt
behind w (l ∷ ls) s n is phase bounded h = search (arith, behind w ls s n is phase bounded h.1)

listed : (w : WorldState) (ps : List (Id × Descr)) (xs : List Note) → ps ≡ w.published → AreNoted w xs → AreListed ps xs
listed w ps [] same h = tt
listed w ps (x ∷ xs) same h = search (arith, listed w ps xs same h.1)

shows : (w : WorldState) (id : Id) (d : Descr) (xs : List Note) → IsSafe w → 0 < given_as w id d → AreNoted w xs
    → Show id d xs
shows w id d [] safe have h = tt
shows w id d (x ∷ xs) safe have h = search (arith, one-descr, shows w id d xs safe have h.1)

-- what the seats of a table know, and what its words say
module _ (k : Shape) (s : Table) (W : WorldState) (sh : IsShown k s W) where
  -- a seat's part as the world has it
  pub keeper-at : (id : ℕ) (v : View) (kv : KeeperView) → get_elem? s.views id ≡ some v → v.keeper ≡ Some kv
      → OfKeeper W sh.keeper sh.next id kv
  keeper-at id v kv seated is = of-here (OfKeeper W sh.keeper sh.next id) v.keeper kv is (sh.each id v seated).0

  pub reader-at : (id : ℕ) (v : View) (r : ReaderView) → get_elem? s.views id ≡ some v → v.reader ≡ Some r
      → OfReader W sh.next sh.owner id r
  reader-at id v r seated is = of-here (OfReader W sh.next sh.owner id) v.reader r is (sh.each id v seated).1

  -- a step of one seat, after which the world is w'
  pub step-shown : (id i n : ℕ) (v' : View) (w' : WorldState) → w'.shape ≡ k → IsSafe w'
      → ((j : ℕ) → j < k.slots → get_or (set s.words i n) (place_of j) 0 ≡ encoded (word_at w' j))
      → ((j : ℕ) → j < k.slots → get_or (set s.words i n) (descr_place j) 0 ≡ descr_code.encoded (at w' j).descr)
      → ((j : ℕ) → j < k.slots → descr_code.IsGiven (at w' j).descr)
      → Agrees w' sh.keeper sh.next sh.owner id v'
      → ((j : ℕ) (u : View) → j ≢ id → Agrees W sh.keeper sh.next sh.owner j u
      → Agrees w' sh.keeper sh.next sh.owner j u)
      → ((r : ℕ) → sh.next ≤ r → HoldsJust w' r [])
      → (v : View) → get_elem? s.views id ≡ some v → Turns v v'
      → ((r : ℕ) → HoldsJust W r [] → (HoldsJust w' r []) ⊎ HasReader (set s.views id v') (sh.owner r) r)
      → IsShown k (after_step s i n id v') w'
  step-shown id i n v' w' shape safe words descrs given mine others unborn v seated turn parts = record {
    fits = sh.fits;
    shape = shape;
    wide = length-set s.words i n ∙ sh.wide;
    safe = safe;
    words = words;
    descrs = descrs;
    given = given;
    keeper = sh.keeper;
    next = sh.next;
    owner = sh.owner;
    each = each-set (Agrees w' sh.keeper sh.next sh.owner) s.views id v' mine
        (λ j u other e. others j u other (sh.each j u e));
    unborn = unborn;
    kept = has-keeper s.views id sh.keeper v v' seated turn sh.kept;
    owned = λ r. ⊎_elim (parts r) (λ h. inr (has-reader s.views id (sh.owner r) r v v' seated turn h)) (sh.owned r);
  }

  -- a step that leaves the world and the words
  pub still-shown : (id i : ℕ) (v' : View) → Agrees W sh.keeper sh.next sh.owner id v' → (v : View)
      → get_elem? s.views id ≡ some v → Turns v v' → IsShown k (after_step s i (get_or s.words i 0) id v') W
  still-shown id i v' mine v seated turn = let same = set-get_or s.words i 0 in
      step-shown id i (get_or s.words i 0) v' W sh.shape sh.safe (search arith) (search arith) sh.given mine
      (λ j u n a. a) sh.unborn v seated turn (λ r e. inl e)

  pub few-pins : (i : ℕ) → pins W i < 1073741824
  few-pins i = search arith

  -- what the word that is found says
  pub found-is : (i : ℕ) → i < k.slots → decoded (word s i) ≡ word_at W i
  found-is i inside = grind arith

  pub found-age : (i : ℕ) → i < k.slots → word_age (word s i) ≡ age (at W i)
  found-age i inside = search (arith, found-is)

  pub in-shape : (i : ℕ) → i < k.slots → i < W.shape.slots
  in-shape i inside = search arith

  pub held-found : (id i : ℕ) (r : ReaderView) → i < k.slots → OfReader W sh.next sh.owner id r → (x : Id)
      → 0 < tally (same_id x) r.held → x.slot ≡ i
      → ((decoded (word s i)).generation ≡ x.generation) × (may_be_held (decoded (word s i)).phase ≡ true)
  held-found id i r inside mine x have here = search (arith, found-is, has-copies, may_be_held)

  -- what stood at a place of the table is in sight of each of its readers
  pub stood : (id p : ℕ) (v : View) (r : ReaderView) → get_elem? s.views id ≡ some v → v.reader ≡ Some r
      → Stands r p (get_or s.words p 0)
  stood id p v r seated is = record {
    table = s;
    world = W;
    seat = id;
    view = v;
    shown = rw ((reader-at id v r seated is).shape ∙ sh.shape) sh;
    here = record { seated = seated; part = is };
    found = refl;
  }

  pub told : (id i : ℕ) (v : View) (r : ReaderView) → get_elem? s.views id ≡ some v → v.reader ≡ Some r → i < k.slots
      → OfReader W sh.next sh.owner id r → TellsReader r i (word s i)
  told id i v r seated at-reader inside mine = let is = found-is i inside in
      let count = ap (λ (x : Word). x.pins) is in record {
        pins = let le = held-le-pins W r.number i r.held sh.safe mine.held in omega arith;
        room = let le = sh.safe.room i in let max = ap (λ (z : Shape). z.max_pins) mine.shape in omega arith;
        held = held-found id i r inside mine;
        looks = behind W r.looks i (word s i) (found-age i inside) (ap (λ (x : Word). x.phase) is)
            (sh.safe.slots i (in-shape i inside)).bounded mine.looks;
        stands = stood id (place_of i) v r seated at-reader;
      }

  pub met : (id i : ℕ) (v : View) → i < k.slots → Agrees W sh.keeper sh.next sh.owner id v
      → MeetsBoth v.keeper v.reader i (word s i)
  met id i v inside a = search (arith, listed, shows)

  pub past-here : (i : ℕ) → i < k.slots → IsPast W (look i (word s i))
  past-here i inside = grind arith

  pub looks-agree : (id i : ℕ) (v : View) → i < k.slots → Agrees W sh.keeper sh.next sh.owner id v
      → Agrees W sh.keeper sh.next sh.owner id (looked_view v i (word s i))
  looks-agree id i v inside a = grind arith

pub turn-reader : (v : View) (g : ReaderView → ReaderView) → ((x : ReaderView) → (g x).number ≡ x.number)
    → Turns v (view v.keeper (option_map g v.reader))
turn-reader v g same = record { keeper = λ k e. (k, e); reader = λ x e. (g x, ap (option_map g) e, same x) }

pub turn-keeper : (v : View) (f : KeeperView → KeeperView) → Turns v (view (option_map f v.keeper) v.reader)
turn-keeper v f = record { keeper = λ k e. (f k, ap (option_map f) e); reader = λ x e. (x, e, refl) }

pub turn-to : (v : View) (r r' : ReaderView) → v.reader ≡ Some r → r'.number ≡ r.number
    → Turns v (view v.keeper (Some r'))
turn-to v r r' is same = search arith

pub turn-keeper-to : (v : View) (k' : KeeperView) → Turns v (view (Some k') v.reader)
turn-keeper-to v k' = search arith

-- looks stay behind as slots get older
pub looks-stay : (w w' : WorldState) (ls : List Look) → w'.shape ≡ w.shape → ((j : ℕ) → age (at w j) ≤ age (at w' j))
    → NotAhead w ls → NotAhead w' ls
looks-stay w w' [] same up h = tt
looks-stay w w' (l ∷ ls) same up h = search (arith, looks-stay w w' ls same up h.1)

-- notes stay as more is published
pub notes-stay : (w w' : WorldState) (xs : List Note) → ((id : Id) (d : Descr) → given_as w id d ≤ given_as w' id d)
    → AreNoted w xs → AreNoted w' xs
notes-stay w w' [] up h = tt
notes-stay w w' (x ∷ xs) up h = search (arith, notes-stay w w' xs up h.1)

-- what a step on the holds leaves to the keeper's part, and to readers that it leaves alone
pub keeper-stays : (w : WorldState) (hs : List Hold) (keeper next j : ℕ) (v : KeeperView) → OfKeeper w keeper next j v
    → OfKeeper (with_holders w hs) keeper next j v
keeper-stays w hs keeper next j v a = search arith

pub reader-stays : (w : WorldState) (hs : List Hold) (next : ℕ) (owner : ℕ → ℕ) (j : ℕ) (v : ReaderView)
    → ((x : Id) → tally (is_copy v.number x) hs ≡ copies w v.number x) → OfReader w next owner j v
    → OfReader (with_holders w hs) next owner j v
reader-stays w hs next owner j v same a = grind arith
