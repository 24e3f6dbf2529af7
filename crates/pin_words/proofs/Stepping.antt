-- What the steps of a reader were, by what they told it.
use Rattle.pin_words.proofs.Cited.{⊎_elim, ◌≤◌, length, ◌≡◌, ℕ, ◌+◌, ◌-◌, ◌<◌, Some, refl, ap, ◌∙◌, subst, arith, Id, Load, Pin, Release, ReadDescr, Event, slice_index, decoded, tally, same_id, Unborn, Stale, PinsFull, Go, FollowsLook, TriesPin, cases_lt, ℕ_discrete, dite, ReaderView, IsPlace, place_of, descr_place, verdict_of, M, IsReaders, reader_of, id_in, reader_looked, reader_got, reader_released, reader_noted, Ok, none, step, Descr, StepsBy, Stands, Stepped, LoadStep, PinStep, ReleaseStep, DescrStep, Pinned, IsHold, TellsReader, released, set_here}
use Rattle.pin_words.specs.declared.fault.Verdict.{Verdict}
use Rattle.pin_core.specs.Descrs as descr_code
use Rattle.pin_words.specs.Stepped.{ReaderAt, with_reader, after_step}
use Rattle.pin_words.proofs.Steps.{in-list}
use Rattle.pin_words.proofs.Calls.{go-means}
use Rattle.pin_words.proofs.LawOfSteps.{law-load, law-pin, law-held, law-release, law-read}
use Rattle.pin_words.proofs.Holdings.{got-held}

-- a step on the word that stood there
stepped : (r : ReaderView) (e : ℕ → Event) (p n : ℕ) (m : ℕ → ℕ) (r' : ℕ → ReaderView) (st : Stands r p n)
    → (let w = slice_index st.table.words p in
    StepsBy r.shape st.world (e w) (after_step st.table p (m w) st.seat (with_reader st.view (r' w))))
    → Stepped r (e n) p n (m n) (r' n)
stepped r e p n m r' st steps = record {
  stands = st;
  steps = rw st.found at steps;
}

pub load-step : (r : ReaderView) (s n : ℕ) → s < r.shape.slots → TellsReader r s n → LoadStep r s n
load-step r s n inside t = let st = t.stands in
    stepped r (λ _. Load r.number s) (place_of s) n (λ z. z) (reader_looked r s) st
    (law-load r.shape st.table st.world st.seat s st.view r st.shown st.here inside)

pub pin-step : (r : ReaderView) (id : Id) (n : ℕ) → id.slot < r.shape.slots
    → verdict_of r.shape.max_pins id (decoded n) ≡ Go → TellsReader r id.slot n → PinStep r id n
pin-step r id n inside go t = let st = t.stands in let means = go-means r.shape.max_pins id (decoded n) go in
    subst (λ (g : ℕ). Stepped r (Pin r.number id.slot (decoded n)) (place_of id.slot) n (n + 1)
    (reader_got r record { slot = id.slot; generation = g } n)) means.1
    (stepped r (λ z. Pin r.number id.slot (decoded z)) (place_of id.slot) n (λ z. z + 1)
    (λ z. reader_got r (id_in id.slot z) z) st
    (law-pin r.shape st.table st.world st.seat id.slot st.view r st.shown st.here inside (rw st.found means.0)
    (λ e. means.2 (rw st.found at e))))

-- after an exchange that went through, the new copy is a hold
pub hold-after : (r : ReaderView) (id : Id) (n : ℕ) → PinStep r id n → IsHold (reader_got r id n) id
hold-after r id n p =
    let st = p.stands in
    let r' = reader_got r id n in
    let v' = with_reader st.view r' in
    let s' = after_step st.table (place_of id.slot) (n + 1) st.seat v' in
    let here : ReaderAt s' st.seat v' r' = record {
      seated = set_here st.table.views st.seat v' (in-list st.table.views st.seat st.view st.here.seated);
      part = refl;
    } in
    let have : 0 < tally (same_id id) r'.held = got-held id r.held in
    let stays = law-held r.shape s' _ st.seat v' r' id (tally (same_id id) r'.held) p.steps.shown here (omega arith)
    (omega arith) in record {
      table = s';
      world = _;
      seat = st.seat;
      view = v';
      shown = p.steps.shown;
      safe = p.steps.shown.safe;
      here = here;
      hold = stays.0;
      stays = stays.1;
    }

pub release-step : (r : ReaderView) (id : Id) (n : ℕ) → 0 < tally (same_id id) r.held → TellsReader r id.slot n
    → ReleaseStep r id
release-step r id n have t = let st = t.stands in (
  n,
  stepped r (λ _. Release r.number id) (place_of id.slot) n (λ z. z - 1)
      (λ _. reader_released r id) st
      (law-release r.shape st.table st.world st.seat st.view r id st.shown st.here have),
)

pub released-step : (n p : ℕ) (m m' : M) (id : Id) → IsPlace place_of p id.slot → IsReaders m
    → released (step 0 p 1 0 none) m n m' → 0 < tally (same_id id) (reader_of m.0).held
    → ReleaseStep (reader_of m.0) id
released-step n p m m' id at reads does have = search (arith, release-step, reader_of)

pub descr-step : (r : ReaderView) (id : Id) (n : ℕ) (d : Descr) → 0 < tally (same_id id) r.held
    → descr_code.decoded n ≡ Some d → Stands r (descr_place id.slot) n → DescrStep r id d
descr-step r id n d have is st = (
  n,
  stepped r (λ _. ReadDescr r.number id d) (descr_place id.slot) n (λ z. z)
      (λ _. reader_noted r id d) st
      (law-read r.shape st.table st.world st.seat st.view r id d st.shown st.here have
      (ap descr_code.decoded st.found ∙ is)),
)

pub pinned-held : (r r' : ReaderView) (id : Id) → Pinned r id r' → IsHold r' id
pinned-held r r' id p = rw p.now (hold-after (reader_looked r id.slot p.word_found) id p.word_found p.pins)

pub tries-pin : TriesPin
tries-pin r r' id t = let did = both in (did, pinned-held r r' id did)
  where
    answer : id.slot < r.shape.slots → (v : Verdict) (n : ℕ) → verdict_of r.shape.max_pins id (decoded n) ≡ v
        → TellsReader r id.slot n → FollowsLook v r id n (Ok tt) r' → Pinned r id r'
    answer inside Unborn n is told a = let e = a.0 in cc
    answer inside Stale n is told a = let e = a.0 in cc
    answer inside PinsFull n is told a = let e = a.0 in cc
    answer inside Go n is told a = dite (ℕ_discrete a.0 n)
        (λ same. record {
          word_found = n;
          loads = load-step r id.slot n inside told;
          pins = pin-step (reader_looked r id.slot n) id n inside is (rw same at a.1);
          now = rw same at (a.2 same).1;
        })
        (λ other. absurd (let e = (a.3 other).0 in cc))

    both : Pinned r id r'
    both = ⊎_elim
        (λ (inside : id.slot < r.shape.slots). ⊎_elim
        (λ (room : length r.held < 16). let tried = t.tried inside room in
        answer inside (verdict_of r.shape.max_pins id (decoded tried.0)) tried.0 refl tried.1 tried.2)
        (λ (full : 16 ≤ length r.held). absurd (let e = (t.full inside full).0 in cc))
        (cases_lt (length r.held) 16))
        (λ (out : r.shape.slots ≤ id.slot). absurd (let e = (t.no_slot out).0 in cc))
        (cases_lt id.slot r.shape.slots)
