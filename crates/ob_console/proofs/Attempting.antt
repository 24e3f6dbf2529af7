-- A try to pin between two meetings.
use Rattle.ob_console.proofs.Cited.{◌≡◌, ℕ, ◌<◌, ◌≤◌, Bool, List, [], ◌∷◌, ◌++◌, Option, slice_index_or, sym, refl, ap, ◌∙◌, inl, inr, arith, Result, Err, cases_eq, Id, decoded, slot_of, opening_slot, ReaderView, look, reader_looked, IsConsistent, IsMet, State, Whole, generation_of, shape_of, Finds, IsWord, Judged, Pins, phase_in, phase_at}
use Rattle.std.proofs.Math.ListN.{get_or-map}
use Rattle.pin_core.specs.declared.descr.Descr.{Descr}
use Rattle.pin_core.specs.declared.word.Phase.{Phase}
use Rattle.pin_core.specs.declared.world.Slot.{Slot}
use Rattle.pin_words.specs.declared.fault.Verdict.{Verdict}
use Rattle.pin_words.specs.declared.fault.Verdict.TheVariants.{Go}
use Rattle.pin_words.specs.declared.fault.PinFault.{PinFault}
use Rattle.pin_words.specs.declared.fault.PinFault.TheVariants as fault
use Rattle.pin_words.specs.declared.view.Look.{Look}
use Rattle.pin_words.specs.Plays.{NoLater, Behind, TellsReader}
use Rattle.pin_words.specs.Shown.{word_age}
use Rattle.pin_words.specs.Tries.{FollowsLook}
use Rattle.pin_words.specs.Verdicts.{verdict_of}
use Rattle.ob_body.specs.declared.body.Body.{Body}
use Rattle.ob_store.specs.Agreement.{Agrees}
use Rattle.ob_store.specs.Objects.{Object}
use Rattle.ob_console.specs.Attempts.{Attempts, Told}
use Rattle.ob_console.proofs.Found.{card_found, met_found}

-- there is no such slot
pub no_slot : (s : State) (held : List Id) (looks : List Look) (id : Id) → s.limits.slots ≤ id.slot
    → Pins s held looks id (Err fault.NoSuchSlot) held looks
no_slot s held looks id out = search arith

-- what the reading of the descriptor leaves as it is
told_looks : (tried : Result (Unit {0}) PinFault) (m r : ReaderView) (id : Id) (res : Result Descr PinFault)
    → Told tried m id res r → r.looks ≡ m.looks
told_looks tried m r id res told = grind arith

-- a try that was refused holds nothing more
refused : (e : PinFault) (tried : Result (Unit {0}) PinFault) (m r : ReaderView) (id : Id) (res : Result Descr PinFault)
    (held : List Id) → tried ≡ Err e → m.held ≡ held → Told tried m id res r → (res ≡ Err e) × (r.held ≡ held)
refused e tried m r id res held is same told = search arith

-- a try begins with a look, which is no later than a word before which the try's looks are
begins_with : (vd : Verdict) (r : ReaderView) (id : Id) (n : ℕ) (tried : Result (Unit {0}) PinFault) (m : ReaderView)
    → FollowsLook vd r id n tried m → (more : List Look) × (m.looks ≡ more ++ (look id.slot n ∷ r.looks))
begins_with Go r id n tried m a = (look id.slot a.0 ∷ [], grind (arith, cases_eq a.0 n))
begins_with vd r id n tried m a = ([], rw a.1)

looked_before : (more looks : List Look) (slot n k : ℕ) → Behind (more ++ (look slot n ∷ looks)) slot k → NoLater n k
looked_before [] looks slot n k behind = behind.0 refl
looked_before (l ∷ more) looks slot n k behind = looked_before more looks slot n k behind.1

between : (a n b g : ℕ) (p : Phase) → (decoded a).generation ≡ g → (decoded a).phase ≡ p → (decoded b).generation ≡ g
    → (decoded b).phase ≡ p → word_age a ≤ word_age n → word_age n ≤ word_age b
    → ((decoded n).generation ≡ g) × ((decoded n).phase ≡ p)
between a n b g p ga pa gb pb low high = search arith

-- the phase that the state has for a slot is the one that the keeper has
phase_is : (slot : ℕ) (x : Option Object) (body : Option Body) (retired : Bool) (y : Slot)
    → Agrees slot x body retired y → phase_in x body retired ≡ y.phase
phase_is slot x body retired y agrees = grind arith

judged : (vd : Verdict) (Found : ℕ → Type 0) (w : Whole) (r m r3 r4 : ReaderView) (id : Id) (n : ℕ)
    (tried : Result (Unit {0}) PinFault) (res : Result Descr PinFault)
    → ((k : ℕ) → m ≡ reader_looked (reader_looked r id.slot n) id.slot k → Found k)
    → IsConsistent w → id.slot < w.state.limits.slots → FollowsLook vd r id n tried m → Told tried m id res r3
    → IsMet w.keeper r3 id.slot r4 → Judged vd Found n w.state r.held id res r3.held
judged Go Found w r m r3 r4 id n tried res second consistent inside a told met = elim (cases_eq a.0 n) [
  | inl same ↦
      let t = rw (a.2 same).0 at told in
      let found = met_found w r3 r4 id consistent inside (rw t.2 t.3) met in
      inl (search (arith, a.2 same, card_found w.state r3 id found, found.shown))
  | inr other ↦ search (arith, refused, a.3 other)
]
judged vd Found w r m r3 r4 id n tried res second consistent inside a told met = search (arith, refused)

pub pins : (w : Whole) (r r1 r3 r4 : ReaderView) (id : Id) (res : Result Descr PinFault) → IsConsistent w
    → r.shape ≡ shape_of w.state.limits → id.slot < w.state.limits.slots → IsMet w.keeper r id.slot r1 → Attempts r1 id res r3
    → IsMet w.keeper r3 id.slot r4 → Pins w.state r.held r.looks id res r4.held r4.looks
pins w r r1 r3 r4 id res consistent shape inside met1 attempts met2 = rw met2.2.1 (record {
  no_slot = λ out. absurd (omega arith);
  full = λ _ many. let f = trial.tries.full fits many in
      refused _ trial.tried trial.middle r3 id res r.held f.0 (ap (λ (z : ReaderView). z.held) f.1) trial.told;
  tried = λ _ few. let t = trial.tries.tried fits few in let by = by_word t.0 t.1 t.2 in (t.0, by.0, by.1, by.2);
})
  where
    seen : ReaderView
    seen = reader_looked r id.slot met1.2.0

    trial : Attempts seen id res r3
    trial = rw met1.2.1 at attempts

    fits : id.slot < r.shape.slots
    fits = rw shape inside

    looks : r3.looks ≡ trial.middle.looks
    looks = told_looks trial.tried trial.middle r3 id res trial.told

    here : Slot
    here = slot_of w.keeper.slots id.slot

    phase : phase_at w.state id.slot ≡ here.phase
    phase = phase_is id.slot _ _ _ here (consistent.slots id.slot (rw consistent.shape inside))

    generation : slice_index_or w.state.generations id.slot 1 ≡ here.generation
    generation = rw consistent.generations (get_or-map generation_of w.keeper.slots id.slot opening_slot)

    Found : ℕ → Type 0
    Found = Finds id.slot r.looks (look id.slot met2.2.0 ∷ r3.looks)

    by_word : (n : ℕ) → TellsReader seen id.slot n
        → FollowsLook (verdict_of r.shape.max_pins id (decoded n)) seen id n trial.tried trial.middle
        → Found n × IsWord w.state r.held id.slot (decoded n)
        × Judged (verdict_of w.state.limits.max_pins id (decoded n)) Found n w.state r.held id res r3.held
    by_word n tells a =
        let verdict = verdict_of r.shape.max_pins id (decoded n) in
        let first = begins_with verdict seen id n trial.tried trial.middle a in
        let high = looked_before first.0 seen.looks id.slot n met2.2.0 (rw (looks, first.1) at met2.2.2.looks) in
        let both = between met1.2.0 n met2.2.0 here.generation here.phase
        (rw met1.1.slots at met1.2.3.generation) (rw met1.1.slots at met1.2.3.phase)
        (rw met2.1.slots at met2.2.3.generation) (rw met2.1.slots at met2.2.3.phase) (tells.looks.0 refl).0 high.0 in
        let second : (k : ℕ) → trial.middle ≡ reader_looked (reader_looked seen id.slot n) id.slot k → Found k =
        λ k is. (
          look id.slot met2.2.0 ∷ [],
          look id.slot n ∷ look id.slot met1.2.0 ∷ [],
          ap (λ ls. look id.slot met2.2.0 ∷ ls) (looks ∙ ap (λ (z : ReaderView). z.looks) is),
        ) in (
          (look id.slot met2.2.0 ∷ first.0, look id.slot met1.2.0 ∷ [], ap (λ ls. look id.slot met2.2.0 ∷ ls) (looks ∙ first.1)),
          record {
            generation = both.0 ∙ sym generation;
            phase = both.1 ∙ sym phase;
            pins = tells.pins;
            room = λ _. rw shape at tells.room;
          },
          rw shape at (judged verdict Found w seen trial.middle r3 r4 id n trial.tried res second consistent inside a
              trial.told met2),
        )
