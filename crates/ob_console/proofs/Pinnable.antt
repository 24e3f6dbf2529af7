-- Every pin may be answered, in any state and whatever is held.
use Rattle.ob_console.proofs.Cited.{IsWord, ◌≡◌, ℕ, suc, List, [], ◌∷◌, length, slice_index_or, refl, inl, inr, arith, cases_lt, count_by-le-length, Result, Err, Id, tally, decoded, encoded, is_of_slot, look, State, Finds, Judged, Pins, phase_at}
use Rattle.pin_core.specs.declared.descr.Descr.{Descr}
use Rattle.pin_core.specs.declared.word.Word.{Word}
use Rattle.pin_core.proofs.Counts.{tally-count}
use Rattle.pin_words.specs.declared.fault.Verdict.{Verdict}
use Rattle.pin_words.specs.declared.fault.Verdict.TheVariants.{Go}
use Rattle.pin_words.specs.declared.fault.PinFault.{PinFault}
use Rattle.pin_words.specs.declared.fault.PinFault.TheVariants as fault
use Rattle.pin_words.specs.Verdicts.{verdict_of}
use Rattle.pin_words.specs.declared.view.Look.{Look}
use Rattle.ob_console.proofs.Attempting.{no_slot}

-- a word that the slot may have: nobody else pins it
abbrev some_word : State → List Id → ℕ → Word
some_word s held slot = record {
  generation = slice_index_or s.generations slot 1;
  phase = phase_at s slot;
  pins = tally (is_of_slot slot) held;
}

-- where the word lets it be pinned, it may be busy
can_judge : (verdict : Verdict) (Found : ℕ → Type 0) (n : ℕ) (s : State) (held : List Id) (id : Id) → Found (suc n)
    → (answer : Result Descr PinFault) × Judged verdict Found n s held id answer held
can_judge Go Found n s held id later = (Err (fault.Busy (decoded (suc n))), search arith)
can_judge verdict Found n s held id later = (_, (refl, refl))

-- an answer, with which no copy more is held
pub can_pin : (s : State) (held : List Id) (looks : List Look) (id : Id)
    → (answer : Result Descr PinFault) × (looks' : List Look) × Pins s held looks id answer held looks'
can_pin s held looks id = elim (cases_lt id.slot s.limits.slots) [
  | inl inside ↦ elim (cases_lt (length held) 16) [
    | inl room ↦
        let n : ℕ = encoded (some_word s held id.slot) in
        let few = rw (tally-count (is_of_slot id.slot) held) at (count_by-le-length (is_of_slot id.slot) held) in
        let read : decoded n ≡ some_word s held id.slot = search arith in
        let found : List Look = look id.slot (suc n) ∷ look id.slot n ∷ looks in
        let judged = can_judge (verdict_of s.limits.max_pins id (decoded n)) (Finds id.slot looks found) n s held id
        ([], look id.slot n ∷ [], refl) in
        let word : IsWord s held id.slot (decoded n) = search (arith, few, read) in
        let finds : Finds id.slot looks found n = (look id.slot (suc n) ∷ [], [], refl) in
        (judged.0, found, search (arith, finds, judged.1, word))
    | inr many ↦ (Err fault.HeldFull, looks, search arith)
  ]
  | inr out ↦ (Err fault.NoSuchSlot, looks, no_slot s held looks id out)
]
