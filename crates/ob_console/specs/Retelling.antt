-- A journal as a script, and what a run of it prints.
use Rattle.std.specs.Prelude.{◌≡◌, ◌≢◌, ◌⊎◌, ℕ, ◌&&◌, Bool, true, List, [], ◌∷◌, ◌++◌, if◌then◌else◌, is_some}
use Rattle.std.specs.List.{flat_map}
use Rattle.ob_rights.specs.declared.fault.Fault.TheVariants.{Memory}
use Rattle.ob_manager.specs.declared.call.CallOf.TheVariants.{Reap}
use Rattle.ob_manager.specs.declared.reply.Reply.{Reply}
use Rattle.ob_manager.specs.declared.reply.Reply.TheVariants.{Refused}
use Rattle.ob_manager.specs.Steps.{reclaim_in}
use Rattle.ob_script.specs.Printed.{printed}
use Rattle.ob_script.specs.Fitting.{Fits}
use Rattle.ob_script.specs.Writing.{line_of}
use Rattle.ob_shared.specs.declared.book.Entry.{Entry}
use Rattle.ob_script.specs.Telling.{is_repeatable, text_for}

-- each entry in its order, as text
abbrev pub script_of : List Entry → List ℕ
script_of journal = flat_map (λ (entry : Entry). text_for entry.call entry.reply) journal

-- whether a line makes the entry's call again, and is no comment
abbrev pub is_line : Entry → Bool
is_line entry = is_repeatable entry.call entry.reply && is_some (line_of entry.call)

-- what is printed for an entry that is answered as it was
abbrev pub answer : Entry → List ℕ
answer entry = if is_line entry then printed entry.reply else []

-- memory was wanting; or a slot that the journal took back is held, or was freed in place of retired or the other way
abbrev pub IsOtherAnswer : Entry → List ℕ → Type 0
IsOtherAnswer entry output =
    (output ≡ printed (Refused Memory))
    ⊎ ((slot : ℕ) × (entry.call ≡ Reap slot) × (found : Reply) × (output ≡ printed found)
    × (reclaim_in found ≢ reclaim_in entry.reply))

-- a line is answered otherwise than its entry was
abbrev pub AnswersOtherwise : Entry → List ℕ → Type 0
AnswersOtherwise entry output = (is_line entry ≡ true) × IsOtherAnswer entry output

-- Entry by entry an output is what the entries are answered, up to the first line that is answered otherwise; behind
-- that nothing is said.
abbrev pub Retells : List Entry → List ℕ → Type 0
Retells [] output = output ≡ []
Retells (entry ∷ entries) output =
    (first rest : List ℕ) × (output ≡ first ++ rest)
    × (((first ≡ answer entry) × Retells entries rest) ⊎ AnswersOtherwise entry first)

-- The same; and where no line is answered otherwise, this is so behind the last one.
abbrev pub RetellsTo : List Entry → List ℕ → Type 0 → Type 0
RetellsTo [] output Behind = (output ≡ []) × Behind
RetellsTo (entry ∷ entries) output Behind =
    (first rest : List ℕ) × (output ≡ first ++ rest)
    × (((first ≡ answer entry) × RetellsTo entries rest Behind) ⊎ AnswersOtherwise entry first)

-- the numbers of an entry's call fit their types
abbrev pub FitsEntry : Entry → Type 0
FitsEntry entry = Fits entry.call
