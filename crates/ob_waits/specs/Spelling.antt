-- Waits as bytes: the last number given, and each wait that isn't over with its number, by rising number.
use Rattle.std.specs.Prelude.{◌≡◌, ℕ, zero, suc, ◌+◌, ◌<◌, ◌^◌, nat_lt, nat_le, ◌&&◌, ◌||◌, not, Bool, true, false, List, [], ◌∷◌, length, Option, Some, None, Err, is_some, slice_index_or}
use Rattle.std.specs.List.{list_all, list_any}
use Rattle.std.specs.Int.{w32, w64, to_le_bytes}
use Rattle.ob_codec.specs.declared.fault.TextFault.TheVariants.{Tag}
use Rattle.ob_codec.specs.Reading.{Read, as_at, both_at, list_at, number_at, option_at, tagged_at, where_at}
use Rattle.ob_codec.specs.Sparse.{SparseFits, sparse, sparse_at}
use Rattle.ob_codec.specs.Spelling.{BothFit, FewFit, OptionFits, both, list, option}
use Rattle.pin_core.specs.Spelling.{IdFits, id_at, id_text}
use Rattle.pin_core.specs.declared.id.Id.{Id}
use Rattle.ob_body.specs.Spelling.{is_four}
use Rattle.ob_waits.specs.Deadlines.{is_overdue}
use Rattle.ob_waits.specs.Waits.{WaitList, has_slot, is_code, is_waits_of, state_ids}
use Rattle.ob_waits.specs.declared.numbered_wait.NumberedWait.{NumberedWait}
use Rattle.ob_waits.specs.declared.wait.Mode.{Mode}
use Rattle.ob_waits.specs.declared.wait.Mode.TheVariants.{Any, All}
use Rattle.ob_waits.specs.declared.wait.State.{State}
use Rattle.ob_waits.specs.declared.wait.State.TheVariants.{Pending, Answered}
use Rattle.ob_waits.specs.declared.wait.Wait.{Wait}

-- the objects of a wait, at most 64
abbrev pub ids_text : List Id → List ℕ
ids_text = list id_text

abbrev pub ids_at : List ℕ → Read (List Id)
ids_at = list_at 64 id_at

abbrev pub IdsFit : List Id → Type 0
IdsFit = FewFit 64 IdFits

-- where a wait stands: the tag says whether it is pending for any or for all of its objects, or answered with a code
abbrev pub tag_of : State → ℕ
tag_of (Pending Any ids) = 0
tag_of (Pending All ids) = 1
tag_of (Answered code) = 2

abbrev pub parts_text : State → List ℕ
parts_text (Pending mode ids) = ids_text ids
parts_text (Answered code) = to_le_bytes w32 code

abbrev pub state_text : State → List ℕ
state_text state = tag_of state ∷ parts_text state

unfoldable pub state_in : ℕ → List ℕ → Read State
state_in zero rest = as_at (Pending Any) ids_at rest
state_in (suc zero) rest = as_at (Pending All) ids_at rest
state_in (suc (suc zero)) rest = as_at Answered (number_at w32) rest
state_in (suc (suc (suc t))) rest = Err Tag

abbrev pub state_at : List ℕ → Read State
state_at = tagged_at state_in

abbrev pub StateFits : State → Type 0
StateFits (Pending mode ids) = IdsFit ids
StateFits (Answered code) = is_four code

-- a wait: its thread, its deadline, and where it stands
abbrev pub wait_of : ℕ × (Option ℕ × State) → Wait
wait_of p = record { thread = p.0; deadline = p.1.0; state = p.1.1 }

abbrev pub wait_parts : Wait → ℕ × (Option ℕ × State)
wait_parts wait = (wait.thread, (wait.deadline, wait.state))

abbrev pub wait_text : Wait → List ℕ
wait_text wait = both (to_le_bytes w32) (both (option (to_le_bytes w64)) state_text) (wait_parts wait)

abbrev pub wait_at : List ℕ → Read Wait
wait_at = as_at wait_of (both_at (number_at w32) (both_at (option_at (number_at w64)) state_at))

abbrev pub WaitFits : Wait → Type 0
WaitFits wait = BothFit is_four (BothFit (OptionFits (λ n. n < 2 ^ 64)) StateFits) (wait_parts wait)

-- a wait behind its number
abbrev pub numbered_of : ℕ × Wait → NumberedWait
numbered_of p = record { number = p.0; wait = p.1 }

abbrev pub numbered_parts : NumberedWait → ℕ × Wait
numbered_parts held = (held.number, held.wait)

abbrev pub row_text : ℕ × Wait → List ℕ
row_text = both (to_le_bytes w32) wait_text

abbrev pub row_at : List ℕ → Read (ℕ × Wait)
row_at = both_at (number_at w32) wait_at

abbrev pub RowFits : ℕ × Wait → Type 0
RowFits = BothFit is_four WaitFits

abbrev pub numbered_text : NumberedWait → List ℕ
numbered_text held = row_text (numbered_parts held)

abbrev pub numbered_at : List ℕ → Read NumberedWait
numbered_at = as_at numbered_of row_at

abbrev pub NumberedFits : NumberedWait → Type 0
NumberedFits held = RowFits (numbered_parts held)

-- whether two places of a list name one slot
abbrev pub names_twice : List Id → Bool
names_twice [] = false
names_twice (id ∷ ids) = has_slot ids id.slot || names_twice ids

-- whether a wait for all is for an object, and for none twice
abbrev pub may_list : Mode → List Id → Bool
may_list Any ids = true
may_list All ids = nat_lt 0 (length ids) && not (names_twice ids)

abbrev pub state_may : State → Bool
state_may (Pending mode ids) = may_list mode ids
state_may (Answered code) = is_code code

-- whether a wait can be there at a moment: one that is pending may wait for its objects, and its time isn't up; one
-- that is answered has a code that can be
abbrev pub may_stand : ℕ → Option Wait → Bool
may_stand clock None = true
may_stand clock (Some wait) = state_may wait.state && not (is_overdue clock (Some wait))

-- whether each wait is another thread's
abbrev pub one_each : List (Option Wait) → Bool
one_each [] = true
one_each (None ∷ waits) = one_each waits
one_each (Some wait ∷ waits) = not (list_any (is_waits_of wait.thread) waits) && one_each waits

-- whether waits can be there at a moment: no number is above the limit, 0 is nobody's, and a thread has one wait
abbrev pub can_be : ℕ → ℕ → List (Option Wait) → Bool
can_be limit clock waits =
    (nat_le (length waits) (limit + 1) && not (is_some (slice_index_or waits 0 None)))
    && (list_all (may_stand clock) waits && one_each waits)

-- whether the thread of a wait, and the slots of its objects, are below some
abbrev pub are_below : ℕ → List Id → Bool
are_below slots ids = list_all (λ (id : Id). nat_lt id.slot slots) ids

abbrev pub is_within : ℕ → ℕ → Option Wait → Bool
is_within threads slots None = true
is_within threads slots (Some wait) = nat_lt wait.thread threads && are_below slots (state_ids wait.state)

abbrev pub are_within : ℕ → ℕ → List (Option Wait) → Bool
are_within threads slots waits = list_all (is_within threads slots) waits

-- the waits; their limit and the moment stand elsewhere
abbrev pub waits_text : List (Option Wait) → List ℕ
waits_text = sparse wait_text

abbrev pub with_rest : ℕ → ℕ → List (Option Wait) → WaitList
with_rest limit clock waits = record { limit = limit; waits = waits; clock = clock }

-- so do how many threads and slots there are, which bound the memory that is asked for: no thread has two waits
abbrev pub waits_at : ℕ → ℕ → ℕ → ℕ → List ℕ → Read WaitList
waits_at limit clock threads slots =
    as_at (with_rest limit clock)
    (where_at (are_within threads slots) (where_at (can_be limit clock) (sparse_at threads wait_at)))

-- waits that have a spelling
abbrev pub WaitsFit : WaitList → Type 0
WaitsFit list = SparseFits WaitFits list.waits × (can_be list.limit list.clock list.waits ≡ true)
