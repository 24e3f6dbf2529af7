-- How the code goes over waits with their numbers: they are built one after another, by rising number, and written so.
use Rattle.std.specs.Prelude.{ℕ, ◌-◌, nat_le, ◌&&◌, not, Bool, List, [], ◌∷◌, ◌++◌, length, map, Option, Some, None, Result, Ok, Err, if◌then◌else◌, is_some}
use Rattle.std.specs.List.{list_all}
use Rattle.ob_codec.specs.declared.fault.TextFault.{TextFault}
use Rattle.ob_codec.specs.declared.fault.TextFault.TheVariants.{Value}
use Rattle.ob_codec.specs.Sparse.{spread}
use Rattle.ob_waits.specs.Spelling.{can_be, numbered_parts, is_within, may_stand, with_rest}
use Rattle.ob_waits.specs.Waits.{WaitList, number_of, skipped}
use Rattle.ob_waits.specs.declared.numbered_wait.NumberedWait.{NumberedWait}
use Rattle.ob_waits.specs.declared.wait.Wait.{Wait}

-- some waits, where they can be
abbrev pub tested : ℕ → ℕ → Option (List (Option Wait)) → Result WaitList TextFault
tested limit clock None = Err Value
tested limit clock (Some waits) = if can_be limit clock waits then Ok (with_rest limit clock waits) else Err Value

-- those that the last number and some waits with their numbers stand for
abbrev pub built : ℕ → ℕ → ℕ → List NumberedWait → Result WaitList TextFault
built limit clock last rows = tested limit clock (spread (last, map numbered_parts rows))

-- whether their threads and slots are below some
abbrev pub rows_within : ℕ → ℕ → List NumberedWait → Bool
rows_within threads slots rows = list_all (λ (held : NumberedWait). is_within threads slots (Some held.wait)) rows

-- whether a wait can come next with its number, up to the last one
abbrev pub may_come : ℕ → WaitList → NumberedWait → Bool
may_come last list held =
    (nat_le (length list.waits) held.number && nat_le held.number last)
    && (may_stand list.clock (Some held.wait) && not (is_some (number_of held.wait.thread list.waits)))

abbrev pub with_row : WaitList → NumberedWait → WaitList
with_row list held = record list { waits = skipped (held.number - 1) list.waits ++ Some held.wait ∷ [] }

abbrev pub come : ℕ → WaitList → NumberedWait → Result WaitList TextFault
come last list held = if may_come last list held then Ok (with_row list held) else Err Value

-- the wait of a number with it, where there is one
abbrev pub row_of : ℕ → Option Wait → List (ℕ × Wait)
row_of number None = []
row_of number (Some wait) = (number, wait) ∷ []
