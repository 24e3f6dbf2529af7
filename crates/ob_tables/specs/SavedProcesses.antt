-- Processes and threads as bytes: the session of each process number, then the process of each thread number.
use Rattle.std.specs.Prelude.{◌≡◌, ℕ, ◌+◌, ◌<◌, ◌^◌, nat_le, ◌&&◌, ◌||◌, not, Bool, true, List, length, Option, Some, None, is_none, is_some, slice_index_or}
use Rattle.std.specs.Int.{w32, to_le_bytes}
use Rattle.std.specs.List.{list_all, list_any, range_with_len}
use Rattle.ob_codec.specs.Reading.{Read, as_at, both_at, list_at, number_at, option_at, where_at}
use Rattle.ob_codec.specs.Spelling.{BothFit, FewFit, ListFits, OptionFits, both, list, option}
use Rattle.ob_tables.specs.Processes.{ProcessesState, is_of}

-- what stands at each number, that of number 0 first, or nothing where it is gone
abbrev pub numbers_text : List (Option ℕ) → List ℕ
numbers_text = list (option (to_le_bytes w32))

-- whether there is number 0, and it is nobody's
abbrev pub are_numbers : List (Option ℕ) → Bool
are_numbers numbers = nat_le 1 (length numbers) && not (is_some (slice_index_or numbers 0 None))

-- no more numbers than the limit, and 0
abbrev pub numbers_at : ℕ → List ℕ → Read (List (Option ℕ))
numbers_at limit = where_at are_numbers (list_at (limit + 1) (option_at (number_at w32)))

-- numbers that have a spelling, and those that are within a limit as well
abbrev pub NumbersFit : List (Option ℕ) → Type 0
NumbersFit = ListFits (OptionFits (λ n. n < 2 ^ 32))

abbrev pub AreWithin : ℕ → List (Option ℕ) → Type 0
AreWithin limit numbers = FewFit (limit + 1) (OptionFits (λ n. n < 2 ^ 32)) numbers × (are_numbers numbers ≡ true)

-- whether a number, if there is one, is live: the process of a thread, or the thread that owns a mutex
abbrev pub is_of_live : List (Option ℕ) → Option ℕ → Bool
is_of_live numbers None = true
is_of_live numbers (Some number) = is_some (slice_index_or numbers number None)

abbrev pub are_of_live : List (Option ℕ) × List (Option ℕ) → Bool
are_of_live p = list_all (is_of_live p.0) p.1

-- whether a number is gone, or its process has a live thread; and the same of each number
abbrev pub is_populated : ProcessesState → ℕ → Bool
is_populated l process = is_none (slice_index_or l.processes process None) || list_any (is_of process) l.threads

abbrev pub are_populated : ProcessesState → Bool
are_populated l = list_all (is_populated l) (range_with_len 0 (length l.processes))

abbrev pub processes_of : List (Option ℕ) × List (Option ℕ) → ProcessesState
processes_of p = record { processes = p.0; threads = p.1 }

abbrev pub lists_of : ProcessesState → List (Option ℕ) × List (Option ℕ)
lists_of l = (l.processes, l.threads)

-- the processes, then the threads; their limits stand elsewhere
abbrev pub processes_text : ProcessesState → List ℕ
processes_text l = both numbers_text numbers_text (lists_of l)

abbrev pub processes_at : ℕ → ℕ → List ℕ → Read ProcessesState
processes_at processes threads = where_at are_populated
    (as_at processes_of (where_at are_of_live (both_at (numbers_at processes) (numbers_at threads))))

-- processes and threads that have a spelling, and those that are within their limits as well, each live thread with a
-- live process, and each live process with a live thread
abbrev pub ListsFit : ProcessesState → Type 0
ListsFit l = BothFit NumbersFit NumbersFit (lists_of l)

abbrev pub ProcessesFit : ℕ → ℕ → ProcessesState → Type 0
ProcessesFit processes threads l = (BothFit (AreWithin processes) (AreWithin threads) (lists_of l)
    × (are_of_live (lists_of l) ≡ true)) × (are_populated l ≡ true)
