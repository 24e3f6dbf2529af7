-- The grammar reads the line of a call as that call, with the lines that `--more` adds.
use Rattle.ob_script.proofs.Cited.{◌≡◌, ℕ, arith, ◌∙◌, List, [], ◌∷◌, ◌++◌, length, Bool, true, false, Some, None, IfSome, codes, nat_lt, signed_decimal, nat_tests, common_steps, Call, Asks, command_of, command_of_text, command_of_words, text_of, Fits, label, mask_word, either_word, kind_word, words_for, text_for, ended, can_be_said, is_line, line_of, as_said, said}
use Rattle.ob_manager.specs.declared.call.CallOf.TheVariants as calls
use Rattle.ob_script.proofs.Numerals.{reads_due, reads_mask, reads_moment, reads_number, reads_signed}
use Rattle.ob_script.proofs.Spaces.{said_joined, AreWords, read_words, reads_front, reads_all}
use Rattle.ob_script.proofs.Fields.{reads_make, reads_make_words, reads_text, reads_open_words, reads_id, reads_kind, reads_type, reads_mode, reads_timeout, reads_handles, reads_target, reads_access, options_are, line_words}

-- a line of words alone
reads_words : (call : Call) → AreWords (words_for call) → command_of_words true (words_for call) ≡ Asks (as_said call)
    → command_of_words true (read_words (words_for call)) ≡ Asks (as_said call)
reads_words call are asks = search (arith, reads_all)

-- words in front, and what is read behind them
behind_front : (front words got : List (List ℕ)) → AreWords front → read_words words ≡ got
    → command_of_words true (read_words (front ++ words)) ≡ command_of_words true (front ++ got)
behind_front front words got are is = search (arith, reads_front)

-- how an event or a timer is reset, and whether an event is set
abbrev reset_word : Bool → List ℕ
reset_word manual = either_word (codes "auto") (codes "manual") manual

abbrev state_word : Bool → List ℕ
state_word set = either_word (codes "clear") (codes "set") set

reads : (call : Call) → Fits call → can_be_said call ≡ true
    → command_of_words true (read_words (words_for call)) ≡ Asks (as_said call)
reads (calls.MakeEvent thread make manual set) fits can =
    behind_front (codes "event" ∷ label 116 thread ∷ reset_word manual ∷ state_word set ∷ []) _ _
    (search (arith, line_words) depth 12) (reads_make_words make) ∙ search (arith, reads_number, reads_make)
reads (calls.MakeMutex thread make owned) fits can =
    behind_front (codes "mutex" ∷ label 116 thread ∷ either_word (codes "free") (codes "owned") owned ∷ []) _ _
    (search (arith, line_words) depth 12) (reads_make_words make) ∙ search (arith, reads_number, reads_make)
reads (calls.MakeSemaphore thread make initial max) fits can =
    behind_front (codes "semaphore" ∷ label 116 thread ∷ signed_decimal initial ∷ signed_decimal max ∷ []) _ _
    (search (arith, line_words) depth 12) (reads_make_words make) ∙ search (arith, reads_number, reads_signed, reads_make)
reads (calls.MakeTimer thread make manual) fits can =
    behind_front (codes "timer" ∷ label 116 thread ∷ reset_word manual ∷ []) _ _
    (search (arith, line_words) depth 12) (reads_make_words make) ∙ search (arith, reads_number, reads_make)
reads (calls.MakeHost thread make object_type manual signaled) fits can =
    behind_front (codes "host" ∷ label 116 thread ∷ label 107 object_type ∷ reset_word manual ∷ state_word signaled
    ∷ []) _ _ (search (arith, line_words) depth 12) (reads_make_words make) ∙ search (arith, reads_number, reads_type, reads_make)
reads (calls.OpenNamed thread kind mask inherit text) fits can =
    behind_front (codes "open" ∷ label 116 thread ∷ kind_word kind ∷ mask_word mask ∷ []) _ _
    (search (arith, line_words) depth 12) (reads_open_words inherit text) ∙ search (arith, reads_number, reads_kind, reads_mask, reads_text)
reads (calls.WaitFor thread mode timeout handles) fits can =
    let are = reads_handles handles fits.2 in
    reads_words (calls.WaitFor thread mode timeout handles) (search (arith, line_words) depth 12)
    (search (arith, reads_number, reads_mode, reads_timeout, are.0, are.1))
reads call fits can =
    reads_words call (search (arith, line_words) depth 12)
    (search (arith, reads_number, reads_signed, reads_due, reads_id, reads_timeout, reads_moment, reads_target, reads_access, options_are))

starts : (call : Call) → nat_lt 4096 (length (text_for call)) ≡ false
    → command_of_text true (text_for call) ≡ command_of_words true (read_words (words_for call))
starts call short = search arith

-- a line drops the carriage return that is one more
drops_return : (text : List ℕ) → text_of (ended text) ≡ text
drops_return text = grind (arith, nat_tests, common_steps)

reads_line : (call : Call) → Fits call → can_be_said call ≡ true → nat_lt 4096 (length (text_for call)) ≡ false
    → command_of true (ended (text_for call)) ≡ Asks (as_said call)
reads_line call fits can short = rw (drops_return, starts call short) (reads call fits can)

pub line_is_read : (call : Call) → Fits call
    → IfSome (line_of call) (λ line. command_of true line ≡ Asks (as_said call))
line_is_read call fits = search (arith, nat_tests, reads_line call fits)

-- the text that was written, and what becomes of it
module _ (call : Call) (text : List ℕ) (written : text ≡ [] ++ said (words_for call)) where
  pub gives_none : is_line text ≡ false → None ≡ line_of call
  gives_none none = search (arith, said_joined)

  pub gives_line : (line : List ℕ) → can_be_said call ≡ true → is_line text ≡ true → line ≡ ended text
      → Some line ≡ line_of call
  gives_line line can is ends = search (arith, said_joined)
