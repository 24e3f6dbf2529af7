-- The lines of a script with lanes: what each is, and which lane it goes to.
use Rattle.std.specs.Prelude.{◌≤◌, ℕ, ◌==◌, ◌&&◌, not, nat_le, nat_lt, Bool, true, false, List, Option, Some, None, if◌then◌else◌, length, codes, slice_index}
use Rattle.std.specs.List.{before_first, after_first}
use Rattle.std.specs.Str.{bytes_eq}
use Rattle.memchr.specs.Find.{is_byte}
use Rattle.ob_script.specs.Commands.{Command as Read, shortened}
use Rattle.ob_script.specs.Commands as read
use Rattle.ob_script.specs.Grammar.{command_of, text_of}
use Rattle.ob_script.specs.Words.{labelled, ◌>>=◌}
use Rattle.ob_shared.specs.declared.act.Act.{Act}
use Rattle.ob_shared.specs.declared.act.Act.TheVariants.{Ask, Pin, Unpin, ShowCard, Block}
use Rattle.ob_console.specs.Calls.{request_in}
use Rattle.ob_console.specs.declared.lanes.line.LaneLine.{LaneLine as Given}
use Rattle.ob_console.specs.declared.lanes.line.LaneLine.TheVariants as given

pub data LaneLine : Type 0 where
  Nothing : LaneLine  -- nothing is done
  Bad : LaneLine  -- the line is printed as bad
  Acts : ℕ → Act → LaneLine  -- what the member of the lane of this number is to do; the prologue is lane 0

-- what a line is in a lane, in which the names of objects can't be listed
abbrev pub in_lane : ℕ → Read → LaneLine
in_lane number read.Nothing = Nothing
in_lane number read.Bad = Bad
in_lane number read.ListNames = Bad
in_lane number (read.Asks call) = Acts number (Ask call)
in_lane number (read.Pin id) = Acts number (Pin id)
in_lane number (read.Unpin id) = Acts number (Unpin id)
in_lane number (read.ShowCard id) = Acts number (ShowCard id)

-- a line without a prefix is the prologue's while that goes on; afterwards it may only be nothing
abbrev pub without_prefix : Bool → Read → LaneLine
without_prefix true act = in_lane 0 act
without_prefix false read.Nothing = Nothing
without_prefix false act = Bad

-- the number of a lane behind an @: from 1 to the last, without a leading zero
abbrev pub lane_of : ℕ → List ℕ → Option ℕ
lane_of lanes word = do
  number ← labelled 64 word
  if nat_le 1 number && nat_le number lanes && not (slice_index word 1 == 48) then Some number else None

-- behind a prefix a line has to be an act
abbrev pub in_prefixed : ℕ → Read → LaneLine
in_prefixed number read.Nothing = Bad
in_prefixed number act = in_lane number act

abbrev pub behind_prefix : Bool → ℕ → List ℕ → LaneLine
behind_prefix more number line = if bytes_eq (text_of line) (codes "block") then Acts number Block else in_prefixed number
    (shortened (command_of more line))

-- a line that begins with an @: the prefix ends at the first space
abbrev pub prefixed : Bool → Option ℕ → List ℕ → LaneLine
prefixed more None line = Bad
prefixed more (Some number) line = behind_prefix more number line

abbrev pub with_prefix : Bool → ℕ → List ℕ → LaneLine
with_prefix more lanes line = prefixed more (lane_of lanes (before_first (is_byte 32) line)) (after_first (is_byte 32) line)

-- whether a line begins with an @
abbrev pub is_marked : List ℕ → Bool
is_marked line = nat_le 1 (length line) && (slice_index line 0 == 64)

-- a line of a script with so many lanes beside the prologue, and whether the prologue goes on, with the lines that
-- `--more` adds or without them; a text of more than 4,096 bytes is bad. Of a wait's handles the first 65 are kept: in
-- nothing else does a line of a lane ask otherwise than one without lanes
abbrev pub line_of : Bool → ℕ → Bool → List ℕ → LaneLine
line_of more lanes is_prologue line =
    if nat_lt 4096 (length (text_of line)) then Bad
    else (if is_marked line then with_prefix more lanes line
    else without_prefix is_prologue (shortened (command_of more line)))

-- a line as the code has it, with the handles that stand beside it
abbrev pub line_in : List ℕ → Given → LaneLine
line_in handles given.Nothing = Nothing
line_in handles given.Bad = Bad
line_in handles (given.Acts number request) = Acts number (request_in handles request)

-- the lane is the prologue's or one of so many
abbrev pub IsOfLane : ℕ → Given → Type 0
IsOfLane lanes (given.Acts number request) = number ≤ lanes
IsOfLane lanes line = Unit {0}
