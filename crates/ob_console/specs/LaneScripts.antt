-- What the members of the prologue and of the lanes are to do.
use Rattle.std.specs.Prelude.{ℕ, ◌+◌, ◌&&◌, not, Bool, true, false, List, [], ◌∷◌, ◌++◌, slice_index_or, slice_set, replicate}
use Rattle.ob_shared.specs.declared.act.Act.{Act}
use Rattle.ob_console.specs.Lines.{LaneLine, Nothing, Bad, Acts, is_marked, line_of}

pub record ScriptsState : Type 0 where
  pub more : Bool  -- whether the lines that `--more` adds are read
  pub scripts : List (List Act)  -- by the number of the lane, of which the prologue's is 0
  pub lanes : ℕ  -- how many lanes there are beside the prologue
  pub is_prologue : Bool  -- no line has begun with an @

-- no line has come
abbrev pub opening_scripts : Bool → ℕ → ScriptsState
opening_scripts more lanes = record {
  more = more;
  scripts = replicate (lanes + 1) [];
  lanes = lanes;
  is_prologue = true;
}

-- one act more, behind those of the lane
abbrev pub with_act : ℕ → Act → List (List Act) → List (List Act)
with_act number act scripts = slice_set scripts number (slice_index_or scripts number [] ++ act ∷ [])

-- what a line does to the scripts
abbrev pub with_acts : LaneLine → List (List Act) → List (List Act)
with_acts Nothing scripts = scripts
with_acts Bad scripts = scripts
with_acts (Acts number act) scripts = with_act number act scripts

abbrev pub without_prologue : ScriptsState → ScriptsState
without_prologue s = record s { is_prologue = false }

-- a line has come
abbrev pub with_line : ScriptsState → List ℕ → ScriptsState
with_line s line = record s {
  scripts = with_acts (line_of s.more s.lanes s.is_prologue line) s.scripts;
  is_prologue = s.is_prologue && not (is_marked line);
}

-- it isn't bad
abbrev pub is_good_line : LaneLine → Bool
is_good_line Nothing = true
is_good_line Bad = false
is_good_line (Acts number act) = true

abbrev pub is_good : ScriptsState → List ℕ → Bool
is_good s line = is_good_line (line_of s.more s.lanes s.is_prologue line)
