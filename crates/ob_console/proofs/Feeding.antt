-- A console takes a block, line by line.
use Rattle.ob_console.proofs.Cited.{◌≡◌, ℕ, ◌+◌, ◌<◌, ◌≤◌, List, [], ◌++◌, length, get_or, refl, ◌∙◌, arith, position_or_len, before_first, after_first, append_assoc, append-nil, take-append-drop, drop_more, length-take, length-drop, get_or-take, fails_before_first, passes_at_first, line_end, IsWithin, Writes, Begins, ConsoleState, Advances, IsFed, IsCutShort, writes_on, begins_on}
use Rattle.memchr.specs.Find.{is_byte}
use Rattle.ob_console.proofs.Advancing.{advances_on, advances_none}

-- the first line, its end, and what is behind
pub cut_whole : (text : List ℕ) → position_or_len (is_byte 10) text < length text
    → (before_first (is_byte 10) text ++ line_end) ++ after_first (is_byte 10) text ≡ text
cut_whole text within =
    let at = position_or_len (is_byte 10) text in
    let end : get_or text at 0 ≡ 10 = search (arith, passes_at_first) in
    search (arith, append_assoc, drop_more, take-append-drop)

-- nothing is fed yet
pub fed_nothing : (console : ConsoleState) (block taken : List ℕ) → IsFed console console block block taken taken
fed_nothing console block taken =
    record { front = []; printed = []; whole = refl; advances = advances_none console; written = search (arith, append-nil) }

module _ {old now new : ConsoleState} {block rest before taken later : List ℕ} (output : List ℕ)
    (fed : IsFed old now block rest before taken) (within : position_or_len (is_byte 10) rest < length rest)
    (advances : Advances now (before_first (is_byte 10) rest ++ line_end) output new) where
  -- one more line
  pub fed_line : Writes taken later (now.pending.bytes ++ output) new.pending.bytes
      → IsFed old new block (after_first (is_byte 10) rest) before later
  fed_line written = record {
    front = fed.front ++ (before_first (is_byte 10) rest ++ line_end);
    printed = fed.printed ++ output;
    whole = search (arith, cut_whole, append_assoc);
    advances = search (arith, advances_on);
    written = search (arith, writes_on);
  }

  -- the sink fails at a line
  pub cut_short : Begins taken later (now.pending.bytes ++ output) → IsCutShort old new block before later
  cut_short begins = record {
    front = fed.front ++ (before_first (is_byte 10) rest ++ line_end);
    rest = after_first (is_byte 10) rest;
    printed = fed.printed ++ output;
    whole = search (arith, cut_whole, append_assoc);
    advances = search (arith, advances_on);
    written = search (arith, begins_on);
  }

-- what comes before the first line feed has none
pub before_within : (text : List ℕ) → IsWithin (before_first (is_byte 10) text)
before_within text = search (arith, fails_before_first, get_or-take, length-take)

-- the front of a block and its rest
pub fed_rest : {old now new : ConsoleState} {block rest before taken : List ℕ} → IsFed old now block rest before taken
    → Advances now rest [] new → new.pending.bytes ≡ now.pending.bytes → IsFed old new block [] before taken
fed_rest {rest = rest} fed advances same = record {
  front = fed.front ++ rest;
  printed = fed.printed ++ [];
  whole = append-nil _ ∙ fed.whole;
  advances = search (arith, advances_on);
  written = search (arith, append-nil);
}

-- a text without a line feed
pub rest_within : (text : List ℕ) → position_or_len (is_byte 10) text ≡ length text → IsWithin text
rest_within text none = search (arith, fails_before_first)

-- what is behind the first line feed is shorter
pub behind_shorter : (text : List ℕ) → position_or_len (is_byte 10) text < length text
    → length (after_first (is_byte 10) text) + 1 ≤ length text
behind_shorter text within = search (arith, length-drop)

module _ (old mid new : ConsoleState) (block before taken later : List ℕ) (fed : IsFed old mid block [] before taken)
    (state_is : new.point ≡ mid.point) (held_is : new.held ≡ mid.held) (lines_is : new.lines ≡ mid.lines) where
  -- what was fed is written
  pub fed_written : new.pending.bytes ≡ [] → later ≡ taken ++ mid.pending.bytes → IsFed old new block [] before later
  fed_written empty written = search (arith, append-nil, append_assoc)

  -- the sink fails while what was fed is written
  pub fed_cut_short : Begins taken later mid.pending.bytes → IsCutShort old new block before later
  fed_cut_short begins = search (arith, append_assoc)
