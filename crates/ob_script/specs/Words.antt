-- The words of a line, and what each stands for.
use Rattle.std.specs.Prelude.{ℕ, ◌+◌, ◌-◌, ◌*◌, ◌==◌, ◌&&◌, nat_le, Bool, true, false, List, [], ◌∷◌, Option, Some, None, if◌then◌else◌, length, codes, ℤ, pos, neg_ℤ, is_some, map}
use Rattle.std.specs.List.{slice_split, join_with_byte, list_all, before_first, after_first}
use Rattle.std.specs.Option.{unwrap_or}
use Rattle.std.specs.Char.{is_ascii_digit, is_ascii_hexdigit}
use Rattle.std.specs.Str.{bytes_eq}
use Rattle.std.specs.Str.Parse.{digits_value}
use Rattle.memchr.specs.Find.{is_byte}
use Rattle.pin_core.specs.declared.id.Id.{Id}
use Rattle.ob_rights.specs.declared.kind.Kind.{Kind}
use Rattle.ob_rights.specs.declared.kind.Kind.TheVariants.{Event, Mutex, Semaphore, Timer, Host}
use Rattle.ob_rights.specs.declared.rights.Rights.{Rights}

-- words are parted by single spaces
abbrev pub words_of : List ℕ → List (List ℕ)
words_of text = slice_split (is_byte 32) text

-- the text that words are
abbrev pub joined : List (List ℕ) → List ℕ
joined words = join_with_byte 32 words

-- whether a keyword comes next, and the words behind it if it does
abbrev pub begins_with : List ℕ → List (List ℕ) → Bool
begins_with keyword [] = false
begins_with keyword (word ∷ words) = bytes_eq word keyword

abbrev pub behind : List ℕ → List (List ℕ) → List (List ℕ)
behind keyword [] = []
behind keyword (word ∷ words) = if bytes_eq word keyword then words else word ∷ words

-- the number that decimal digits write behind those of another
abbrev pub value_after : ℕ → List ℕ → ℕ
value_after value [] = value
value_after value (digit ∷ digits) = value_after (value * 10 + (digit - 48)) digits

abbrev pub value_of : List ℕ → ℕ
value_of digits = value_after 0 digits

-- a number: 1 to 10 decimal digits, leading zeros allowed, at most 4,294,967,295
abbrev pub number_of : List ℕ → Option ℕ
number_of word =
    if nat_le 1 (length word) && nat_le (length word) 10 && list_all is_ascii_digit word
    && nat_le (value_of word) 4294967295
    then Some (value_of word) else None

-- a number behind a letter
abbrev pub labelled : ℕ → List ℕ → Option ℕ
labelled letter [] = None
labelled letter (byte ∷ digits) = if byte == letter then number_of digits else None

-- the next value, where there is one
infixl 10 ◌>>=◌
abbrev pub ◌>>=◌ : {A B : Type 0} → Option A → (A → Option B) → Option B
None >>= f = None
(Some x) >>= f = f x

-- an object: the letter s, its slot, a full stop, its generation
abbrev pub id_of : List ℕ → Option Id
id_of word = do
  slot ← labelled 115 (before_first (is_byte 46) word)
  generation ← number_of (after_first (is_byte 46) word)
  Some (record { slot = slot; generation = generation })

-- one of two keywords: false for the first, true for the second
abbrev pub either_of : List ℕ → List ℕ → List ℕ → Option Bool
either_of first second word = if bytes_eq word first then Some false else
    (if bytes_eq word second then Some true else None)

-- a type of a host's objects: a number up to 255 behind the letter k
abbrev pub type_of : List ℕ → Option ℕ
type_of word = do
  number ← labelled 107 word
  if nat_le number 255 then Some number else None

-- one of the kinds of objects; a type of a host's objects is one where the lines that `--more` adds are read
abbrev pub kind_of : Bool → List ℕ → Option Kind
kind_of more word =
    if bytes_eq word (codes "event") then Some Event
    else (if bytes_eq word (codes "mutex") then Some Mutex
    else (if bytes_eq word (codes "semaphore") then Some Semaphore
    else (if bytes_eq word (codes "timer") then Some Timer
    else (if more then type_of word >>= (λ object_type. Some (Host object_type)) else None))))

-- a number up to a limit, and the negative of one that is
abbrev pub up_to : ℕ → ℕ → Option ℤ
up_to limit n = if nat_le n limit then Some (pos n) else None

abbrev pub down_to : ℕ → ℕ → Option ℤ
down_to limit n = if nat_le n limit then Some (neg_ℤ (pos n)) else None

-- a signed number: the digits of a number, behind a minus if it is negative, from -2,147,483,648 to 2,147,483,647
abbrev pub signed_of : List ℕ → Option ℤ
signed_of [] = None
signed_of (first ∷ rest) =
    if first == 45 then number_of rest >>= down_to 2147483648 else number_of (first ∷ rest) >>= up_to 2147483647

-- a number of 1 to 19 decimal digits, leading zeros allowed
abbrev pub long_of : List ℕ → Option ℕ
long_of word = if nat_le 1 (length word) && nat_le (length word) 19
    && list_all is_ascii_digit word then Some (value_of word) else None

-- a number that a moment may be
abbrev pub to_moment : ℕ → Option ℕ
to_moment n = if nat_le n 9223372036854775807 then Some n else None

-- a moment: 1 to 19 digits, at most 9,223,372,036,854,775,807
abbrev pub moment_of : List ℕ → Option ℕ
moment_of word = long_of word >>= to_moment

-- when a timer is due: 1 to 19 digits, behind a minus for so many units from now, from -9,223,372,036,854,775,808 on
abbrev pub due_of : List ℕ → Option ℤ
due_of [] = None
due_of (first ∷ rest) =
    if first == 45 then long_of rest >>= down_to 9223372036854775808
    else long_of (first ∷ rest) >>= up_to 9223372036854775807

-- 1 to 8 hexadecimal digits of either case
abbrev pub hex_of : List ℕ → Option Rights
hex_of digits = if nat_le 1 (length digits) && nat_le (length digits) 8
    && list_all is_ascii_hexdigit digits then Some (record { 0 = digits_value 16 digits }) else None

-- a mask: `0x`, and its hexadecimal digits
abbrev pub mask_of : List ℕ → Option Rights
mask_of [] = None
mask_of (first ∷ []) = None
mask_of (first ∷ second ∷ digits) = if (first == 48) && (second == 120) then hex_of digits else None

-- all of these are handles
abbrev pub are_handles : List (List ℕ) → Bool
are_handles [] = true
are_handles (word ∷ words) = is_some (labelled 104 word) && are_handles words

abbrev pub handles_in : List (List ℕ) → List ℕ
handles_in words = map (λ word. unwrap_or (labelled 104 word) 0) words
