-- Reading from left to right, up to the first fault.
use Rattle.std.specs.Prelude.{◌≡◌, ℕ, zero, suc, List, [], ◌∷◌, length, take, drop, Bool, true, false, Option, Some, None, Result, Ok, Err, nat_le, nat_lt, if◌then◌else◌}
use Rattle.std.specs.Int.{Width, w32, byte_len, from_le_bytes}
use Rattle.ob_codec.specs.declared.fault.TextFault.{TextFault}
use Rattle.ob_codec.specs.declared.fault.TextFault.TheVariants.{Short, Tag, Value, Trailing}
use Rattle.ob_codec.specs.declared.fault.ReadFault.{ReadFault}
use Rattle.ob_codec.specs.declared.fault.ReadFault.TheVariants.{Memory, Text}

infixl 10 ◌>>=◌
abbrev pub ◌>>=◌ : {A B : Type 0} → Result A TextFault → (A → Result B TextFault) → Result B TextFault
(Ok x) >>= f = f x
(Err fault) >>= f = Err fault

-- a value and the bytes behind it, or the first fault
abbrev pub Read : Type 0 → Type 0
Read A = Result (A × List ℕ) TextFault

-- what a function was refused for is the fault of reading, unless memory ran out
abbrev pub Fails : {Y : Type 0} → ReadFault → Result Y TextFault → Type 0
Fails Memory read = Unit {0}
Fails (Text fault) read = read ≡ Err fault

-- what a function answered, seen by a view, and the bytes that are left, are what reading gives, unless memory ran out
abbrev pub Gives : {X A : Type 0} → (X → A) → Result X ReadFault → Read A → List ℕ → Type 0
Gives view (Ok x) read rest = read ≡ Ok (view x, rest)
Gives view (Err e) read rest = Fails e read

-- the same of what reads all
abbrev pub GivesAll : {X A : Type 0} → (X → A) → Result X ReadFault → Result A TextFault → Type 0
GivesAll view (Ok x) read = read ≡ Ok (view x)
GivesAll view (Err e) read = Fails e read

-- so many bytes
abbrev pub bytes_at : ℕ → List ℕ → Read (List ℕ)
bytes_at n bytes = if nat_lt (length bytes) n then Err Short else Ok (take n bytes, drop n bytes)

-- a number, lowest byte first
abbrev pub number_at : Width → List ℕ → Read ℕ
number_at w bytes =
    if nat_lt (length bytes) (byte_len w) then Err Short
    else Ok (from_le_bytes w (take (byte_len w) bytes), drop (byte_len w) bytes)

abbrev pub byte_at : List ℕ → Read ℕ
byte_at [] = Err Short
byte_at (b ∷ bytes) = Ok (b, bytes)

-- 0 or 1
unfoldable pub flag_at : List ℕ → Read Bool
flag_at [] = Err Short
flag_at (zero ∷ rest) = Ok (false, rest)
flag_at (suc zero ∷ rest) = Ok (true, rest)
flag_at (suc (suc b) ∷ rest) = Err Tag

-- a flag, and the value where there is one
unfoldable pub option_at : {A : Type 0} → (List ℕ → Read A) → List ℕ → Read (Option A)
option_at read [] = Err Short
option_at read (zero ∷ rest) = Ok (None, rest)
option_at read (suc zero ∷ rest) = do
  x ← read rest
  Ok (Some x.0, x.1)
option_at read (suc (suc b) ∷ rest) = Err Tag

-- so many values
unfoldable pub items_at : {A : Type 0} → (List ℕ → Read A) → ℕ → List ℕ → Read (List A)
items_at read zero bytes = Ok ([], bytes)
items_at read (suc n) bytes = do
  first ← read bytes
  others ← items_at read n first.1
  Ok (first.0 ∷ others.0, others.1)

-- how many values there are, in four bytes, no more than so many, and the values
unfoldable pub list_at : {A : Type 0} → ℕ → (List ℕ → Read A) → List ℕ → Read (List A)
list_at most read bytes = do
  n ← number_at w32 bytes
  if nat_le n.0 most then items_at read n.0 n.1 else Err Value

-- how many bytes there are, in four bytes, and the bytes
unfoldable pub string_at : List ℕ → Read (List ℕ)
string_at bytes = do
  n ← number_at w32 bytes
  bytes_at n.0 n.1

-- one value behind another
abbrev pub both_at : {A B : Type 0} → (List ℕ → Read A) → (List ℕ → Read B) → List ℕ → Read (A × B)
both_at read_a read_b bytes = do
  a ← read_a bytes
  b ← read_b a.1
  Ok ((a.0, b.0), b.1)

-- a value that stands for one of another type
abbrev pub as_at : {A B : Type 0} → (A → B) → (List ℕ → Read A) → List ℕ → Read B
as_at to read bytes = do
  a ← read bytes
  Ok (to a.0, a.1)

-- the same, where some values stand for none
abbrev pub given_at : {A : Type 0} → Option A → List ℕ → Read A
given_at None rest = Err Value
given_at (Some x) rest = Ok (x, rest)

abbrev pub some_at : {A B : Type 0} → (A → Option B) → (List ℕ → Read A) → List ℕ → Read B
some_at to read bytes = do
  a ← read bytes
  given_at (to a.0) a.1

-- a value that passes a test
abbrev pub where_at : {A : Type 0} → (A → Bool) → (List ℕ → Read A) → List ℕ → Read A
where_at test read bytes = do
  a ← read bytes
  if test a.0 then Ok a else Err Value

-- a byte that says which form the value has, and the value as that form is read
abbrev pub tagged_at : {A : Type 0} → (ℕ → List ℕ → Read A) → List ℕ → Read A
tagged_at pick [] = Err Short
tagged_at pick (tag ∷ rest) = pick tag rest

-- nothing more
abbrev pub end_of : List ℕ → Result (Unit {0}) TextFault
end_of [] = Ok tt
end_of (b ∷ bytes) = Err Trailing

-- so many bytes at least
abbrev pub has_at : ℕ → List ℕ → Result (Unit {0}) TextFault
has_at n bytes = if nat_lt (length bytes) n then Err Short else Ok tt

-- a value, and nothing behind it
abbrev pub whole_at : {A : Type 0} → (List ℕ → Read A) → List ℕ → Result A TextFault
whole_at read bytes = do
  a ← read bytes
  nothing ← end_of a.1
  Ok a.0
