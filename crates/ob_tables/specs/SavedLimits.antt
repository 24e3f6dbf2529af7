-- Limits as bytes: eight numbers of four bytes, in the order of the fields. The last says as well whether numbers come
-- back, and that of the pins whether a handle may stand twice in a wait for any.
use Rattle.std.proofs.Common.{◌≡◌, ℕ, ◌≤◌, ◌&&◌, leb, Bool, true, false, List, Option, Some, None, refl}
use Rattle.std.specs.Prelude.{◌%◌, nat_le}
use Rattle.std.specs.Int.{w32, to_le_bytes}
use Rattle.std.proofs.lemmas.Bool.{and_parts, leb-true}
use Rattle.ob_codec.specs.Reading.{Read, both_at, number_at, some_at}
use Rattle.ob_codec.specs.Spelling.{both}
use Rattle.ob_tables.specs.declared.limits.Limits.{Limits}
use Rattle.ob_tables.specs.Limits.{AreInRange, flagged}

abbrev pub LimitNumbers : Type 0
LimitNumbers = ℕ × (ℕ × (ℕ × (ℕ × (ℕ × (ℕ × (ℕ × ℕ))))))

-- what such a number says
abbrev pub number_in : ℕ → ℕ
number_in n = n % 2147483648

abbrev pub flag_in : ℕ → Bool
flag_in n = nat_le 2147483648 n

abbrev pub numbers_of : Limits → LimitNumbers
numbers_of l = (
  l.slots,
  (
    l.processes,
    (
      l.threads,
      (l.handles, (l.waits, (flagged l.max_pins l.repeats, (l.max_gen, flagged l.max_recursion l.reuse)))),
    ),
  ),
)

abbrev pub limits_text : Limits → List ℕ
limits_text l =
    both (to_le_bytes w32) (both (to_le_bytes w32) (both (to_le_bytes w32) (both (to_le_bytes w32)
    (both (to_le_bytes w32) (both (to_le_bytes w32) (both (to_le_bytes w32) (to_le_bytes w32)))))))
    (numbers_of l)

-- whether a number is from 1 up to another
abbrev pub is_up_to : ℕ → ℕ → Bool
is_up_to most n = leb 1 n && leb n most

-- whether each number is within the range of its limit
abbrev pub are_in_range : LimitNumbers → Bool
are_in_range n =
    (is_up_to 65536 n.0 && is_up_to 65536 n.1.0)
    && ((is_up_to 65536 n.1.1.0 && is_up_to 16384 n.1.1.1.0)
    && ((is_up_to 4294967295 n.1.1.1.1.0 && is_up_to 1073741823 (number_in n.1.1.1.1.1.0))
    && (is_up_to 4294967295 n.1.1.1.1.1.1.0 && is_up_to 2147483647 (number_in n.1.1.1.1.1.1.1))))

abbrev pub InRange : LimitNumbers → Type 0
InRange n = AreInRange n.0 n.1.0 n.1.1.0 n.1.1.1.0 n.1.1.1.1.0 (number_in n.1.1.1.1.1.0) n.1.1.1.1.1.1.0
    (number_in n.1.1.1.1.1.1.1)

up_to : (most n : ℕ) → is_up_to most n ≡ true → (1 ≤ n) × (n ≤ most)
up_to most n e = let b = and_parts (leb 1 n) (leb n most) e in (leb-true 1 n b.0, leb-true n most b.1)

pub in_range : (n : LimitNumbers) → are_in_range n ≡ true → InRange n
in_range n e =
    let first = and_parts (is_up_to 65536 n.0 && is_up_to 65536 n.1.0) _ e in
    let second = and_parts (is_up_to 65536 n.1.1.0 && is_up_to 16384 n.1.1.1.0) _ first.1 in
    let third = and_parts (is_up_to 4294967295 n.1.1.1.1.0 && is_up_to 1073741823 (number_in n.1.1.1.1.1.0)) _ second.1 in
    let a = and_parts (is_up_to 65536 n.0) (is_up_to 65536 n.1.0) first.0 in
    let b = and_parts (is_up_to 65536 n.1.1.0) (is_up_to 16384 n.1.1.1.0) second.0 in
    let c = and_parts (is_up_to 4294967295 n.1.1.1.1.0) (is_up_to 1073741823 (number_in n.1.1.1.1.1.0)) third.0 in
    let d = and_parts (is_up_to 4294967295 n.1.1.1.1.1.1.0) (is_up_to 2147483647 (number_in n.1.1.1.1.1.1.1)) third.1 in
    record {
      slots_in_range = up_to 65536 n.0 a.0;
      processes_in_range = up_to 65536 n.1.0 a.1;
      threads_in_range = up_to 65536 n.1.1.0 b.0;
      handles_in_range = up_to 16384 n.1.1.1.0 b.1;
      waits_in_range = up_to 4294967295 n.1.1.1.1.0 c.0;
      max_pins_in_range = up_to 1073741823 (number_in n.1.1.1.1.1.0) c.1;
      max_gen_in_range = up_to 4294967295 n.1.1.1.1.1.1.0 d.0;
      max_recursion_in_range = up_to 2147483647 (number_in n.1.1.1.1.1.1.1) d.1;
    }

-- the limits of some numbers, where each is within its range
abbrev pub limits_with : (n : LimitNumbers) → InRange n → Limits
limits_with n r = record {
  slots = n.0;
  processes = n.1.0;
  threads = n.1.1.0;
  handles = n.1.1.1.0;
  waits = n.1.1.1.1.0;
  max_pins = number_in n.1.1.1.1.1.0;
  max_gen = n.1.1.1.1.1.1.0;
  max_recursion = number_in n.1.1.1.1.1.1.1;
  reuse = flag_in n.1.1.1.1.1.1.1;
  repeats = flag_in n.1.1.1.1.1.0;
  in_range = r;
}

abbrev pub limits_where : (n : LimitNumbers) (b : Bool) → are_in_range n ≡ b → Option Limits
limits_where n true e = Some (limits_with n (in_range n e))
limits_where n false e = None

abbrev pub limits_of : LimitNumbers → Option Limits
limits_of n = limits_where n (are_in_range n) refl

abbrev pub numbers_at : List ℕ → Read LimitNumbers
numbers_at =
    both_at (number_at w32) (both_at (number_at w32) (both_at (number_at w32) (both_at (number_at w32)
    (both_at (number_at w32) (both_at (number_at w32) (both_at (number_at w32) (number_at w32)))))))

abbrev pub limits_at : List ℕ → Read Limits
limits_at = some_at limits_of numbers_at
