-- Limits are read as they were written, and nothing else is.
use Rattle.std.proofs.Common.{◌≡◌, ℕ, ◌+◌, ◌<◌, ◌≤◌, ◌^◌, Bool, true, false, Some, None, refl, ap, arith}
use Rattle.std.proofs.lemmas.Bool.Decides.{nat_tests}
use Rattle.ob_tables.specs.Limits.{AreInRange, flagged}
use Rattle.std.specs.Int.{w32, to_le_bytes}
use Rattle.std.proofs.Math.Bridge.{le_prop}
use Rattle.std.proofs.lemmas.Bool.{le-leb}
use Rattle.std.proofs.lemmas.Option.{same_Some}
use Rattle.ob_codec.specs.Codecs.{both_codec, some_codec, u32_codec}
use Rattle.ob_codec.specs.Laws.{IsCodec}
use Rattle.ob_codec.specs.Spelling.{Any, BothFit, both}
use Rattle.ob_tables.specs.declared.limits.Limits.{Limits}
use Rattle.ob_tables.specs.SavedLimits.{InRange, LimitNumbers, are_in_range, in_range, limits_at, limits_of, limits_text, limits_where, flag_in, number_in, numbers_at, numbers_of}

range_in : (n : LimitNumbers) → InRange n → are_in_range n ≡ true
range_in n r = grind (
  arith,
  nat_tests,
  r.slots_in_range,
  r.processes_in_range,
  r.threads_in_range,
  r.handles_in_range,
  r.waits_in_range,
  r.max_pins_in_range,
  r.max_gen_in_range,
  r.max_recursion_in_range,
)

-- a range holds in one way
same_pair : {a b c d : ℕ} (r s : (a ≤ b) × (c ≤ d)) → r ≡ s
same_pair r s = λ i. (le_prop r.0 s.0 i, le_prop r.1 s.1 i)

same_range : {slots processes threads handles waits max_pins max_gen max_recursion : ℕ}
    (r s : AreInRange slots processes threads handles waits max_pins max_gen max_recursion) → r ≡ s
same_range r s = λ i. record {
  slots_in_range = same_pair r.slots_in_range s.slots_in_range i;
  processes_in_range = same_pair r.processes_in_range s.processes_in_range i;
  threads_in_range = same_pair r.threads_in_range s.threads_in_range i;
  handles_in_range = same_pair r.handles_in_range s.handles_in_range i;
  waits_in_range = same_pair r.waits_in_range s.waits_in_range i;
  max_pins_in_range = same_pair r.max_pins_in_range s.max_pins_in_range i;
  max_gen_in_range = same_pair r.max_gen_in_range s.max_gen_in_range i;
  max_recursion_in_range = same_pair r.max_recursion_in_range s.max_recursion_in_range i;
}

-- such a number says both
number_is : (n : ℕ) (flag : Bool) → n ≤ 2147483647 → number_in (flagged n flag) ≡ n
number_is n true le = omega (arith, le)
number_is n false le = omega (arith, le)

flag_is : (n : ℕ) (flag : Bool) → n ≤ 2147483647 → flag_in (flagged n flag) ≡ flag
flag_is n true le = le-leb 2147483648 (n + 2147483648) (omega arith)
flag_is n false le = grind (arith, nat_tests)

pub both_said : (n : ℕ) → n < 2 ^ 32 → flagged (number_in n) (flag_in n) ≡ n
both_said n lt = grind (arith, nat_tests)

-- limits are those of their numbers
same_limits : (l : Limits) (p m : ℕ) (a b : Bool) → p ≡ l.max_pins → m ≡ l.max_recursion → a ≡ l.repeats → b ≡ l.reuse
    → (r : AreInRange l.slots l.processes l.threads l.handles l.waits p l.max_gen m)
    → record l { max_pins = p; max_recursion = m; repeats = a; reuse = b; in_range = r } ≡ l
same_limits l p m a b of_p of_m of_a of_b = rw (of_p, of_m, of_a, of_b) (λ r i. record l { in_range = same_range r l.in_range i })

pub limits_are : (l : Limits) (n : LimitNumbers) → numbers_of l ≡ n → limits_of n ≡ Some l
limits_are l n e = rw (← e) (by (are_in_range (numbers_of l)) refl)
  where
    low : l.max_pins ≤ 2147483647
    low = omega (arith, l.in_range.max_pins_in_range)

    pins : number_in (flagged l.max_pins l.repeats) ≡ l.max_pins
    pins = number_is l.max_pins l.repeats low

    recursion : number_in (flagged l.max_recursion l.reuse) ≡ l.max_recursion
    recursion = number_is l.max_recursion l.reuse l.in_range.max_recursion_in_range.1

    by : (b : Bool) (e : are_in_range (numbers_of l) ≡ b) → limits_where (numbers_of l) b e ≡ Some l
    by true e = ap Some (same_limits l _ _ _ _ pins recursion (flag_is l.max_pins l.repeats low)
        (flag_is l.max_recursion l.reuse l.in_range.max_recursion_in_range.1) (in_range (numbers_of l) e))
    by false e = absurd (let is = range_in (numbers_of l) (rw (pins, recursion) l.in_range) in cc (e, is))

-- and numbers that aren't within their ranges are those of none
pub limits_none : (n : LimitNumbers) → (InRange n → false ≡ true) → limits_of n ≡ None
limits_none n out = by (are_in_range n) refl
  where
    by : (b : Bool) (e : are_in_range n ≡ b) → limits_where n b e ≡ None
    by true e = absurd (cc (out (in_range n e)))
    by false e = refl

abbrev NumbersFit : LimitNumbers → Type 0
NumbersFit = BothFit (λ n. n < 2 ^ 32) (BothFit (λ n. n < 2 ^ 32) (BothFit (λ n. n < 2 ^ 32) (BothFit (λ n. n < 2 ^ 32)
    (BothFit (λ n. n < 2 ^ 32) (BothFit (λ n. n < 2 ^ 32) (BothFit (λ n. n < 2 ^ 32) (λ n. n < 2 ^ 32)))))))

numbers_codec : IsCodec (both (to_le_bytes w32) (both (to_le_bytes w32) (both (to_le_bytes w32)
    (both (to_le_bytes w32) (both (to_le_bytes w32) (both (to_le_bytes w32)
    (both (to_le_bytes w32) (to_le_bytes w32)))))))) numbers_at NumbersFit
numbers_codec = both_codec u32_codec (both_codec u32_codec (both_codec u32_codec (both_codec u32_codec
    (both_codec u32_codec (both_codec u32_codec (both_codec u32_codec u32_codec))))))

low : (most n : ℕ) → most ≤ 4294967295 → (1 ≤ n) × (n ≤ most) → n < 2 ^ 32
low most n le r = omega (arith, le, r.1)

flagged_low : (n : ℕ) (flag : Bool) → n ≤ 2147483647 → flagged n flag < 2 ^ 32
flagged_low n true le = omega (arith, le)
flagged_low n false le = omega (arith, le)

there : (l : Limits) → Any l → (limits_of (numbers_of l) ≡ Some l) × NumbersFit (numbers_of l)
there l any = let range = l.in_range in search (arith, limits_are, low, flagged_low, range.max_pins_in_range)

back : (n : LimitNumbers) (l : Limits) → NumbersFit n → limits_of n ≡ Some l → (numbers_of l ≡ n) × Any l
back n l fits e = (by (are_in_range n) refl e, tt)
  where
    by : (b : Bool) (e : are_in_range n ≡ b) → limits_where n b e ≡ Some l → numbers_of l ≡ n
    by true e is = grind (arith, same_Some, both_said, fits)
    by false e is = absurd cc

pub limits_codec : IsCodec limits_text limits_at Any
limits_codec = some_codec limits_of numbers_of Any there back numbers_codec
