-- A hold more or less keeps the world safe.
use Rattle.std.proofs.Common.{◌-◌, ◌≡◌, ℕ, ◌+◌, ◌<◌, ◌≤◌, ◌==◌, ◌&&◌, nat_lt, nat_le, Bool, true, false, refl, ap, arith}
use Rattle.pin_core.specs.declared.word.Word.{Word}
use Rattle.pin_core.specs.declared.id.Id.{Id}
use Rattle.pin_core.specs.declared.word.Phase.TheVariants.{Live}
use Rattle.pin_core.specs.declared.holders.Hold.{Hold}
use Rattle.pin_core.specs.declared.event.Event.TheVariants.{Pin, Release}
use Rattle.pin_core.specs.Holds.{tally, weight, is_at_slot, is_copy, is_hold, hold_of, with_hold, drop_first}
use Rattle.pin_core.specs.Worlds.{WorldState, at, id_at, pins, copies, times, last_copy, next_copy}
use Rattle.pin_core.specs.Events.{after}
use Rattle.pin_core.specs.Safety.{may_be_held, IsSafe}
use Rattle.pin_core.proofs.Counts.{count-with_hold, count-drop-le, count-drop}

abbrev IsHeld : WorldState → Id → Type 0
IsHeld w id = (id.slot < w.shape.slots) × ((at w id.slot).generation ≡ id.generation)
    × (may_be_held (at w id.slot).phase ≡ true)

same_of_copy : (r : ℕ) (id : Id) (t : Hold) → is_copy r id t ≡ true → (t.reader ≡ r) × (t.id ≡ id)
same_of_copy r id t e = search arith

pub pin-safe : (w : WorldState) (r s : ℕ) (e : Word) → IsSafe w → s < w.shape.slots → (at w s).phase ≡ Live
    → pins w s < w.shape.max_pins → IsSafe (after w (Pin r s e))
pin-safe w r s e safe inside live room = record {
  wide = safe.wide;
  held = λ q id some. held_more q id (is_copy q id (next_copy w r s)) refl some;
  numbered = λ q id k. numbered_more q id k (is_copy q id (next_copy w r s)) refl;
  room = λ x. room_more x (s == x) refl;
  slots = search arith;
  once = safe.once;
  below = safe.below;
}
  where
    held_more : (q : ℕ) (id : Id) (b : Bool) → is_copy q id (next_copy w r s) ≡ b
        → 0 < tally (is_copy q id) (with_hold (next_copy w r s) w.holders) → IsHeld w id
    held_more q id true e some = search arith
    held_more q id false e some = search (arith, count-with_hold)

    numbered_more : (q : ℕ) (id : Id) (k : ℕ) (b : Bool) → is_copy q id (next_copy w r s) ≡ b
        → tally (is_hold (hold_of q id k)) (with_hold (next_copy w r s) w.holders)
        ≡ weight (nat_lt 0 k && nat_le k (tally (is_copy q id) (with_hold (next_copy w r s) w.holders)))
    numbered_more q id k true e = let x = same_of_copy q id (next_copy w r s) e in
        let c = count-with_hold (is_copy q id) (next_copy w r s) w.holders in
        let h = count-with_hold (is_hold (hold_of q id k)) (next_copy w r s) w.holders in
        let same : copies w r (id_at w s) ≡ copies w q id = (λ i. copies w (x.0 i) (x.1 i)) in
        let one : weight (is_copy q id (next_copy w r s)) ≡ 1 = ap weight e in
        let grown : tally (is_copy q id) (with_hold (next_copy w r s) w.holders) ≡ copies w q id + 1 = omega arith in
        search arith
    numbered_more q id k false e = search (arith, count-with_hold)

    room_more : (x : ℕ) (b : Bool) → (s == x) ≡ b →
        tally (is_at_slot x) (with_hold (next_copy w r s) w.holders) ≤ w.shape.max_pins
    room_more x true e = search (arith, count-with_hold)
    room_more x false e = search (arith, count-with_hold)

-- a release takes one triple: a count falls where it counts it
pub release-count : (w : WorldState) (r : ℕ) (id : Id) → IsSafe w → 0 < copies w r id → (p : Hold → Bool)
    → tally p (drop_first (is_hold (last_copy w r id)) w.holders) + weight (p (last_copy w r id)) ≡ tally p w.holders
release-count w r id safe have p = count-drop p (is_hold (last_copy w r id)) (p (last_copy w r id)) w.holders
    (search arith)
    (search arith)

pub release-safe : (w : WorldState) (r : ℕ) (id : Id) → IsSafe w → 0 < copies w r id → IsSafe (after w (Release r id))
release-safe w r id safe have = record {
  wide = safe.wide;
  held = search (arith, count-drop-le);
  numbered = λ q i k. numbered_less q i k (is_copy q i (last_copy w r id)) refl;
  room = search (arith, count-drop-le);
  slots = search arith;
  once = safe.once;
  below = safe.below;
}
  where
    numbered_less : (q : ℕ) (i : Id) (k : ℕ) (b : Bool) → is_copy q i (last_copy w r id) ≡ b
        → tally (is_hold (hold_of q i k)) (drop_first (is_hold (last_copy w r id)) w.holders)
        ≡ weight (nat_lt 0 k && nat_le k (tally (is_copy q i) (drop_first (is_hold (last_copy w r id)) w.holders)))
    numbered_less q i k true e = let x = same_of_copy q i (last_copy w r id) e in
        let c = release-count w r id safe have (is_copy q i) in
        let h = release-count w r id safe have (is_hold (hold_of q i k)) in
        let same : copies w r id ≡ copies w q i = (λ j. copies w (x.0 j) (x.1 j)) in
        let one : weight (is_copy q i (last_copy w r id)) ≡ 1 = ap weight e in
        let here : weight (is_hold (hold_of q i k) (last_copy w r id)) ≡ weight (copies w q i == k) =
        (λ j. weight (e j && (same j == k))) in
        let fewer : copies w q i - 1 ≡ tally (is_copy q i) (drop_first (is_hold (last_copy w r id)) w.holders) =
        omega arith in
        let some_left : 0 < copies w q i = omega arith in
        search arith
    numbered_less q i k false e = let c = release-count w r id safe have (is_copy q i) in
        let h = release-count w r id safe have (is_hold (hold_of q i k)) in
        let zero : weight (is_copy q i (last_copy w r id)) ≡ 0 = ap weight e in
        let none : weight (is_hold (hold_of q i k) (last_copy w r id)) ≡ 0 = search arith
        in
        let still : tally (is_copy q i) (drop_first (is_hold (last_copy w r id)) w.holders) ≡ copies w q i =
        omega arith in
        let times_still : tally (is_hold (hold_of q i k)) (drop_first (is_hold (last_copy w r id)) w.holders)
        ≡ times w (hold_of q i k) = omega arith in
        search arith
