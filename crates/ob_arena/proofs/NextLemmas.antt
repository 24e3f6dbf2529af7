-- The next slot with a body, by the slots that are in use.
use Rattle.ob_arena.proofs.Cited.{◌≡◌, ◌∙◌, ap, ℕ, ◌+◌, ◌<◌, ◌≤◌, List, length, map, get_or, Option, Some, None, Bool, true, false, arith, ⊎_elim, get_or_default, get_or_past, Vacant, is_occupied, is_in_use}
use Rattle.std.proofs.Math.ListN.{get_or-map}
use Rattle.std.proofs.lemmas.Bool.{cases_lt}
use Rattle.least.specs.From.{IsAtMost, IsLeastFrom}
use Rattle.least.specs.Taken.{is_taken}
use Rattle.least.proofs.NextLemmas.{none_found}
use Rattle.ob_arena.specs.declared.phase.Phase.{Phase}

module _ (ps : List Phase) (taken : List Bool) (used : taken ≡ map is_in_use ps) where
  taken_at : (k : ℕ) → is_taken taken k ≡ is_in_use (get_or ps k Vacant)
  taken_at k = ap (λ (l : List Bool). get_or l k false) used ∙ get_or-map is_in_use ps k Vacant

  -- a slot that is in use is one of them
  pub taken_within : (k : ℕ) → is_taken taken k ≡ true → k < length ps
  taken_within k is = search (arith, taken_at, get_or_past)

  module _ (at : ℕ) (r : Option ℕ) (is : IsLeastFrom at (is_taken taken) r) where
    -- before the next one that is in use there is no body
    idle : (k : ℕ) → at ≤ k → (IsAtMost r k → ⊥) → is_occupied (get_or ps k Vacant) ≡ false
    idle k above before = search (arith, taken_at)

  module _ (from at slot : ℕ) (above : from ≤ at) (none : (k : ℕ) → from ≤ k → k < at
      → is_occupied (get_or ps k Vacant) ≡ false) (is : IsLeastFrom at (is_taken taken) (Some slot)) where
    before_it : (k : ℕ) → from ≤ k → k < slot → is_occupied (get_or ps k Vacant) ≡ false
    before_it k after lt = ⊎_elim (λ (low : k < at). none k after low)
        (λ (high : at ≤ k). idle at (Some slot) is k high (search arith)) (cases_lt k at)

    phase_is : (p : Phase) → p ≡ get_or ps slot p → is_occupied (get_or ps slot Vacant) ≡ is_occupied p
    phase_is p read = search (arith, taken_within, get_or_default)

    pub body_found : (p : Phase) → p ≡ get_or ps slot p → is_occupied p ≡ true
        → IsLeastFrom from (λ k. is_occupied (get_or ps k Vacant)) (Some slot)
    body_found p read occupied = search (arith, before_it, phase_is)

    pub none_up_to : (p : Phase) → p ≡ get_or ps slot p → is_occupied p ≡ false → (k : ℕ) → from ≤ k → k < slot + 1
        → is_occupied (get_or ps k Vacant) ≡ false
    none_up_to p read idle_here k after lt = search (arith, before_it, phase_is)

  pub no_body : (from at : ℕ) → ((k : ℕ) → from ≤ k → k < at → is_occupied (get_or ps k Vacant) ≡ false)
      → IsLeastFrom at (is_taken taken) None → IsLeastFrom from (λ k. is_occupied (get_or ps k Vacant)) None
  no_body from at none is = none_found (λ k. is_occupied (get_or ps k Vacant)) from
      (λ k after. ⊎_elim (λ (low : k < at). none k after low)
      (search (arith, idle)) (cases_lt k at))
