-- A member's answers grow at their end.
use Rattle.std.proofs.Common.{◌≡◌, ℕ, ◌+◌, ◌<◌, List, [], ◌∷◌, ◌++◌, length, take, get_or, refl, inl, inr, arith}
use Rattle.std.proofs.lemmas.Bool.Decides.{nat_tests}
use Rattle.std.proofs.lemmas.List.{take_more}
use Rattle.std.proofs.Math.Seq.{take-length}
use Rattle.ob_codec.proofs.AtPlace.{at_place}
use Rattle.ob_shared.specs.declared.act.Act.{Act}
use Rattle.ob_shared.specs.declared.act.Seen.{Seen}
use Rattle.ob_shared.specs.declared.act.Seen.TheVariants.{Stopped}
use Rattle.ob_shared.specs.declared.gate.Pass.TheVariants.{Go, Stop}
use Rattle.ob_shared.specs.Members.{ActAnswered, AreTold, Between, Goes, IsRun, Passes, GateTold}

goes_more : (acts : List Act) (xs : List Seen) (a : Act) (x : Seen) (s t u : Between) → Goes acts xs s t
    → ActAnswered a x t u → Goes (acts ++ a ∷ []) (xs ++ x ∷ []) s u
goes_more [] [] a x s t u go new = (u, rw go at new, refl)
goes_more (b ∷ acts) (y ∷ xs) a x s t u go new = (go.0, go.1, goes_more acts xs a x go.0 t u go.2 new)
goes_more acts xs a x s t u go new = absurd go

-- one act more of the script
pub goes_on : (script : List Act) (i : ℕ) (a : Act) (xs : List Seen) (x : Seen) (s t u : Between) → i < length script
    → a ≡ get_or script i a → Goes (take i script) xs s t → ActAnswered a x t u
    → Goes (take (i + 1) script) (xs ++ x ∷ []) s u
goes_on script i a xs x s t u inside at go new =
    rw (take_more script i a inside, ← at) (goes_more (take i script) xs a x s t u go new)

pub told_none : (told : GateTold) → AreTold told []
told_none told = record { at = λ place d inside. absurd (omega (arith, inside)) }

-- the gate was told of one answer more
pub told_more : (told : GateTold) (xs : List Seen) (x : Seen) (i : ℕ) → i ≡ length xs → AreTold told xs → told i x
    → AreTold told (xs ++ x ∷ [])
told_more told xs x i ends before now =
    record { at = λ place d inside. grind (arith, nat_tests, at_place, before.at place d) }

module _ (may : Passes) (told : GateTold) (script : List Act) (i : ℕ) (xs : List Seen) (s t : Between) where
  pub run_stopped : i < length script → ((k : ℕ) → k < i → may k Go) → may i Stop → AreTold told xs
      → Goes (take i script) xs s t → IsRun may told script (xs ++ Stopped ∷ []) s t
  run_stopped within passed stopped tells goes = inr (record {
    at = i;
    answers = xs;
    within = within;
    passed = passed;
    stopped = stopped;
    goes = goes;
    tells = tells;
    ends = refl;
  })

  pub run_whole : i ≡ length script → ((k : ℕ) → k < i → may k Go) → AreTold told xs → Goes (take i script) xs s t
      → IsRun may told script xs s t
  run_whole ends passed tells goes = inl (record {
    passed = λ k inside. passed k (rw ends inside);
    goes = rw (ends, take-length script) at goes;
    tells = tells;
  })

-- what a run of acts needs, at each act and at its end
pub ruleset run_laws = (goes_on, run_stopped, run_whole, told_none)
