use Rattle.std.proofs.Common.{arith, ◌≡◌, ◌⊎◌, inl, inr, ◌∙◌, ◌==◌, ◌&&◌, List, ℕ, false, true, Bool, refl, sym}
use Rattle.std.specs.Cmp.Lexicographic.{pointwise, pointwise_decides}
use Rattle.std.specs.Cmp.{unsigned_Decides}
use Rattle.std.proofs.lemmas.Bool.{and_parts, cases_Bool}
use Rattle.std.proofs.lemmas.Bool.Decides.{nat_tests}
use Rattle.ob_manager.specs.declared.call.CallOf.TheVariants as calls
use Rattle.ob_manager.specs.Calls.{Call}
use Rattle.ob_manager.specs.Makings.{Making}
use Rattle.ob_manager.specs.contracts.making.Making as making
use Rattle.ob_manager.specs.contracts.making.Text as text
use Rattle.ob_manager.specs.contracts.waiting.HandleList as handles
use Rattle.ob_manager.specs.contracts.making.MakingPartialEq.TheImpl as of_making
use Rattle.ob_manager.specs.contracts.making.TextPartialEq.TheImpl as of_text
use Rattle.ob_manager.specs.contracts.waiting.HandleListPartialEq.TheImpl as of_handles
use Rattle.ob_manager.specs.contracts.call.CallOfPartialEq.TheImpl.{ghosts}
use Rattle.ob_manager.proofs.call.Call.is_same.Goals as goal

abbrev equal : Call → Call → Bool
equal = (ghosts making.the_row text.the_row handles.the_row of_making.ghosts of_making.dict of_text.ghosts of_text.dict
    of_handles.ghosts of_handles.dict).eq

not_true : false ≡ true → ⊥
not_true e = cc

text_is : (a b : List ℕ) → (pointwise ◌==◌ a b ≡ false) ⊎ (a ≡ b)
text_is a b = elim (cases_Bool (pointwise ◌==◌ a b)) [
  | inl is ↦ inr ((pointwise_decides unsigned_Decides a b).0 is)
  | inr is ↦ inl is
]

text_itself : (a : List ℕ) → pointwise ◌==◌ a a ≡ true
text_itself a = (pointwise_decides unsigned_Decides a a).1 refl

making_is : (a b : Making) → (of_making.ghosts).eq a b ≡ true → a ≡ b
making_is a b e = grind (arith, nat_tests, text_is)

apart : (before behind : Bool) (a b : Making) → (before && ((of_making.ghosts).eq a b && behind)) ≡ true
    → (before ≡ true) × (a ≡ b) × (behind ≡ true)
apart before behind a b e =
    let rest = and_parts before ((of_making.ghosts).eq a b && behind) e in
    let parts = and_parts ((of_making.ghosts).eq a b) behind rest.1 in (rest.0, making_is a b parts.0, parts.1)

same : (call other : Call) → equal call other ≡ true → call ≡ other
same (calls.MakeEvent t a _ _) (calls.MakeEvent t' b _ _) e = grind (arith, nat_tests, apart (t == t') _ a b e)
same (calls.MakeMutex t a _) (calls.MakeMutex t' b _) e = grind (arith, nat_tests, apart (t == t') _ a b e)
same (calls.MakeSemaphore t a _ _) (calls.MakeSemaphore t' b _ _) e = grind (arith, nat_tests, apart (t == t') _ a b e)
same (calls.MakeTimer t a _) (calls.MakeTimer t' b _) e = grind (arith, nat_tests, apart (t == t') _ a b e)
same (calls.MakeHost t a _ _ _) (calls.MakeHost t' b _ _ _) e = grind (arith, nat_tests, apart (t == t') _ a b e)
same (calls.OpenNamed _ _ _ _ a) (calls.OpenNamed _ _ _ _ b) e = grind (arith, nat_tests, text_is a b)
same (calls.WaitFor _ _ _ a) (calls.WaitFor _ _ _ b) e = grind (arith, nat_tests, text_is a b)
same (calls.Spawn _) (calls.Spawn _) e = grind (arith, nat_tests)
same (calls.Child _ _) (calls.Child _ _) e = grind (arith, nat_tests)
same (calls.StartThread _) (calls.StartThread _) e = grind (arith, nat_tests)
same (calls.Duplicate _ _ _ _ _ _ _) (calls.Duplicate _ _ _ _ _ _ _) e = grind (arith, nat_tests)
same (calls.CloseHandle _ _) (calls.CloseHandle _ _) e = grind (arith, nat_tests)
same (calls.GetFlags _ _) (calls.GetFlags _ _) e = grind (arith, nat_tests)
same (calls.SetFlags _ _ _ _) (calls.SetFlags _ _ _ _) e = grind (arith, nat_tests)
same (calls.SetEvent _ _) (calls.SetEvent _ _) e = grind (arith, nat_tests)
same (calls.ResetEvent _ _) (calls.ResetEvent _ _) e = grind (arith, nat_tests)
same (calls.PulseEvent _ _) (calls.PulseEvent _ _) e = grind (arith, nat_tests)
same (calls.ReleaseSemaphore _ _ _) (calls.ReleaseSemaphore _ _ _) e = grind (arith, nat_tests)
same (calls.ReleaseMutex _ _) (calls.ReleaseMutex _ _) e = grind (arith, nat_tests)
same (calls.SignalHost _ _) (calls.SignalHost _ _) e = grind (arith, nat_tests)
same (calls.SetTimer _ _ _) (calls.SetTimer _ _ _) e = grind (arith, nat_tests)
same (calls.SetPeriodicTimer _ _ _ _) (calls.SetPeriodicTimer _ _ _ _) e = grind (arith, nat_tests)
same (calls.CancelTimer _ _) (calls.CancelTimer _ _) e = grind (arith, nat_tests)
same (calls.Tick _) (calls.Tick _) e = grind (arith, nat_tests)
same (calls.SignalAndWait _ _ _ _) (calls.SignalAndWait _ _ _ _) e = grind (arith, nat_tests)
same (calls.Sleep _ _) (calls.Sleep _ _) e = grind (arith, nat_tests)
same (calls.WaitResult _) (calls.WaitResult _) e = grind (arith, nat_tests)
same (calls.Expire _) (calls.Expire _) e = grind (arith, nat_tests)
same (calls.Alert _) (calls.Alert _) e = grind (arith, nat_tests)
same (calls.EndThread _) (calls.EndThread _) e = grind (arith, nat_tests)
same (calls.Exit _) (calls.Exit _) e = grind (arith, nat_tests)
same (calls.Reap _) (calls.Reap _) e = grind (arith, nat_tests)
same (calls.Counts _) (calls.Counts _) e = grind (arith, nat_tests)
same call other e = absurd (not_true e)

itself : (call : Call) → equal call call ≡ true
itself (calls.Spawn session) = grind (arith, nat_tests)
itself call = grind (arith, nat_tests, text_itself)

pub returns : goal.returns
returns c = (
  λ is. same _ _ (sym c.eq.ensures ∙ is),
  λ is. c.eq.ensures ∙ rw (← is) (itself c.args.self.now),
)
