-- A run of a script recounts its state.
use Rattle.std.proofs.Common.{arith, Bool, Result, ◌≡◌, ◌∙◌, ℕ, ◌+◌, List, [], ◌∷◌, ◌++◌, ap, refl, subst}
use Rattle.std.specs.Prelude.{OnOk}
use Rattle.ob_tables.specs.declared.limits.Limits.{Limits}
use Rattle.ob_store.specs.State.{State}
use Rattle.ob_manager.specs.Steps.{next}
use Rattle.ob_manager.proofs.StepLaws.{step_next}
use Rattle.ob_script.specs.Commands.{Command, Asks}
use Rattle.ob_script.specs.Grammar.{command_of}
use Rattle.ob_console.specs.declared.script.RunFault.{RunFault}
use Rattle.ob_console.specs.Runs.{AnswersAll, IsEnded, Point, Prints, Run}
use Rattle.ob_console.proofs.Going.{prints_more}
use Rattle.ob_shared.specs.Journal.{replay}
use Rattle.ob_shared.specs.declared.book.Entry.{Entry}
use Rattle.obman_theorems.specs.Theorems.{AreEntered, Enters, IsRun}

-- entries of which this holds, behind which the one state is the other
abbrev Leads : (List Entry → Type 0) → State → State → Type 0
Leads P s t = (es : List Entry) × P es × (t ≡ replay s es)

further : (s t u : State) (es fs : List Entry) → t ≡ replay s es → u ≡ replay t fs → u ≡ replay s (es ++ fs)
further s t u [] fs is then_is = search arith
further s t u (e ∷ es) fs is then_is = further (next s e.call e.reply) t u es fs is then_is

stays : (p q : Point) → q.whole ≡ p.whole → Leads (λ es. es ≡ []) p.whole.state q.whole.state
stays p q is = ([], refl, ap (λ w. w.state) is)

line_leads : (p : Point) (n : ℕ) (act : Command) (output : List ℕ) (q : Point) → Prints p n act output q
    → Leads (Enters act output) p.whole.state q.whole.state
line_leads p n (Asks call) output q h =
    let entry : Entry = record { lane = 0; call = call; reply = h.0 } in
    (entry ∷ [], (entry, refl, refl, h.5), step_next p.whole q.whole call h.0 h.1)
line_leads p n act output q h = search (arith, stays)

run_leads : (more : Bool) (s : Point) (n : ℕ) (lines outputs : List (List ℕ)) (t : Point) → s.more ≡ more
    → Run s n lines outputs t → Leads (AreEntered more lines outputs) s.whole.state t.whole.state
run_leads more s n [] [] t same is = stays s t (ap (λ (x : Point). x.whole) is)
run_leads more s n (line ∷ lines) (output ∷ outputs) t same run =
    let here = line_leads s n (command_of more line) output run.0
    (subst (λ (b : Bool). Prints s n (command_of b line) output run.0) same run.1) in
    let rest = run_leads more run.0 (n + 1) lines outputs t
    (prints_more s n (command_of s.more line) output run.0 run.1 ∙ same) run.2 in (
      here.0 ++ rest.0,
      (here.0, rest.0, refl, here.1, rest.1),
      further s.whole.state run.0.whole.state t.whole.state here.0 rest.0 here.2 rest.2,
    )
run_leads more s n [] (output ∷ outputs) t same run = absurd run
run_leads more s n (line ∷ lines) [] t same run = absurd run

pub runs : (more : Bool) (limits : Limits) (input output : List ℕ) → AnswersAll more limits input output
    → IsRun more limits input output
runs more limits input output answers =
    let leads = run_leads more answers.0 1 _ _ answers.1 answers.2.lines answers.3.answers.run in
    record {
      first = answers.0;
      last = answers.1;
      opens = answers.2;
      answers = answers.3;
      asked = leads.0;
      entered = leads.1;
      state = leads.2 ∙ ap (λ (s : State). replay s leads.0) answers.2.state;
    }

pub ended_runs : (r : Result (Unit {0}) RunFault) (more : Bool) (limits : Limits) (input output : List ℕ)
    → IsEnded r more limits input output → OnOk r (IsRun more limits input output)
ended_runs r more limits input output h = search (arith, runs)
