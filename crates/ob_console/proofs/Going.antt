-- Runs go on.
use Rattle.ob_console.proofs.Cited.{◌≡◌, ℕ, ◌+◌, ◌<◌, List, [], ◌∷◌, ◌++◌, length, refl, subst, arith, Command, Asks, Pin, Unpin, ShowCard, command_of, Point, Prints, Run}
use Rattle.ob_manager.proofs.TableLaws.{step_shape}
use Rattle.ob_console.proofs.Answerable.{can_answer}
use Rattle.ob_console.proofs.Pinnable.{can_pin}

-- one run after another
pub run-append : (s : Point) (n : ℕ) (lines : List (List ℕ)) (outputs : List (List ℕ)) (t : Point)
    (later : List (List ℕ)) (more : List (List ℕ)) (u : Point) → Run s n lines outputs t
    → Run t (n + length lines) later more u → Run s n (lines ++ later) (outputs ++ more) u
run-append s n (line ∷ lines) (output ∷ outputs) t later more u first second =
    let on = subst (λ (k : ℕ). Run t k later more u) (omega arith) second in
    (first.0, first.1, run-append first.0 (n + 1) lines outputs t later more u first.2 on)
run-append s n lines outputs t later more u first second = search arith

-- no line changes the shape of the slots, and no run does
prints_shape : (s : Point) (n : ℕ) (act : Command) (output : List ℕ) (t : Point) → Prints s n act output t
    → t.whole.keeper.shape ≡ s.whole.keeper.shape
prints_shape s n act output t prints = grind (arith, step_shape)

pub run_shape : (s : Point) (n : ℕ) (lines : List (List ℕ)) (outputs : List (List ℕ)) (t : Point)
    → Run s n lines outputs t → t.whole.keeper.shape ≡ s.whole.keeper.shape
run_shape s n (line ∷ lines) (output ∷ outputs) t run =
    search (arith, prints_shape, run_shape run.0 (n + 1) lines outputs t run.2)
run_shape s n lines outputs t run = search arith

-- no line changes which lines are read
pub prints_more : (s : Point) (n : ℕ) (act : Command) (output : List ℕ) (t : Point) → Prints s n act output t
    → t.more ≡ s.more
prints_more s n act output t prints = grind arith

-- what an act may print
prints_some : (s : Point) (n : ℕ) (act : Command) → 0 < s.whole.keeper.shape.max_pins
    → (output : List ℕ) × (next : Point) × Prints s n act output next
prints_some s n (Asks call) pins =
    let answer = can_answer s.whole call pins in
    (_, record s { whole = answer.next }, (answer.reply, answer.step, answer.looks, answer.spares s.held, refl, refl, refl))
prints_some s n (Pin id) pins =
    let pin = can_pin s.whole.state s.held s.looks id in
    (_, record s { looks = pin.1 }, (pin.0, pin.2, refl, refl, refl))
prints_some s n (Unpin id) pins = (_, record s { held = _ }, (_, (refl, refl), refl, refl, refl))
prints_some s n (ShowCard id) pins = (_, s, (refl, refl, refl, refl))
prints_some s n act pins = (_, s, (refl, refl))

-- lines that come may always be answered
pub runs_some : (s : Point) (n : ℕ) (lines : List (List ℕ)) → 0 < s.whole.keeper.shape.max_pins
    → (outputs : List (List ℕ)) × (last : Point) × Run s n lines outputs last
runs_some s n [] pins = ([], s, refl)
runs_some s n (line ∷ lines) pins =
    let first = prints_some s n (command_of s.more line) pins in
    let later = runs_some first.1 (n + 1) lines (search (arith, prints_shape, first.2)) in
    (first.0 ∷ later.0, later.1, (first.1, first.2, later.2))
