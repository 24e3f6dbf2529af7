-- A run of a journal's script, with the lines that `--more` adds, prints what its entries were answered.
use Rattle.ob_console.proofs.Cited.{◌≡◌, ◌⊎◌, inl, inr, ℕ, suc, ◌+◌, ◌-◌, ◌≤◌, arith, refl, ap, sym, subst, ◌∙◌, List, [], ◌∷◌, ◌++◌, length, take, length-take, All, Bool, true, false, ◌==◌, Option, Some, None, append-nil, true≢false, and_right, cases_Bool, not-true, or_parts, ◌≢◌, slice_index, ◌||◌, concat, flat_map-append, All-tail, Reclaim, IsConsistent, State, Whole, opening, settled, Reply, Refused, Outcome, IfReap, Step, final, is_lack, outcome_of, reclaim_in, Entry, printed, printed_reply, Nothing, command_of, command_of_text, AnswersAll, AnswersTo, Point, Prints, Run, last_line, with_ends, asking, comment, is_held, is_held_slot, is_repeatable, AnswersOtherwise, FitsEntry, Retells, RetellsTo, answer, is_line, script_of}
use Rattle.std.proofs.lemmas.Bool.Decides.{nat_tests}
use Rattle.ob_rights.specs.declared.fault.Fault.TheVariants as fault
use Rattle.ob_manager.specs.Calls.{Call}
use Rattle.ob_manager.specs.declared.call.CallOf.TheVariants as calls
use Rattle.ob_manager.proofs.StepLaws.{step_next}
use Rattle.ob_shared.specs.Journal.{IsHistory, IsHistoryFrom, Replays}
use Rattle.ob_script.specs.Writing.{line_of}
use Rattle.ob_script.proofs.Alike.{answered_alike}
use Rattle.ob_script.proofs.Lineless.{lineless_is_refused}
use Rattle.ob_script.proofs.ReadBack.{line_is_read}
use Rattle.ob_console.proofs.Ends.{lines_in, lines_within, one_cut}
use Rattle.ob_console.proofs.Going.{prints_more}

-- a comment is nothing
marked : (more : Bool) (rest : List ℕ) → length rest ≤ 4095 → command_of_text more (35 ∷ rest) ≡ Nothing
marked more rest short = grind (arith, nat_tests)

comment_is_nothing : (more : Bool) (text : List ℕ) → command_of more (comment text) ≡ Nothing
comment_is_nothing more text =
    let shorter : length (comment text) - 1 ≡ suc (length (take 4094 text)) = omega arith in
    elim (cases_Bool (slice_index (comment text) (length (comment text) - 1) == 13)) [
      | inl is ↦ rw (is, shorter) (marked more (take (length (take 4094 text)) (32 ∷ take 4094 text))
          (omega (arith, length-take {A = ℕ})))
      | inr is ↦ rw is (marked more (32 ∷ take 4094 text) (omega (arith, length-take 4094 text)))
    ]

-- what a call comes to depends on its answer only where a slot is taken back
same_outcome : (s : State) (call : Call) (a b : Reply) → IfReap call (λ slot. reclaim_in a ≡ reclaim_in b)
    → outcome_of s call a ≡ outcome_of s call b
same_outcome s call a b same = grind arith

-- memory was wanting, or the answer is what the call comes to
told : (w v : Whole) (call : Call) (reply : Reply) → Step w call reply v
    → (reply ≡ Refused fault.Memory) ⊎ (final w.state (outcome_of w.state call reply) ≡ record {
      reply = reply;
      state = v.state;
    })
told w v call reply step = grind arith

-- what cannot be made again left the state
held_next : (s : State) (call : Call) (reply : Reply) → settled s ≡ s → is_held call reply ≡ true
    → (final s (outcome_of s call reply)).state ≡ s
held_next s call reply still held = grind arith

unrepeatable : (w v : Whole) (call : Call) (reply : Reply) → settled w.state ≡ w.state
    → is_repeatable call reply ≡ false → Step w call reply v → v.state ≡ w.state
unrepeatable w v call reply still never step = grind (arith, step_next w v call reply step, held_next)

-- what becomes of a slot is the same, or it isn't
slots : (found due : Reclaim) → is_held_slot due ≡ false → (found ≡ due) ⊎ (found ≢ due)
slots found due free = grind arith

decide : (call : Call) (due found : Reply) → is_held call due ≡ false → IfReap call (λ slot. reclaim_in found ≡ reclaim_in due)
    ⊎ ((slot : ℕ) × (call ≡ calls.Reap slot) × (reclaim_in found ≢ reclaim_in due))
decide (calls.Reap slot) due found free = elim (slots (reclaim_in found) (reclaim_in due) free) [
  | inl same ↦ inl same
  | inr differs ↦ inr (slot, refl, differs)
]
decide call due found free = inl tt

module _ (w u : Whole) (p q : Point) (number : ℕ) (entry : Entry) (output : List ℕ) (kept : IsConsistent w)
    (step : Step w entry.call entry.reply u) (fits : FitsEntry entry)
    (level : p.whole.state ≡ w.state) (more : p.more ≡ true) where
  -- the entry's first line is answered as the entry, and leads to the state that the entry led to; or it isn't
  abbrev First : Type 0
  First = ((output ≡ answer entry) × (q.whole.state ≡ u.state)) ⊎ AnswersOtherwise entry output

  silent : u.state ≡ w.state → is_line entry ≡ false → (output ≡ []) × (q ≡ p) → First
  silent same none prints = search arith

  answered : (found : Reply) → output ≡ printed found → is_line entry ≡ true
      → is_repeatable entry.call entry.reply ≡ true → Step p.whole entry.call found q.whole → First
  answered found prints line again asked =
      let neither = or_parts (is_lack entry.reply) (is_held entry.call entry.reply)
      (not-true (is_lack entry.reply || is_held entry.call entry.reply) again) in
      elim (told p.whole q.whole entry.call found asked) [
        | inl refused ↦ inr (line, inl (prints ∙ ap printed refused))
        | inr there ↦ elim (told w u entry.call entry.reply step) [
          | inl refused ↦ absurd (true≢false (sym (ap is_lack refused) ∙ neither.0))
          | inr here ↦ elim (decide entry.call entry.reply found neither.1) [
            | inl same ↦
                let now = rw (level, same_outcome w.state entry.call found entry.reply same, here) at there in
                let is = sym (ap (λ (o : Outcome). o.reply) now) in
                inl (rw line (prints ∙ ap printed is), sym (ap (λ (o : Outcome). o.state) now))
            | inr differs ↦ inr (line, inr (differs.0, differs.1, found, prints, differs.2))
          ]
        ]
      ]

  first : Prints p number (command_of p.more (asking (is_repeatable entry.call entry.reply) (line_of entry.call)))
      output q → First
  first prints = by (line_of entry.call) (is_repeatable entry.call entry.reply) refl refl prints
    where
      by : (line : Option (List ℕ)) (again : Bool) → line_of entry.call ≡ line
          → is_repeatable entry.call entry.reply ≡ again
          → Prints p number (command_of p.more (asking again line)) output q → First
      by None again none is prints =
          silent (ap (λ (x : Whole). x.state) (lineless_is_refused w u entry.call entry.reply fits none step).0)
          (rw none (and_right (is_repeatable entry.call entry.reply) false refl)) prints
      by (Some line) false some is prints = silent (unrepeatable w u entry.call entry.reply kept.still is step) (rw is)
          (rw (comment_is_nothing p.more line) at prints)
      by (Some line) true some is prints =
          let read = rw some at (line_is_read entry.call fits) in let asks = rw read at (rw more at prints) in
          answered asks.0 asks.5 (rw (is, some)) is ((answered_alike p.whole q.whole entry.call asks.0).0 asks.1)

retold : (entries : List Entry) (w v : Whole) (p q : Point) (number : ℕ) (outputs : List (List ℕ)) → IsConsistent w
    → Replays w entries v → All FitsEntry entries → p.whole.state ≡ w.state → p.more ≡ true
    → Run p number (lines_in entries) outputs q → RetellsTo entries (concat outputs) (q.whole.state ≡ v.state)
retold [] w v p q number [] kept replays fits level more run = (refl, rw (run, ← replays) level)
retold (entry ∷ entries) w v p q number (output ∷ []) kept replays fits level more run = absurd run.2
retold (entry ∷ entries) w v p q number (output ∷ silence ∷ outputs) kept replays fits level more run =
    let second = rw (comment_is_nothing run.0.more (printed_reply entry.reply)) at run.2.1 in
    elim (first w replays.0 p run.0 number entry output kept replays.1 (fits 0 entry (omega arith)) level more run.1) [
      | inl same ↦
          let behind = retold entries replays.0 v run.2.0 q (number + 1 + 1) outputs replays.2 replays.3
          (All-tail FitsEntry entry entries fits) (rw second.1 same.1)
          (rw second.1 (prints_more p number _ output run.0 run.1 ∙ more)) run.2.2 in
          (output, concat outputs, rw second.0, inl (same.0, behind))
      | inr departs ↦ (output, silence ++ concat outputs, refl, inr departs)
    ]
retold entries w v p q number outputs kept replays fits level more run = absurd run

-- what is printed, whatever is so behind it
told_over : (Behind : Type 0) (entries : List Entry) (output : List ℕ) → RetellsTo entries output Behind → Retells entries output
told_over Behind [] output h = h.0
told_over Behind (entry ∷ entries) output h = grind (arith, told_over Behind entries h.1)

-- the script's text is its lines
text_is : (journal : List Entry) → script_of journal ≡ with_ends (lines_in journal)
text_is [] = refl
text_is (entry ∷ entries) = search (arith, flat_map-append, text_is entries)

-- a run from the state with which a journal began comes to the journal's state
pub history_rerun : (from : State) (journal : List Entry) (w : Whole) (output : List ℕ) (p q : Point)
    → IsHistoryFrom from journal w → All FitsEntry journal → p.whole.state ≡ from → p.more ≡ true
    → AnswersTo p (script_of journal) output q → RetellsTo journal output (q.whole.state ≡ w.state)
history_rerun from journal w output p q history fits level more whole =
    let run = whole.answers in
    let cut = one_cut (lines_in journal) whole.lines whole.rest (lines_within journal) whole.splits.each
    whole.splits.open_ended (sym (text_is journal) ∙ whole.splits.whole) in
    let lines : whole.lines ++ last_line whole.rest ≡ lines_in journal = rw (cut.1, append-nil) cut.0 in
    rw run.whole (retold journal history.first w p q 1 run.outputs history.kept history.replays fits
    (level ∙ sym history.opens) more (subst (λ lines. Run p 1 lines run.outputs q) lines run.run))

pub history_retold : (journal : List Entry) (w : Whole) (output : List ℕ) → IsHistory journal w → All FitsEntry journal
    → AnswersAll true w.state.limits (script_of journal) output → Retells journal output
history_retold journal w output history fits answers =
    told_over _ journal output (history_rerun (opening w.state.limits) journal w output answers.0 answers.1 history fits
    answers.2.state answers.2.lines answers.3)
