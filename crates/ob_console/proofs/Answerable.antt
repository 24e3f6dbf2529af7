-- Every call may be answered, in any state whose slots may be pinned at all, and whatever a reader holds.
use Rattle.ob_console.proofs.Cited.{◌≡◌, ◌⊎◌, inl, inr, ℕ, ◌<◌, List, ◌∷◌, true, None, Result, Ok, Err, refl, arith, nat_le, slice_index_or, cases_Bool, Id, encoded, slot_of, Reclaim, look, Whole, settled, Reply, Reaped, Refused, Outcome, ◌>>=◌, refuse_if, IfReap, if_ended, reap, Step, outcome_of, takes_memory, KeeperAfter, Looks, Spares}
use Rattle.pin_core.specs.declared.word.Word.{Word}
use Rattle.pin_words.specs.declared.pin_keeper.Reclaim.TheVariants as reclaim
use Rattle.pin_words.specs.Keepers.{KeeperState, ReclaimsFound, with_looks}
use Rattle.ob_rights.specs.declared.fault.Fault.{Fault}
use Rattle.ob_rights.specs.declared.fault.Fault.TheVariants as fault
use Rattle.ob_store.specs.Moves.{after_reclaim}
use Rattle.ob_manager.specs.Calls.{Call}
use Rattle.ob_manager.specs.declared.call.CallOf.TheVariants as calls

-- an answer to a call, by which no slot is taken back where something is held, and a slot is held by its pins
pub record CanAnswer (w : Whole) (call : Call) : Type 0 where
  pub reply : Reply
  pub next : Whole
  pub step : Step w call reply next
  pub looks : Looks w.keeper call reply next.keeper
  pub spares : (held : List Id) → Spares held call reply

-- the call asks for no slot
abbrev AsksNoSlot : Call → Type 1
AsksNoSlot call = (P : ℕ → Type 0) → IfReap call P

-- a reply of this outcome leaves the keeper as it is
abbrev Rests : Result Outcome Fault → KeeperState → Type 0
Rests (Ok outcome) k = KeeperAfter outcome.reply outcome.state k k
Rests (Err fault) k = Unit {0}

-- a call that asks for no slot takes memory, or its reply leaves the keeper as it is
rests : (w : Whole) (call : Call) → AsksNoSlot call
    → (takes_memory w.state call ≡ true) ⊎ Rests (outcome_of w.state call (Refused fault.Memory)) w.keeper
rests w (calls.Reap slot) none = absurd (none (λ slot. ⊥))
rests w call _ = search (arith, cases_Bool (takes_memory w.state call))

replied : (w : Whole) (call : Call) (reply : Reply) (next : Whole) → AsksNoSlot call → Step w call reply next → CanAnswer w call
replied w call reply next none step =
    record { reply = reply; next = next; step = step; looks = none _; spares = λ held. none _ }

answered : (w : Whole) (call : Call) (outcome : Result Outcome Fault) → AsksNoSlot call
    → ((reply : Reply) → outcome_of w.state call reply ≡ outcome)
    → (takes_memory w.state call ≡ true) ⊎ Rests outcome w.keeper → CanAnswer w call
answered w call (Err fault) none is rests = replied w call (Refused fault) w none (search arith)
answered w call (Ok outcome) none is (inl takes) = replied w call (Refused fault.Memory) w none (search arith)
answered w call (Ok outcome) none is (inr rests) =
    replied w call outcome.reply (record w { state = outcome.state }) none (search (arith, is outcome.reply))

-- the word of the slot, with one pin
abbrev pinned_word : KeeperState → ℕ → Word
pinned_word k slot =
    record { generation = (slot_of k.slots slot).generation; phase = (slot_of k.slots slot).phase; pins = 1 }

-- the keeper finds that
abbrev found_pinned : KeeperState → ℕ → KeeperState
found_pinned k slot = with_looks k (look slot (encoded (pinned_word k slot)) ∷ k.looks)

finds_pinned : (k : KeeperState) (slot : ℕ) → 0 < k.shape.max_pins → ReclaimsFound k slot (reclaim.Held 1) (found_pinned k slot)
finds_pinned k slot pins = (encoded (pinned_word k slot), search arith, search arith, search arith)

-- a slot that is reaped may be pinned
held_back : (w : Whole) (slot : ℕ) (ended : Result Id Fault) → 0 < w.keeper.shape.max_pins
    → ((outcome : Reclaim) → reap w.state slot outcome ≡ (ended >>= (λ id. Ok (record {
      reply = Reaped id outcome;
      state = settled (after_reclaim w.state slot outcome);
    })))) → CanAnswer w (calls.Reap slot)
held_back w slot (Err fault) pins is =
    record { reply = Refused fault; next = w; step = search (arith, is reclaim.Freed); looks = tt; spares = λ held. tt }
held_back w slot (Ok id) pins is =
    let next : Whole = record { state = settled w.state; keeper = found_pinned w.keeper id.slot } in
    let looks = finds_pinned w.keeper id.slot pins in
    record { reply = Reaped id (reclaim.Held 1); next = next; step = search arith; looks = looks; spares = λ held. tt }

pub can_answer : (w : Whole) (call : Call) → 0 < w.keeper.shape.max_pins → CanAnswer w call
can_answer w (calls.Reap slot) pins =
    held_back w slot (refuse_if (nat_le w.state.limits.slots slot) fault.Parameter
    >>= (λ _. if_ended (slice_index_or w.state.objects slot None) (slice_index_or w.state.bodies slot None))) pins
    (λ outcome. grind arith)
can_answer w call pins =
    answered w call (outcome_of w.state call (Refused fault.Memory)) (λ P. tt) (λ reply. refl) (rests w call (λ P. tt))
