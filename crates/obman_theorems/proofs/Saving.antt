-- A state has one savestate, and managers of one state answer alike.
use Rattle.std.proofs.Common.{arith, ◌≡◌, ◌∙◌, ℕ, List, [], ◌∷◌, ◌++◌, Ok, None, false, ap, map, refl, sym}
use Rattle.std.proofs.Math.ListN.{get_or-map}
use Rattle.std.specs.Prelude.{slice_index_or}
use Rattle.std.specs.List.{range_with_len}
use Rattle.std.specs.Int.{w64, to_le_bytes}
use Rattle.ob_codec.specs.Sealing.{sealed}
use Rattle.pin_core.specs.declared.shape.Shape.{Shape}
use Rattle.pin_core.specs.Worlds.{opening_slot, slot_of}
use Rattle.ob_tables.specs.Spelling.{tables_text}
use Rattle.ob_waits.specs.Spelling.{waits_text}
use Rattle.ob_store.specs.Consistent.{IsConsistent}
use Rattle.ob_tables.specs.SavedLimits.{limits_text}
use Rattle.ob_store.specs.SavedObjects.{object_saved, slots_saved}
use Rattle.ob_tables.specs.SavedProcesses.{processes_text}
use Rattle.ob_store.specs.SavedSlots.{rows_text}
use Rattle.ob_store.specs.SavedStore.{begun_again, objects_in}
use Rattle.ob_store.specs.State.{State, Whole, generation_of}
use Rattle.ob_manager.specs.Savestates.{load, mark, saved}
use Rattle.ob_manager.specs.declared.reply.Reply.{Reply}
use Rattle.ob_manager.proofs.AlikeLaws.{answers_alike}
use Rattle.ob_shared.specs.Journal.{Replays}
use Rattle.ob_shared.specs.declared.book.Entry.{Entry}
use Rattle.obman_theorems.specs.Theorems.{AreAlike, AreAskedAlike, IsSaved}

-- what is saved of the slots is so of the state: a slot's generation is the state's too
slots_alike : (v w : Whole) → IsConsistent v → IsConsistent w → v.state ≡ w.state
    → slots_saved (objects_in v) ≡ slots_saved (objects_in w)
slots_alike v w kept also same = λ i. map (λ k. record {
  generation = ages k i;
  retired = slice_index_or (same i).retired k false;
  object = object_saved (slice_index_or (same i).objects k None) (slice_index_or (same i).bodies k None);
}) (range_with_len 0 (many i))
  where
    age : (x : Whole) → IsConsistent x → (k : ℕ)
        → (slot_of x.keeper.slots k).generation ≡ slice_index_or x.state.generations k 1
    age x h k = sym (get_or-map generation_of x.keeper.slots k opening_slot)
        ∙ ap (λ (gs : List ℕ). slice_index_or gs k 1) (sym h.generations)

    ages : (k : ℕ) → (slot_of v.keeper.slots k).generation ≡ (slot_of w.keeper.slots k).generation
    ages k = age v kept k ∙ ap (λ (s : State). slice_index_or s.generations k 1) same ∙ sym (age w also k)

    many : v.keeper.shape.slots ≡ w.keeper.shape.slots
    many = ap (λ (k : Shape). k.slots) kept.shape ∙ ap (λ (s : State). s.limits.slots) same
        ∙ sym (ap (λ (k : Shape). k.slots) also.shape)

pub one_savestate : (v w : Whole) → IsConsistent v → IsConsistent w → v.state ≡ w.state → saved v ≡ saved w
one_savestate v w kept also same = λ i. sealed (to_le_bytes w64 mark ++ (limits_text (same i).limits
    ++ (to_le_bytes w64 (same i).clock
    ++ (processes_text (record { processes = (same i).processes; threads = (same i).threads })
    ++ (tables_text (same i).tables ++ (waits_text (same i).waits
    ++ rows_text (same i).limits.reuse (slots_alike v w kept also same i)))))))

abbrev replies : List Entry → List Reply
replies entries = map (λ (entry : Entry). entry.reply) entries

lists_alike : (xs ys : List Entry) (a b v w : Whole) → a.state ≡ b.state → Replays a xs v → Replays b ys w
    → AreAskedAlike xs ys → (replies xs ≡ replies ys) × (v.state ≡ w.state)
lists_alike [] [] a b v w same one other asked = search arith
lists_alike (x ∷ xs) (y ∷ ys) a b v w same one other asked =
    let here = answers_alike a b one.0 other.0 x.call x.reply y.reply same one.1 (search arith) asked.1 asked.2 asked.3 in
    let rest = lists_alike xs ys one.0 other.0 v w here.1 one.3 other.3 asked.4 in
    search arith
lists_alike [] (y ∷ ys) a b v w same one other asked = absurd asked
lists_alike (x ∷ xs) [] a b v w same one other asked = absurd asked

pub alike : (a b : Whole) → a.state ≡ b.state → AreAlike a b
alike a b same = search (arith, lists_alike)

pub is_saved : (w : Whole) (bytes : List ℕ) → IsConsistent w → bytes ≡ saved w → load bytes ≡ Ok (begun_again w)
    → IsSaved w bytes
is_saved w bytes kept is loads = record {
  one = λ v also same. search (arith, one_savestate v w);
  loads = (begun_again w, loads, alike w (begun_again w) refl);
}
