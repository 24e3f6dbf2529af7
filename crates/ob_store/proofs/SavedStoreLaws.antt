-- A store that is kept is read again as it was written, and what is read of a store was written so.
use Rattle.ob_store.proofs.Cited.{ℕ, ◌+◌, List, None, Option, arith, refl, IsCodec, Entry, Limits, ProcessesKept, ProcessesState, IsPopulated, where_codec, processes_text, as_codec, both_codec, list_codec, option_codec, u32_codec, AreWithin, ListsFit, ProcessesFit, are_numbers, is_of_live, numbers_at, numbers_text, processes_at, w64, to_le_bytes, AllByRecursion, flat_map, bind_ok, Shape, opening_slot, IsBounded, HandleTables, thread_of, WaitList, ids_of, nowhere, Wait, SavedSlot, ObjectsInvariant, IsLive, StoreInvariant, IsSound, ObjectsState, PartsState, whole_of, ◌≡◌, ◌*◌, ◌<◌, ◌≤◌, Bool, true, false, cond, [], ◌∷◌, ◌++◌, length, get_or, map, Some, Ok, append_assoc, sym, ap, ◌∙◌, subst, le-leb, ext_get_or, length-map, objects_at, objects_text, slot_saved, slots_saved, SlotFits, fresh_slot, keeper_slot, slot_text, Whole, generation_of, shape_of, ◌^◌, lt-ltb, u64_codec, Takes, has_at, AreBytes, TablesFit, tables_at, tables_text, WaitsFit, are_below, are_within, is_within, waits_at, waits_text, limits_at, limits_text, begun_over, rows_text, last_wait}
use Rattle.ob_store.proofs.ByPlace.{all_from, all_at, map_at}
use Rattle.ob_store.proofs.PopulatedLaws.{populated_pass}
use Rattle.std.proofs.lemmas.List.{length-append}
use Rattle.ob_tables.specs.SpellingLaws.{tables_again, tables_take}
use Rattle.ob_waits.specs.SpellingLaws.{waits_again, waits_take}
use Rattle.ob_tables.specs.SavedLimitLaws.{limits_codec}
use Rattle.ob_store.specs.SavedStore.{is_moment, least_bytes, lists_at, moment_at, begun_again, slot_bytes, store_at, store_text, tables_for, behind_lists, whole_with}
use Rattle.ob_store.proofs.NamedLaws.{place_counted, there_within}
use Rattle.ob_store.proofs.PlacedLaws.{live_within}
use Rattle.ob_store.proofs.FittingLaws.{saved_at, saved_long}
use Rattle.ob_store.proofs.SavedAgain.{objects_again}
use Rattle.ob_store.proofs.SavedCodecs.{objects_take}
use Rattle.ob_store.proofs.SavedSlotLaws.{slot_generation}
use Rattle.ob_store.proofs.VacatedLaws.{vacated_from, vacated_pass}

numbers_codec : (limit : ℕ) → IsCodec numbers_text (numbers_at limit) (AreWithin limit)
numbers_codec limit = where_codec (list_codec (option_codec u32_codec) (limit + 1)) are_numbers

pub processes_codec : (processes threads : ℕ)
    → IsCodec processes_text (processes_at processes threads) (ProcessesFit processes threads)
processes_codec processes threads = where_codec (as_codec _ _ (λ _. refl) (λ _. refl) (where_codec (both_codec
    (numbers_codec _) (numbers_codec _)) _)) _

pub kept_fits : (limits : Limits) (l : ProcessesState) (tables : List (List (Option Entry)))
    → ProcessesKept limits l tables → IsPopulated l.processes l.threads → ListsFit l
    → ProcessesFit limits.processes limits.threads l
kept_fits limits l tables kept populated fits =
    search (arith, all_from (is_of_live l.processes) l.threads None, populated_pass)

-- six texts, and what stands behind them
behind_six : (a b c d e f rest : List ℕ) → (a ++ (b ++ (c ++ (d ++ (e ++ f))))) ++ rest
    ≡ a ++ (b ++ (c ++ (d ++ (e ++ (f ++ rest)))))
behind_six a b c d e f rest = simp append_assoc

moment_codec : IsCodec (to_le_bytes w64) moment_at (λ n. (n < 2 ^ 64) × (is_moment n ≡ true))
moment_codec = where_codec u64_codec is_moment

-- slots keep their generations
generations_back : (s : ObjectsState) → ObjectsInvariant s
    → map generation_of (map keeper_slot (slots_saved s)) ≡ map generation_of s.keeper.slots
generations_back s tied = ext_get_or 1 _ _ (search (arith, length-map, saved_long, tied.agreed.wide)) (λ k lt.
    let xs = slots_saved s in
    let below : k < s.keeper.shape.slots = omega (arith, length-map (map keeper_slot xs) generation_of, length-map xs keeper_slot, saved_long s) in
    rw (
      map_at generation_of (map keeper_slot xs) k opening_slot,
      map_at keeper_slot xs k fresh_slot,
      map_at generation_of s.keeper.slots k opening_slot,
      saved_at s k below,
    ) (slot_generation (slot_saved s k)))

-- the threads and the slots of waits that are kept are within the limits
module _ (p : PartsState) (kept : StoreInvariant p) (tied : ObjectsInvariant p.objects) where
  slots-there : (n : ℕ) → n < length p.waits.waits
      → are_below p.limits.slots (ids_of (get_or p.waits.waits n None)) ≡ true
  slots-there n within = all_from _ (ids_of (get_or p.waits.waits n None)) nowhere (λ i lt.
      let there = there_within p.objects.objects _ (kept.sound.named.blocks _
      (place_counted _ _ _ kept.sound.named n i within lt)) in
      lt-ltb _ p.limits.slots (omega (arith, ap (λ (z : Shape). z.slots) kept.sound.limited.shape_is)))

  wait-within : (w : Option Wait) → ((t : ℕ) → thread_of w ≡ Some t → IsLive p.processes.threads t)
      → are_below p.limits.slots (ids_of w) ≡ true → is_within (length p.processes.threads) p.limits.slots w ≡ true
  wait-within None live below = refl
  wait-within (Some w) live below = search (arith, live_within, lt-ltb)

  waits_within : are_within (length p.processes.threads) p.limits.slots p.waits.waits ≡ true
  waits_within = all_from (is_within (length p.processes.threads) p.limits.slots) p.waits.waits None
      (search (arith, slots-there, wait-within))

slots-long : (xs : List SavedSlot) → length xs * slot_bytes ≤ length (flat_map slot_text xs)
slots-long [] = omega arith
slots-long (x ∷ xs) = search (arith, length-append, slots-long xs)

-- three texts before the slots, and what stands behind them, have as many bytes as the slots have at least
slots_there : (short : Bool) (n : ℕ) (xs : List SavedSlot) (a b c rest : List ℕ) → length xs ≡ n
    → has_at (cond short 0 (n * slot_bytes)) (a ++ (b ++ (c ++ (rows_text short xs ++ rest)))) ≡ Ok tt
slots_there false n xs a b c rest long = search (arith, slots-long, length-append)
slots_there true n xs a b c rest long = search arith

-- the parts of a store are read again
module _ (p : PartsState) (kept : StoreInvariant p) (tied : ObjectsInvariant p.objects) (processes : ListsFit p.processes)
    (tables : TablesFit p.tables) (waits : WaitsFit p.waits)
    (objects : AllByRecursion (SlotFits p.objects.keeper.shape.max_gen p.waits.clock) (slots_saved p.objects)) where
  abbrev sound : IsSound p
  sound = kept.sound

  abbrev over : ObjectsState
  over = record p.objects { keeper = begun_over (shape_of p.limits) (map keeper_slot (slots_saved p.objects)) }

  tables_there : (rest : List ℕ) → tables_at p.limits.processes p.limits.handles (length p.processes.processes)
      (tables_text p.tables.tables ++ rest) ≡ Ok (p.tables, rest)
  tables_there rest = rw (← sound.limited.processes_are, ← sound.limited.handles_are, ← sound.processes_kept.tabled)
      (tables_again p.tables rest tables)

  bounded : IsBounded p.tables.process_limit p.tables.handle_limit p.tables.tables
  bounded = search (arith, all_at)

  pub store_again : (moment : p.waits.clock ≤ 9223372036854775807) (rest : List ℕ)
      → store_at (store_text (whole_of p) ++ rest) ≡ Ok (begun_again (whole_of p), rest)
  store_again moment rest =
      let a = limits_text p.limits in
      let b = to_le_bytes w64 p.waits.clock in
      let c = processes_text p.processes in
      let d = tables_text p.tables.tables in
      let e = waits_text p.waits.waits in
      let f = objects_text p.limits.reuse p.objects in
      let limits_back = limits_codec.again p.limits (b ++ (c ++ (d ++ (e ++ (f ++ rest))))) tt in
      let clock_back = moment_codec.again p.waits.clock (c ++ (d ++ (e ++ (f ++ rest)))) (
        omega arith,
        le-leb p.waits.clock 9223372036854775807 moment,
      ) in
      let there = slots_there p.limits.reuse p.limits.slots (slots_saved p.objects) c d e rest
      (saved_long p.objects ∙ ap (λ (z : Shape). z.slots) sound.limited.shape_is) in
      let processes_back = (processes_codec p.limits.processes p.limits.threads).again p.processes (d ++ (e ++ (f ++ rest)))
      (kept_fits p.limits p.processes p.tables.tables sound.processes_kept kept.populated processes) in
      let tables_back : tables_for p.limits p.processes.processes (d ++ (e ++ (f ++ rest))) ≡ Ok (p.tables, e ++ (f ++ rest)) =
      search (arith, tables_there, vacated_pass) in
      let waits_back : waits_at (last_wait p.limits) p.waits.clock (length p.processes.threads) p.limits.slots
      (e ++ (f ++ rest)) ≡ Ok (p.waits, f ++ rest) =
      rw (← sound.limited.waits_are) (waits_again _ _ _ _ waits (waits_within p kept tied)) in
      let objects_back = objects_again p.objects tied p.limits p.tables.process_limit p.tables.handle_limit
      p.processes.threads p.tables.tables p.waits p.rows rest sound.limited.shape_is sound.counted sound.named
      sound.of_live (record { room = sound.room; settled = kept.settled }) sound.listing
      bounded
      (subst (λ (k : Shape). AllByRecursion (SlotFits k.max_gen p.waits.clock) (slots_saved p.objects))
      sound.limited.shape_is objects) in
      let whole : whole_with p.limits p.processes p.tables p.waits over ≡ begun_again (whole_of p) =
      search (arith, generations_back) in
      ap store_at (behind_six a b c d e f rest) ∙ (rw (limits_back, clock_back, there, processes_back, tables_back, waits_back, objects_back, whole) refl)

-- tables that were read have the limits that were asked for, and are as many as were
pub tables_read : (processes handles given : ℕ) (bytes : List ℕ) (t : HandleTables) (rest : List ℕ)
    → tables_at processes handles given bytes ≡ Ok (t, rest)
    → (t.process_limit ≡ processes) × ((t.handle_limit ≡ handles) × (length t.tables ≡ given))
tables_read processes handles given bytes t rest e = search arith

-- and so are those of which the processes that aren't live have none
pub tables_kept : (limits : Limits) (ps : List (Option ℕ)) (bytes : List ℕ) (t : HandleTables) (rest : List ℕ)
    → tables_for limits ps bytes ≡ Ok (t, rest)
    → (tables_at limits.processes limits.handles (length ps) bytes ≡ Ok (t, rest))
    × ((q : ℕ) → get_or ps q None ≡ None → get_or t.tables q [] ≡ [])
tables_kept limits ps bytes t rest e = search (arith, vacated_from)

-- and so was what stands before the objects
lists_were : (limits : Limits) (clock : ℕ) (bytes : List ℕ) (l : (ProcessesState × (HandleTables × WaitList)) × List ℕ)
    → AreBytes bytes → lists_at limits clock bytes ≡ Ok l
    → (bytes ≡ processes_text l.0.0 ++ (tables_text l.0.1.0.tables ++ (waits_text l.0.1.1.waits ++ l.1)))
    × (AreBytes l.1 × (l.0.1.1.clock ≡ clock))
lists_were limits clock bytes l are e =
    let c = bind_ok (processes_at limits.processes limits.threads bytes) _ l e in
    let p = c.0.0 in
    let lc = ((processes_codec limits.processes limits.threads).takes bytes p c.0.1 are c.1).0 in
    let d = bind_ok (tables_for limits p.processes c.0.1) _ l c.2 in
    let t = d.0.0 in
    let ld = (tables_take _ _ _ _ t _ lc.rest_fits (tables_kept limits p.processes c.0.1 t d.0.1 d.1).0).0 in
    let f = bind_ok (waits_at (last_wait limits) clock (length p.threads) limits.slots d.0.1) _ l d.2 in
    let list = f.0.0 in
    let lf = (waits_take (last_wait limits) clock (length p.threads) limits.slots d.0.1 list f.0.1 ld.rest_fits f.1).0 in
    search arith

pub store_takes : (bytes : List ℕ) (w : Whole) (rest : List ℕ) → AreBytes bytes → store_at bytes ≡ Ok (w, rest)
    → Takes bytes (store_text w) rest
store_takes bytes w rest are e =
    let a = bind_ok (limits_at bytes) _ (w, rest) e in
    let limits = a.0.0 in
    let la = (limits_codec.takes bytes limits a.0.1 are a.1).0 in
    let b = bind_ok (moment_at a.0.1) _ (w, rest) a.2 in
    let lb = (moment_codec.takes a.0.1 b.0.0 b.0.1 la.rest_fits b.1).0 in
    let h = bind_ok (has_at (least_bytes limits) b.0.1) _ (w, rest) b.2 in
    let l = bind_ok (lists_at limits b.0.0 b.0.1) (behind_lists limits) (w, rest) h.2 in
    let ll = lists_were limits b.0.0 b.0.1 l.0 lb.rest_fits l.1 in
    let p = l.0.0.0 in
    let t = l.0.0.1.0 in
    let list = l.0.0.1.1 in
    let g = bind_ok (objects_at limits p.threads t.tables list l.0.1) _ (w, rest) l.2 in
    let o = g.0.0.0 in
    let lg = objects_take limits p.threads t.tables list l.0.1 o g.0.0.1 g.0.1 ll.1.0 g.1 in
    let q : (whole_with limits p t list o, g.0.1) ≡ (w, rest) = search arith in
    let texts : bytes ≡ limits_text limits ++ (to_le_bytes w64 list.clock ++ (processes_text p ++ (tables_text t.tables
    ++ (waits_text list.waits ++ (objects_text limits.reuse o ++ g.0.1))))) = search arith in
    subst (λ (z : Whole × List ℕ). Takes bytes (store_text z.0) z.1) q
    (record { parts = texts ∙ sym (search (arith, behind_six)); rest_fits = lg.rest_fits })
