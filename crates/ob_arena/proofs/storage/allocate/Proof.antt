-- `allocate` cuts new memory into empty slots, and keeps the right to give it back.
use Rattle.ob_arena.proofs.Steps.{◌≡◌, refl, sym, ap, subst, true, false, ℕ, ◌*◌, ◌<◌, ◌^◌, arith, List, [], ◌∷◌, ◌++◌, lit<, length, replicate, length-replicate, Ura, SProp, ent, Lft, Share, Incl-trans, ftrue, flft, Fn, Body, named, w64, ty_array, inst_fn, Val, vptr, vint, vstruct, vcons, vnil, capped_fits, Memory, align, capped, Routine, Env, Calls, Loops, Wp, WpFn, Tables, after_seq, at_return, ◌⊑◌, Fun, fact, tables, tables_of, WpFn-mono, FmC, fm_of, Logic, Item, After, any_q, at_ret, ⋆, ‵, raw, ◌⊛◌, later, await, ◌$◌, ◌∵◌, !, qed, by, move, keep, use0, use1, use2, use3, split, join, fsplit, fsplit3, fjoin, feq_l, flt_l, flt_i, suffices, frame, done, live, vrt, in_variant, whole, agg, stop, fld, lit, of_opd, bin, size_word, align_word, and_then, no_more, first, switches_on, exec, returns, enter, alloc_all, pass_all, free_all, look_at, get, get_in, get_tag, sets, sets_last, lands_as, is, env, RefOf, usize, yes, Is, hidden_shr, layout, RattleType, owns, Ptr, block_ptr, Bor, ShrRef, plain, nothing, owned, Struct, Struct-Makes, Tuple, calls_at, Clauses, Ended, closing, on_entry, Meets, triple_of, Triple, entered, says, needs, Stays, stay_dropped, walk_of, ends_at, Goes-dropped, walk_Meets, None, IfOk, Ok, Err, FitsInBlock, El, R, elτ, as_written, Good, word, word-Good, first_Good, ok_of, err_of, after, head, arm_body}
use denote.Struct.Declared as Declared
use Rattle.std.specs.contracts.result.Result as ResultType
use Rattle.std.specs.contracts.alloc.AllocError as ErrorType
use Rattle.ob_arena.proofs.Cited.{Al, second, Answer-typed, takes_key, Takes, at_takes, Answered, Takes-goes, Takes-gives, answers, slots}
use Rattle.ob_arena.proofs.StorageMemory.{StorageOf, FrontOf, Mark, sz, mark, mark_made, pointer_made, uncapped, memory_of, memory_size, memory_align, args_of, Heap, three_parts, three_made, of_room}
use Rattle.ob_arena.specs.contracts.storage.Title as TitleType
use Rattle.ob_arena.specs.contracts.storage.allocate as contract
use Rattle.ob_arena.specs.contracts.storage.allocate.Key.{name as #self}
use Rattle.ob_arena.proofs.storage.allocate.Statement as stated
use Rattle.ob_arena.proofs.storage.allocate.Code as code

module _ (E : El) (Z : Al) where
  abbrev function : Fn
  function = inst_fn (args_of E Z) code.function

  abbrev ended : Ended
  ended = contract.ended E.row Z.row Z.g Z.d Z.drops

  abbrev clauses : {M : Type 1} {𝓤 : Ura M} (𝓛 : Logic 𝓤) → (Memory → SProp 𝓤) → (Routine → Fun 𝓤) → Clauses 𝓤 ended
  clauses 𝓛 = contract.clauses E.row Z.row Z.g Z.d Z.drops 𝓛

  abbrev TitleOf : RattleType
  TitleOf = TitleType.the_row (R E) (Heap E Z) Z.g

  abbrev stayed : Stays ended.signature.params ended.kept
  stayed = (stay_dropped _ yes, (stay_dropped _ yes, tt))

  abbrev Three : RattleType
  Three = Tuple (FrontOf E ∷ StorageOf E ∷ TitleOf ∷ [])

  abbrev Out : RattleType
  Out = ResultType.the_row Three ErrorType.the_row

module _ (E : El) (Z : Al) {M : Type 1} {𝓤 : Ura M} (𝓛 : Logic 𝓤) (at_mem : Memory → SProp 𝓤) (run : Routine
    → Fun 𝓤) (C : Calls 𝓤 𝓛.H) (Λ : Loops 𝓤 𝓛.H) (fm : FmC 𝓤 𝓛.H 𝓛.laws C)
    (callee : Triple 𝓤 (C (takes_key Z)) (Takes Z 𝓛 at_mem run)) (κ κ₁ κ₂ : Lft) (q q₁ q₂ : Share) (short : κ ⊑ κ₂)
    (within : κ₂ ⊑ Z.row.lives) (rb ro : ℕ) (heap : Z.row.Denot) (len : ℕ) (us0 us1 : List Val) where
  open 𝓛 use {H, A}

  abbrev alloc : Bor Z.row.Denot
  alloc = record { ref_ptr = (rb, ro); now = heap }

  abbrev others : Item 𝓤
  others = ‵ (flft κ₁ q₁) ⊛ ‵ (flft κ₂ q₂) ⊛ ‵ ftrue

  abbrev bound : (walk_of 𝓛 (ended E Z) (stayed E Z) (clauses E Z 𝓛 at_mem run)).Ghost
  bound = (((κ, (κ₁, (κ₂, tt))), (q, (q₁, (q₂, tt))), (short, tt), (alloc, (len, tt)), (us0, (us1, tt))), tt)

  abbrev Post : Val → SProp 𝓤
  Post = (walk_of 𝓛 (ended E Z) (stayed E Z) (clauses E Z 𝓛 at_mem run)).post bound

  exits : (r : (Out E Z).Denot) (v : Val) → IfOk r (λ t. (t.1.front ≡ t.0.first) × (t.1.slots ≡ replicate len None)
      × (t.2.front ≡ t.0.first) × (t.2.len ≡ len) × (t.2.alloc ≡ heap))
      → ent 𝓤 (⋆ 𝓛 (‵ ((Out E Z).own_val r (v ∷ [])) ∷ ‵ (flft κ q) ∷ others ∷ [])) (Post v)
  exits r v gives =
      qed 𝓛 (‵ ((Out E Z).own_val r (v ∷ [])) ∷ ‵ (flft κ q) ∷ others ∷ []) ∵
      suffices ! _ (ends_at 𝓛 (ended E Z) (stayed E Z) (clauses E Z 𝓛 at_mem run) bound v r (tt, (tt, tt)) (
        tt,
        (tt, tt),
      )) $ says ! gives $
      move ! (1 ∷ 2 ∷ []) $ join ! $ frame ! $ nothing ! $ nothing ! $ fjoin ! $ nothing ! $ fjoin ! $ done !

  abbrev Had : List (Item 𝓤)
  Had = ‵ (hidden_shr (Heap E Z) κ heap rb ro) ∷ ‵ (flft κ q) ∷ others ∷ []

  walk : FitsInBlock (R E) len → len < 2 ^ 64 → ent 𝓤 (⋆ 𝓛 Had)
      (WpFn 𝓤 H C Λ (function E Z) (vptr rb ro ∷ vint w64 len ∷ []) Post)
  walk asked fits =
      let s = sz E in let small : len * s < 2 ^ 63 = asked.0 in let bytes : len * s < 2 ^ 64 = omega arith in
      qed 𝓛 Had ∵ enter ! C Λ (function E Z) (vptr rb ro ∷ vint w64 len ∷ []) _ $ alloc_all !
      (λ l. pass_all ! refl ((tt, tt), ((tt, record { fits = fits }), tt)) $
      let En : Env 𝓤 H = env (function E Z).locals l in
      let arms : Body = head (after 2 (function E Z).body) in
      let Then : After 𝓤 H = any_q (after_seq 𝓤 H (Wp 𝓤 H C Λ En (after 3 (function E Z).body) (at_return 𝓤 H En Post))
      (at_return 𝓤 H En Post)) in
      let aligned : ℕ = capped (align (elτ E)) in
      let y : (Takes Z 𝓛 at_mem run).Ghost = at_takes Z 𝓛 at_mem run κ q (
        rb,
        ro,
      ) heap (len * s) aligned (memory_of E len) in
      sets ! (is ! (bin ! (get ! refl) (size_word !)
      (record { fits = subst (λ (k : ℕ). k < 2 ^ 64) (sym (uncapped len s bytes)) bytes }))
      (ap (vint w64) (uncapped len s bytes))) refl (tt, record { fits = bytes }) $
      use2 𝓛 (raw ((Takes Z 𝓛 at_mem run).pre y)) (Takes-goes Z 𝓛 at_mem run κ q (
        rb,
        ro,
      ) heap (Incl-trans short within) (len * s) aligned (memory_of E len) (memory_size E len bytes)
      (memory_align E len) bytes (capped_fits (align (elτ E)))) $
      calls_at ! fm (Takes Z 𝓛 at_mem run) callee y (and_then !
      (get ! refl) (and_then ! (get ! refl) (and_then ! (align_word !) (no_more !)))) (λ v.
      use1 𝓛 (later (raw (Answered Z 𝓛 at_mem run heap (memory_of E len) v) ⊛ ‵ (flft κ q)))
      (Takes-gives Z 𝓛 at_mem run κ q (rb, ro) heap (len * s) aligned (memory_of E len) v) $ await ! tt $ split ! $
      answers Z ! at_mem run heap (memory_of E len) v
      -- memory was there
      (λ b o e.
      let p : Ptr = block_ptr b o in
      let front : (FrontOf E).Denot = record { first = p } in
      let storage : (StorageOf E).Denot = record { mark = record {}; front = p; slots = replicate len None } in
      let title : (TitleOf E Z).Denot = record { mark = record {}; front = p; len = len; alloc = heap } in
      let made : Val = three_parts (word p) mark mark in
      let typed : Good (layout (Three E Z)) made = (tt, ((tt, tt), ((tt, tt), ((tt, tt), tt)))) in
      let ok = first_Good (layout (Three E Z)) made typed in
      lands_as ! e refl (Answer-typed true b o) $ first ! $ switches_on !
      (get_tag ! (vrt ! refl (fld ! refl (stop !))) (whole !)) $ exec ! C Λ En (arm_body 0 arms) Then $
      sets ! (of_opd ! (get_in ! (vrt ! refl (fld ! refl (stop !))) (in_variant ! 0 0 refl refl (whole !)))) refl (
        tt,
        tt,
      ) $ sets ! (of_opd ! (get ! refl)) refl (tt, tt) $
      sets ! (agg ! (and_then ! (get ! refl) (no_more !))) refl (word-Good [] p) $
      sets ! (agg ! (no_more !)) refl (tt, tt) $ sets !
      (agg ! (and_then ! (get ! refl) (no_more !))) refl (tt, (tt, tt)) $
      sets ! (agg ! (no_more !)) refl (tt, tt) $ sets !
      (agg ! (and_then ! (get ! refl) (no_more !))) refl (tt, (tt, tt)) $
      sets ! (agg ! (and_then ! (get ! refl) (and_then ! (get ! refl) (and_then ! (get ! refl) (no_more !))))) refl
      typed $
      sets_last ! (agg ! (and_then ! (lit ! tt) (and_then ! (get ! refl) (no_more !)))) refl ok $
      exec ! C Λ En (after 3 (function E Z).body) (at_ret En Post) $ sets ! (of_opd ! (get ! refl)) refl ok $
      move ! (1 ∷ []) $ use0 𝓛 (‵ ((Mark E).own_val (tt, tt) (mark ∷ []))) (mark_made E 𝓛) $ fjoin ! $ move ! (1 ∷ []) $
      as_written ! (ty_array (elτ E) len) b o $ use1 𝓛 (‵ (slots (R E) b o storage.slots)) (of_room E 𝓛 b len o) $
      flt_i ! (length storage.slots * s) (2 ^ 63) (subst (λ k. k * s < 2 ^ 63) (sym (length-replicate len None)) small)
      $ fjoin ! $
      use0 𝓛 (‵ ((Mark E).own_val (tt, tt) (mark ∷ []))) (mark_made E 𝓛) $ fjoin ! $ pointer_made ! p $
      use3 𝓛 (‵ ((Three E Z).own_val (front, storage, title) (made ∷ [])))
      (three_made 𝓛 (FrontOf E) (StorageOf E) (TitleOf E Z) front storage title (word p) mark mark) $
      use1 𝓛 (‵ ((Out E Z).own_val (Ok (front, storage, title)) (live 0 (vcons made vnil) ∷ [])))
      (ok_of 𝓛 (Three E Z) ErrorType.the_row (front, storage, title) made) $
      returns ! (look_at ! 0 refl) $ free_all ! refl $ keep ! (0 ∷ 1 ∷ 2 ∷ []) $ by !
      (exits (Ok (front, storage, title)) (live 0 (vcons made vnil)) (refl, refl, refl, refl, refl)))
      -- there was none
      (λ e.
      let Refusal : RattleType = Struct (Declared.shape ErrorType.the_type) in
      let none : Val = live 1 (vcons (vstruct vnil) vnil) in
      lands_as ! e refl (Answer-typed false 0 0) $ first ! $ switches_on !
      (get_tag ! (vrt ! refl (fld ! refl (stop !))) (whole !)) $ exec ! C Λ En (arm_body 1 arms) Then $
      sets ! (of_opd ! (get_in ! (vrt ! refl (fld ! refl (stop !))) (in_variant ! 1 0 refl refl (whole !)))) refl (
        tt,
        tt,
      ) $
      sets_last ! (agg ! (and_then ! (lit ! tt) (and_then ! (get ! refl) (no_more !)))) refl (
        tt,
        (record { fits = lit< tt }, (tt, tt)),
      ) $
      exec ! C Λ En (after 3 (function E Z).body) (at_ret En Post) $ sets !
      (of_opd ! (get ! refl)) refl (tt, (record { fits = lit< tt }, (tt, tt))) $
      owned ! Refusal (Is Refusal) (Struct-Makes 𝓛 (Declared.shape ErrorType.the_type) tt) tt (vstruct vnil ∷ []) (
        tt,
        (refl, tt),
      ) $
      use1 𝓛 (‵ ((Out E Z).own_val (Err (record {})) (none ∷ [])))
      (err_of 𝓛 (Three E Z) ErrorType.the_row (record {}) (vstruct vnil)) $
      returns ! (look_at ! 0 refl) $ free_all ! refl $ keep ! (0 ∷ 1 ∷ 2 ∷ []) $ by !
      (exits (Err (record {})) none tt))))

  entry : FitsInBlock (R E) len → ent 𝓤 (on_entry 𝓛 (ended E Z).signature (κ, (κ₁, (κ₂, tt))) (
    q,
    (q₁, (q₂, tt)),
  ) (alloc, (len, tt)) (us0, (us1, tt))) (WpFn 𝓤 H C Λ (function E Z) (us0 ++ (us1 ++ [])) Post)
  entry asked =
      qed 𝓛 ((‵ (flft κ q) ⊛ others) ∷ ‵ (owns (ShrRef (named 0) κ (Heap E Z) ∷ usize ∷ []) (alloc, (len, tt)) (
        us0,
        (us1, tt),
      )) ∷ []) ∵ split ! $ move ! (2 ∷ []) $ fsplit3 ! $ fsplit ! $ feq_l ! (λ e0.
      move ! (1 ∷ []) $ fsplit ! $ feq_l ! (λ e1. flt_l ! (λ fits. keep ! (0 ∷ 2 ∷ 3 ∷ []) $
      by ! (subst (λ (ws : List Val × List Val). ent 𝓤 (⋆ 𝓛 Had)
      (WpFn 𝓤 H C Λ (function E Z) (ws.0 ++ (ws.1 ++ [])) Post)) (λ j. (sym e0 j, sym e1 j)) (walk asked fits)))))

meets : (E : El) (Z : Al) {M : Type 1} {𝓤 : Ura M} (𝓛 : Logic 𝓤) (at_mem : Memory → SProp 𝓤) (run : Routine
    → Fun 𝓤) (𝓣 : Tables 𝓤 𝓛.H) → Triple 𝓤 (𝓣.C (takes_key Z)) (Takes Z 𝓛 at_mem run)
    → Meets 𝓛 (ended E Z).signature (WpFn 𝓤 𝓛.H 𝓣.C 𝓣.Λ (function E Z))
    (closing 𝓛 (ended E Z) (clauses E Z 𝓛 at_mem run))
meets E Z {𝓤 = 𝓤} 𝓛 at_mem run 𝓣 callee =
    walk_Meets 𝓛 (ended E Z) (stayed E Z) (
      Goes-dropped 𝓛 3 (RefOf (0 ∷ []) tt (plain (λ _. Heap E Z)) (λ _. tt)) yes
          (λ κs x f. refl),
      (Goes-dropped 𝓛 3 (plain (λ _. usize)) yes (λ κs x f. refl), tt),
    )
    (clauses E Z 𝓛 at_mem run) (WpFn 𝓤 𝓛.H 𝓣.C 𝓣.Λ (function E Z)) (WpFn-mono 𝓤 𝓛.H 𝓛.laws 𝓣 (function E Z))
    (λ z. let κs = z.0.0 in let qs = z.0.1 in let a = z.0.3 in let vss = z.0.4 in
    let On : SProp 𝓤 = on_entry 𝓛 (ended E Z).signature κs qs a vss in
    let asks = FitsInBlock (R E) a.1.0 in
    second 𝓤 (κs.1.0 ⊑ E.row.lives) (κs.1.1.0 ⊑ Z.row.lives) On (fact 𝓤 asks) (λ within. needs 𝓤 asks On
    (entry E Z 𝓛 at_mem run 𝓣.C 𝓣.Λ (fm_of 𝓤 𝓛.H 𝓛.laws 𝓣) callee κs.0 κs.1.0 κs.1.1.0 qs.0 qs.1.0 qs.1.1.0 z.0.2.0
    within a.0.ref_ptr.0 a.0.ref_ptr.1 a.0.now a.1.0 vss.0 vss.1.0)))

pub allocate_spec : {M : Type 1} → stated.statement M
unfolding tables_of
allocate_spec 𝓤 𝓛 𝓜 𝓡 wired B W L LW g d dd met md =
    let E : El = record { row = B; laws = L } in
    let Z : Al = record { row = W; laws = LW; g = g; d = d; drops = dd } in
    let 𝓣 : Tables 𝓤 𝓛.H = tables_of 𝓤 𝓛.H 𝓜 (tables 𝓤 𝓛.H 𝓜 𝓡 𝓡.env) in
    entered 𝓤 𝓛.H (triple_of 𝓛 (ended E Z).signature (contract.spec B W g d dd 𝓛 𝓜.mem 𝓡.returns)) 𝓣.C 𝓣.Λ
    (#self (args_of E Z)) (function E Z) (code.unfolded 𝓤 𝓛.H 𝓜 𝓡 wired (B, (W, tt)) d dd)
    (meets E Z 𝓛 𝓜.mem 𝓡.returns 𝓣 (met.allocate dd))
