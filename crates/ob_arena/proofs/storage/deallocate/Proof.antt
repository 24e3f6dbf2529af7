-- `deallocate` makes one block of the empty slots, and gives it back by the allocator's token.
use Rattle.ob_arena.proofs.Steps.{◌≡◌, refl, sym, ap, subst, ◌∙◌, ℕ, ◌*◌, ◌<◌, ◌^◌, arith, List, [], ◌∷◌, ◌++◌, T, replicate, length-replicate, Ura, SProp, ent, never, id⊢, Lft, Share, Incl-trans, ftrue, froom, flft, Fn, named, w64, ty_unit, ty_array, inst_fn, Val, has_ty, WT, vptr, vint, vunit, capped_fits, Memory, align, capped, Routine, Env, Calls, Loops, WpFn, Tables, ◌⊑◌, Fun, fact, tables, tables_of, WpFn-mono, FmC, fm_of, Logic, Item, at_ret, ⋆, ‵, raw, ◌⊛◌, given, later, await, learn, ◌$◌, ◌∵◌, !, qed, by, move, keep, use1, split, join, group, rewrite, fsplit, fsplit3, fjoin, feq_i, feq_l, flt_l, suffices, done, whole, sub, stop, fld, unit_lit, of_opd, bin, size_word, align_word, and_then, no_more, first, blocks, exec, returns, enter, alloc_all, pass_all, free_all, look_at, get, get_in, sets, lands_last, is, env, RefOf, usize, yes, no, hidden_shr, RattleType, owns, Ptr, ptr_val, in_a_block, Bor, ShrRef, plain, nothing, calls_at_last, Clauses, Ended, closing, on_entry, Meets, triple_of, Triple, entered, needs, Stays, stay_dropped, walk_of, ends_at, Goes-dropped, walk_Meets, None, El, R, elτ, as_raw, word, word-Good, after}
use Rattle.ob_arena.proofs.Cited.{Al, second, token, gives_key, Gives, at_gives, Gives-goes, Gives-Gives, Goes-blank, storage_owns, title_owns}
use Rattle.ob_arena.proofs.StorageMemory.{StorageOf, FrontOf, sz, Slot, mark, mark_had, pointer_had, uncapped, memory_of, memory_size, memory_align, args_of, Heap, to_room}
use Rattle.ob_arena.specs.contracts.storage.Title as TitleType
use Rattle.ob_arena.specs.contracts.storage.deallocate as contract
use Rattle.ob_arena.specs.contracts.storage.deallocate.Key.{name as #self}
use Rattle.ob_arena.proofs.storage.deallocate.Statement as stated
use Rattle.ob_arena.proofs.storage.deallocate.Code as code

module _ (E : El) (Z : Al) where
  abbrev function : Fn
  function = inst_fn (args_of E Z) code.function

  abbrev ended : Ended
  ended = contract.ended E.row Z.row Z.g Z.d Z.drops

  abbrev clauses : {M : Type 1} {𝓤 : Ura M} (𝓛 : Logic 𝓤) → (Memory → SProp 𝓤) → (Routine → Fun 𝓤) → Clauses 𝓤 ended
  clauses 𝓛 = contract.clauses E.row Z.row Z.g Z.d Z.drops 𝓛

  abbrev TitleOf : RattleType
  TitleOf = TitleType.the_row (R E) (Heap E Z) Z.g

  abbrev stayed : Stays ended.signature.params ended.kept
  stayed = (
    stay_dropped _ yes,
    (stay_dropped _ no, (stay_dropped _ yes, (stay_dropped _ no, (stay_dropped _ no, tt)))),
  )

  abbrev Asks : Z.row.Denot → (FrontOf E).Denot → ℕ → (StorageOf E).Denot → TitleOf.Denot → Type 0
  Asks heap front len storage title = (storage.front ≡ front.first) × (storage.slots ≡ replicate len None)
      × (title.front ≡ front.first) × (title.len ≡ len) × (title.alloc ≡ heap)

module _ (E : El) (Z : Al) {M : Type 1} {𝓤 : Ura M} (𝓛 : Logic 𝓤) (at_mem : Memory → SProp 𝓤) (run : Routine
    → Fun 𝓤) (C : Calls 𝓤 𝓛.H) (Λ : Loops 𝓤 𝓛.H) (fm : FmC 𝓤 𝓛.H 𝓛.laws C)
    (callee : Triple 𝓤 (C (gives_key Z)) (Gives Z 𝓛 at_mem run)) (κ κ₁ κ₂ : Lft) (q q₁ q₂ : Share) (short : κ ⊑ κ₂)
    (within : κ₂ ⊑ Z.row.lives) (rb ro : ℕ) (heap : Z.row.Denot) (front : (FrontOf E).Denot) (len : ℕ)
    (storage : (StorageOf E).Denot) (title : (TitleOf E Z).Denot) (us0 us1 us2 us3 us4 : List Val) where
  open 𝓛 use {H, A}

  abbrev alloc : Bor Z.row.Denot
  alloc = record { ref_ptr = (rb, ro); now = heap }

  abbrev others : Item 𝓤
  others = ‵ (flft κ₁ q₁) ⊛ ‵ (flft κ₂ q₂) ⊛ ‵ ftrue

  abbrev bound : (walk_of 𝓛 (ended E Z) (stayed E Z) (clauses E Z 𝓛 at_mem run)).Ghost
  bound = (
    (
      (κ, (κ₁, (κ₂, tt))),
      (q, (q₁, (q₂, tt))),
      (short, tt),
      (alloc, (front, (len, (storage, (title, tt))))),
      (us0, (us1, (us2, (us3, (us4, tt))))),
    ),
    tt,
  )

  abbrev Post : Val → SProp 𝓤
  Post = (walk_of 𝓛 (ended E Z) (stayed E Z) (clauses E Z 𝓛 at_mem run)).post bound

  exits : ent 𝓤 (⋆ 𝓛 (‵ (flft κ q) ∷ others ∷ [])) (Post vunit)
  exits =
      qed 𝓛 (‵ (flft κ q) ∷ others ∷ []) ∵
      suffices ! _ (ends_at 𝓛 (ended E Z) (stayed E Z) (clauses E Z 𝓛 at_mem run) bound vunit tt (
        tt,
        (tt, (tt, (tt, (tt, tt)))),
      ) (tt, (tt, (tt, (tt, (tt, tt)))))) $
      join ! $ feq_i ! (List Val) (vunit ∷ []) (vunit ∷ []) refl $ nothing ! $ nothing ! $ fjoin ! $ nothing ! $ fjoin !
      $ nothing ! $ fjoin ! $ nothing ! $ fjoin ! $ nothing ! $ fjoin ! $ join ! $
      move ! (1 ∷ 0 ∷ []) $ join ! $ nothing ! $ move ! (1 ∷ 0 ∷ []) $ done !

  abbrev Had : List (Item 𝓤)
  Had = ‵ (storage_owns (R E) storage.front storage.slots)
      ∷ ‵ (title_owns (R E) (token Z title.alloc) title.front title.len) ∷ ‵ (hidden_shr (Heap E Z) κ heap rb ro)
      ∷ ‵ (flft κ q) ∷ others ∷ []

  walk : Asks E Z heap front len storage title → len < 2 ^ 64
      → ent 𝓤 (⋆ 𝓛 Had) (WpFn 𝓤 H C Λ (function E Z)
      (vptr rb ro ∷ word front.first ∷ vint w64 len ∷ mark ∷ mark ∷ []) Post)
  walk asked fits =
      qed 𝓛 Had ∵ enter ! C Λ (function E Z) (vptr rb ro ∷ word front.first ∷ vint w64 len ∷ mark ∷ mark ∷ []) _ $
      alloc_all ! (λ l. pass_all ! refl (
        (tt, tt),
        (word-Good [] front.first, ((tt, record { fits = fits }), ((tt, (tt, tt)), ((tt, (tt, tt)), tt)))),
      ) $
      let En : Env 𝓤 H = env (function E Z).locals l in
      let s = sz E in let aligned : ℕ = capped (align (elτ E)) in
      rewrite ! 0 (λ (c : Ptr × List (Slot E)). ‵ (storage_owns (R E) c.0 c.1)) (λ i. (asked.0 i, asked.1 i)) refl $
      in_a_block ! front.first (λ p. storage_owns (R E) p (replicate len None)) (id⊢ 𝓤 (never 𝓤)) (λ b o e. fsplit ! $
      flt_l ! (λ fit.
      let small : len * s < 2 ^ 63 = subst (λ k. k * s < 2 ^ 63) (length-replicate len None) fit in
      let bytes : len * s < 2 ^ 64 = omega arith in
      let y : (Gives Z 𝓛 at_mem run).Ghost = at_gives Z 𝓛 at_mem run κ q (
        rb,
        ro,
      ) heap b o (len * s) aligned (memory_of E len) in
      rewrite ! 1 (λ (d : Z.row.Denot × Ptr × ℕ). ‵ (title_owns (R E) (token Z d.0) d.1 d.2))
      (λ i. (asked.4 i, (asked.2 ∙ e) i, asked.3 i)) refl $
      -- the room of all slots is that of the block
      use1 𝓛 (‵ (froom (ty_array (elτ E) len) b o)) (to_room E 𝓛 b len o) $ as_raw ! (ty_array (elτ E) len) b o $
      first ! $ blocks ! $
      sets ! (is ! (of_opd ! (get_in ! (fld ! refl (stop !)) (sub ! 0 refl (whole !)))) (ap ptr_val e)) refl (tt, tt) $
      sets ! (is ! (bin ! (get ! refl) (size_word !)
      (record { fits = subst (λ (k : ℕ). k < 2 ^ 64) (sym (uncapped len s bytes)) bytes }))
      (ap (vint w64) (uncapped len s bytes))) refl (tt, record { fits = bytes }) $
      group ! 4 $ use1 𝓛 (raw ((Gives Z 𝓛 at_mem run).pre y))
      (Gives-goes Z 𝓛 at_mem run κ q (rb, ro) heap (Incl-trans short within) b o (len * s) aligned (memory_of E len)
      (memory_size E len bytes) (memory_align E len) bytes (capped_fits (align (elτ E)))) $
      calls_at_last ! fm (Gives Z 𝓛 at_mem run) callee y (and_then !
      (get ! refl) (and_then ! (get ! refl) (and_then ! (get ! refl) (and_then ! (align_word !) (no_more !)))))
      (λ v.
      use1 𝓛 (later (given (v ≡ vunit) (‵ (flft κ q))))
      (Gives-Gives Z 𝓛 at_mem run κ q (rb, ro) heap b o (len * s) aligned (memory_of E len) v) $ await ! tt $
      learn ! (λ is_unit.
      lands_last ! refl (subst (λ (z : Val). T (has_ty ty_unit z) × WT z) (sym is_unit) (tt, tt)) $ exec !
      C Λ En (after 1 (function E Z).body) (at_ret En Post) $
      sets ! (of_opd ! (unit_lit !)) refl (tt, tt) $ returns ! (look_at ! 0 refl) $ free_all ! refl $ keep !
      (0 ∷ 1 ∷ []) $ by ! exits)))))

  entry : Asks E Z heap front len storage title → ent 𝓤
      (on_entry 𝓛 (ended E Z).signature (κ, (κ₁, (κ₂, tt))) (q, (q₁, (q₂, tt))) (
        alloc,
        (front, (len, (storage, (title, tt)))),
      ) (us0, (us1, (us2, (us3, (us4, tt))))))
      (WpFn 𝓤 H C Λ (function E Z) (us0 ++ (us1 ++ (us2 ++ (us3 ++ (us4 ++ []))))) Post)
  entry asked =
      qed 𝓛 ((‵ (flft κ q) ⊛ others) ∷ ‵ (owns (ShrRef (named 0) κ (Heap E Z) ∷ FrontOf E ∷ usize ∷ StorageOf E
      ∷ TitleOf E Z ∷ []) (alloc, (front, (len, (storage, (title, tt))))) (us0, (us1, (us2, (us3, (us4, tt))))))
      ∷ []) ∵ split ! $ move ! (2 ∷ []) $ fsplit3 ! $ fsplit ! $ feq_l ! (λ e0.
      move ! (1 ∷ []) $ pointer_had ! front.first us1 (λ e1. move ! (1 ∷ []) $ fsplit3 ! $ fsplit ! $ feq_l !
      (λ e2. flt_l ! (λ fits.
      fsplit ! $ mark_had ! E us3 (λ e3. move ! (1 ∷ []) $ fsplit ! $ fsplit ! $ mark_had !
      E us4 (λ e4. keep ! (2 ∷ 0 ∷ 3 ∷ 4 ∷ 5 ∷ []) $
      by ! (subst (λ (ws : List Val × List Val × List Val × List Val
      × List Val). ent 𝓤 (⋆ 𝓛 Had) (WpFn 𝓤 H C Λ (function E Z) (ws.0
      ++ (ws.1 ++ (ws.2 ++ (ws.3 ++ (ws.4 ++ []))))) Post))
      (λ j. (sym e0 j, sym e1 j, sym e2 j, sym e3 j, sym e4 j)) (walk asked fits))))))))

meets : (E : El) (Z : Al) {M : Type 1} {𝓤 : Ura M} (𝓛 : Logic 𝓤) (at_mem : Memory → SProp 𝓤) (run : Routine
    → Fun 𝓤) (𝓣 : Tables 𝓤 𝓛.H) → Triple 𝓤 (𝓣.C (gives_key Z)) (Gives Z 𝓛 at_mem run)
    → Meets 𝓛 (ended E Z).signature (WpFn 𝓤 𝓛.H 𝓣.C 𝓣.Λ (function E Z))
    (closing 𝓛 (ended E Z) (clauses E Z 𝓛 at_mem run))
meets E Z {𝓤 = 𝓤} 𝓛 at_mem run 𝓣 callee =
    walk_Meets 𝓛 (ended E Z) (stayed E Z) (
      Goes-dropped 𝓛 3 (RefOf (0 ∷ []) tt (plain (λ _. Heap E Z)) (λ _. tt)) yes
          (λ κs x f. refl),
      (
        Goes-dropped 𝓛 3 (plain (λ _. FrontOf E)) no (λ κs x f. refl),
        (
          Goes-dropped 𝓛 3 (plain (λ _. usize)) yes (λ κs x f. refl),
          (
            Goes-blank 𝓛 3 (plain (λ _. StorageOf E)) no (λ κs x f. tt),
            (Goes-blank 𝓛 3 (plain (λ _. TitleOf E Z)) no (λ κs x f. tt), tt),
          ),
        ),
      ),
    )
    (clauses E Z 𝓛 at_mem run) (WpFn 𝓤 𝓛.H 𝓣.C 𝓣.Λ (function E Z)) (WpFn-mono 𝓤 𝓛.H 𝓛.laws 𝓣 (function E Z))
    (λ z. let κs = z.0.0 in let qs = z.0.1 in let a = z.0.3 in let vss = z.0.4 in
    let On : SProp 𝓤 = on_entry 𝓛 (ended E Z).signature κs qs a vss in
    let asks = Asks E Z a.0.now a.1.0 a.1.1.0 a.1.1.1.0 a.1.1.1.1.0 in
    second 𝓤 (κs.1.0 ⊑ E.row.lives) (κs.1.1.0 ⊑ Z.row.lives) On (fact 𝓤 asks) (λ within. needs 𝓤 asks On
    (entry E Z 𝓛 at_mem run 𝓣.C 𝓣.Λ (fm_of 𝓤 𝓛.H 𝓛.laws 𝓣) callee κs.0 κs.1.0 κs.1.1.0 qs.0 qs.1.0 qs.1.1.0 z.0.2.0
    within a.0.ref_ptr.0 a.0.ref_ptr.1 a.0.now a.1.0 a.1.1.0 a.1.1.1.0 a.1.1.1.1.0 vss.0 vss.1.0 vss.1.1.0
    vss.1.1.1.0 vss.1.1.1.1.0)))

pub deallocate_spec : {M : Type 1} → stated.statement M
unfolding tables_of
deallocate_spec 𝓤 𝓛 𝓜 𝓡 wired B W L LW g d dd met md =
    let E : El = record { row = B; laws = L } in
    let Z : Al = record { row = W; laws = LW; g = g; d = d; drops = dd } in
    let 𝓣 : Tables 𝓤 𝓛.H = tables_of 𝓤 𝓛.H 𝓜 (tables 𝓤 𝓛.H 𝓜 𝓡 𝓡.env) in
    entered 𝓤 𝓛.H (triple_of 𝓛 (ended E Z).signature (contract.spec B W g d dd 𝓛 𝓜.mem 𝓡.returns)) 𝓣.C 𝓣.Λ
    (#self (args_of E Z)) (function E Z) (code.unfolded 𝓤 𝓛.H 𝓜 𝓡 wired (B, (W, tt)) d dd)
    (meets E Z 𝓛 𝓜.mem 𝓡.returns 𝓣 (met.deallocate dd))
