-- `lend` gives a `&mut` to a body, and the storage follows what is written there.
use Rattle.ob_arena.proofs.Steps.{◌≡◌, refl, sym, subst, ◌∙◌, ℕ, ◌+◌, ◌*◌, ◌<◌, ◌^◌, List, [], ◌∷◌, ◌++◌, length, set, get_or, length-set, Ura, full_share, SProp, ent, sep, never, id⊢, Lft, GName, Share, Fml, ftrue, fsep, fat, flft, fobs, fbor, Fn, named, w64, inst_fn, Val, vptr, vint, Env, Calls, Loops, WpFn, Tables, Logic, sem, fact, tables, tables_of, WpFn-mono, Borrowed, Item, at_ret, ⋆, ‵, raw, ◌⊛◌, some, later, await, pick, group, ◌$◌, ◌∵◌, !, qed, by, move, keep, use1, use2, split, join, rewrite, fsplit, fsplit3, fjoin, fjoin3, fpack, feq_l, flt_l, flt_i, suffices, frame, done, whole, sub, stop, fld, of_opd, bin, size_lit, addr, first, blocks, exec, returns, enter, alloc_all, pass_all, free_all, look_at, get, get_in, through, sets, sets_last, take_at, give_at, env, RefMutOf, usize, no, mem, cell_at, part_of, layout, owns, Ptr, block_ptr, in_a_block, MutBor, MutRef, plain, nothing, opens, spared, follows, Part, lends_Part, Clauses, Ended, closing, on_entry, Meets, triple_of, entered, run_framed, says, needs, Stays, stay_dropped, walk_of, ends_at, Goes-dropped, Goes-spent_ref, walk_Meets, Some, None, El, R, args, el_x, word, word-Good, after}
use Rattle.ob_arena.proofs.Cited.{IsFilled, slot, slots, storage_owns}
use Rattle.ob_arena.specs.StorageLends.{with_slots}
use Rattle.ob_arena.proofs.StorageMemory.{StorageOf, FrontOf, Mark, sz, Slot, pointer_had, filled_within, Others, slot_out, slot_in, slot_bytes}
use Rattle.ob_arena.specs.contracts.storage.Storage.lend.Key.{name as #self}
use Rattle.ob_arena.proofs.storage.Storage.lend.Statement as stated
use Rattle.ob_arena.proofs.storage.Storage.lend.Code as code

module _ (E : El) where
  abbrev function : Fn
  function = inst_fn (args E) code.function

  abbrev ended : Ended
  ended = record {
    signature = record {
      lifetimes = 1;
      outlives = [];
      params = RefMutOf (0 ∷ []) tt (plain (λ _. StorageOf E)) (λ _. tt) ∷ plain (λ _. FrontOf E) ∷ plain (λ _. usize)
          ∷ [];
      result = RefMutOf (0 ∷ []) tt (plain (λ _. R E)) (λ _. tt);
    };
    kept = (no, (no, (no, tt)));
  }

  abbrev stayed : Stays ended.signature.params ended.kept
  stayed = (stay_dropped _ no, (stay_dropped _ no, (stay_dropped _ no, tt)))

  abbrev Asks : (StorageOf E).Denot → (FrontOf E).Denot → ℕ → Type 0
  Asks storage front at = (front.first ≡ storage.front) × IsFilled storage.slots at

  abbrev Gives : (StorageOf E).Denot → ℕ → MutBor (el_x E) → Type 0
  Gives storage at r = get_or storage.slots at None ≡ Some r.now

  abbrev spec : {M : Type 1} {𝓤 : Ura M} (𝓛 : Logic 𝓤) → Clauses 𝓤 ended
  spec {𝓤 = 𝓤} 𝓛 κs a = record {
    ghost = Unit {0};
    requires = λ _. fact 𝓤 (Asks a.0.now a.1.0 a.1.1.0);
    ensures = λ _ r w. sep 𝓤 (sem 𝓛 (follows (StorageOf E) (R E) a.0.ghost_name r.ghost_name
        (λ body. with_slots a.0.now (set a.0.now.slots a.1.1.0 (Some body))))) (fact 𝓤 (Gives a.0.now a.1.1.0 r));
  }

module _ (E : El) {M : Type 1} {𝓤 : Ura M} (𝓛 : Logic 𝓤) (C : Calls 𝓤 𝓛.H) (Λ : Loops 𝓤 𝓛.H) (κ : Lft) (q : Share)
    (rb ro : ℕ) (γ : GName) (storage : (StorageOf E).Denot) (front : (FrontOf E).Denot) (at : ℕ)
    (us0 us1 us2 : List Val) where
  open 𝓛 use {H, A}

  abbrev self : MutBor (StorageOf E).Denot
  self = record { ref_ptr = (rb, ro); ghost_name = γ; now = storage }

  abbrev bound : (walk_of 𝓛 (ended E) (stayed E) (spec E 𝓛)).Ghost
  bound = (((κ, tt), (q, tt), tt, (self, (front, (at, tt))), (us0, (us1, (us2, tt)))), tt)

  abbrev Post : Val → SProp 𝓤
  Post = (walk_of 𝓛 (ended E) (stayed E) (spec E 𝓛)).post bound

  abbrev new : el_x E → (StorageOf E).Denot
  new body = with_slots storage (set storage.slots at (Some body))

  module _ (vs : List Val) (b o : ℕ) where
    -- the storage but for the body
    abbrev Rest : Fml
    Rest = fsep (Others E 𝓛 b o storage.slots at) (fsep ((Mark E).own_val (tt, tt) vs)
        (cell_at full_share (StorageOf E).mir vs rb ro))

    -- and the storage again, with the body that was written last
    back : storage.front ≡ block_ptr b o → at < length storage.slots → length storage.slots * sz E < 2 ^ 63
        → (body : el_x E) → ent 𝓤 (sep 𝓤 (sem 𝓛 ((mem (R E)).own_at body b (at * sz E + o))) (sem 𝓛 Rest))
        (sem 𝓛 ((mem (StorageOf E)).own_at (new body) rb ro))
    unfolding part_of
    back e within small body =
        let long = length-set storage.slots at (Some body) in
        qed 𝓛 (‵ (slot (R E) b (at * sz E + o) (Some body)) ∷ ‵ Rest ∷ []) ∵ move ! (1 ∷ []) $ fsplit3 ! $ move !
        (3 ∷ 0 ∷ []) $
        use2 𝓛 (‵ (slots (R E) b o (new body).slots)) (slot_in E 𝓛 b o storage.slots at within (Some body)) $
        flt_i ! (length (new body).slots * sz E) (2 ^ 63) (subst (λ k. k * sz E < 2 ^ 63) (sym long) small) $ fjoin ! $
        rewrite ! 0 (λ (p : Ptr). ‵ (storage_owns (R E) p (new body).slots)) (sym e) refl $ move ! (1 ∷ 0 ∷ []) $
        fjoin ! $ move ! (1 ∷ 0 ∷ []) $ fjoin ! $
        fpack ! (List Val) (λ us. fsep (cell_at full_share (StorageOf E).mir us rb ro)
        ((StorageOf E).own_val (new body) us)) vs $ done !

  exits : (v : Val) (r : MutBor (el_x E)) → Gives E storage at r
      → ent 𝓤 (sep 𝓤 (sem 𝓛 ((MutRef (named 0) κ (R E)).own_val r (v ∷ [])))
      (sep 𝓤 (A.lft κ q) (sem 𝓛 (follows (StorageOf E) (R E) γ r.ghost_name new)))) (Post v)
  exits v r given =
      qed 𝓛 (‵ ((MutRef (named 0) κ (R E)).own_val r (v ∷ [])) ∷ ‵ (flft κ q)
      ∷ ‵ (follows (StorageOf E) (R E) γ r.ghost_name new) ∷ []) ∵
      suffices ! _ (ends_at 𝓛 (ended E) (stayed E) (spec E 𝓛) bound v r (tt, (tt, (tt, tt))) (tt, (tt, (tt, tt)))) $
      nothing ! $ nothing ! $ fjoin ! $ nothing ! $ fjoin ! $ nothing ! $ fjoin ! $ join ! $ nothing ! $ move !
      (2 ∷ 0 ∷ []) $ join ! $ join ! $ frame ! $ says ! given $ done !

  abbrev Had : List (Item 𝓤)
  Had = ‵ (fobs γ ((StorageOf E).coded.code storage)) ∷ ‵ (fbor κ (Borrowed (mem (StorageOf E)) rb ro γ)) ∷ ‵ (flft κ q)
      ∷ []

  walk : Asks E storage front at → at < 2 ^ 64 → ent 𝓤 (⋆ 𝓛 Had)
      (WpFn 𝓤 H C Λ (function E) (vptr rb ro ∷ word front.first ∷ vint w64 at ∷ []) Post)
  walk asked fits =
      let x = asked.1.0 in let within = filled_within storage.slots at x asked.1.1 in
      let code = (StorageOf E).coded.code storage in
      qed 𝓛 Had ∵ enter ! C Λ (function E) (vptr rb ro ∷ word front.first ∷ vint w64 at ∷ []) _ $ alloc_all !
      (λ l. pass_all ! refl ((tt, tt), (word-Good [] front.first, ((tt, record { fits = fits }), tt))) $
      let En : Env 𝓤 H = env (function E).locals l in
      opens ! tt (StorageOf E) {h = storage} rb ro (λ vs. move ! (1 ∷ []) $ fsplit ! $ move ! (1 ∷ []) $
      in_a_block ! storage.front (λ p. storage_owns (R E) p storage.slots) (id⊢ 𝓤 (never 𝓤)) (λ b o e. fsplit ! $
      flt_l ! (λ small.
      let s = sz E in let bytes = slot_bytes at (length storage.slots) s within small in
      -- the pointer, at the slot
      take_at ! 2 $ rewrite ! 0 (λ (p : Ptr). ‵ (fat full_share (layout (FrontOf E)) (l 2) 0 (word p))) (asked.0
      ∙ e) refl $ give_at ! 2 $ first ! $ blocks ! $
      sets ! (bin ! (get ! refl) (size_lit ! (record { fits = bytes.0 })) (record { fits = bytes.1 })) refl
      (tt, record { fits = bytes.1 }) $
      sets ! (bin ! (get_in ! (fld ! refl (stop !)) (sub ! 0 refl (whole !))) (get ! refl) tt) refl (tt, tt) $
      -- the body of the slot, and the loan
      use1 𝓛 (‵ (slot (R E) b (at * s + o) (get_or storage.slots at None)) ⊛ ‵ (Others E 𝓛 b o storage.slots at))
      (slot_out E 𝓛 b o storage.slots at within) $ split ! $
      rewrite ! 0 (λ (y : Slot E). ‵ (slot (R E) b (at * s + o) y)) asked.1.1 refl $
      let way = back vs b o e within small in let place = at * s + o in
      sets_last ! (addr ! (through ! refl (stop !))) refl (tt, tt) $ exec !
      C Λ En (after 1 (function E).body) (at_ret En Post) $ sets ! (of_opd ! (get ! refl)) refl (tt, tt) $
      move ! (1 ∷ 2 ∷ 3 ∷ []) $ fjoin3 ! $ move ! (2 ∷ 3 ∷ 4 ∷ 1 ∷ 0 ∷ []) $ group ! 5 $
      use1 𝓛 (later (some (λ (δ : GName). raw (Part 𝓛 (StorageOf E) (R E) new (named 0) κ q rb ro b place γ
      (sem 𝓛 (Rest vs b o)) way x δ))))
      (lends_Part 𝓛 (StorageOf E) (R E) new (named 0) κ q rb ro b place γ (sem 𝓛 (Rest vs b o)) way code code x) $
      await ! tt $ pick ! (λ δ.
      returns ! (look_at ! 0 refl) $ free_all ! refl $ keep ! (0 ∷ []) $ by !
      (exits (vptr b place) (record { ref_ptr = (b, place); ghost_name = δ; now = x }) asked.1.1))))))

  entry : Asks E storage front at → ent 𝓤 (on_entry 𝓛 (ended E).signature (κ, tt) (q, tt) (
    self,
    (front, (at, tt)),
  ) (us0, (us1, (us2, tt)))) (WpFn 𝓤 H C Λ (function E) (us0 ++ (us1 ++ (us2 ++ []))) Post)
  entry asked =
      qed 𝓛 ((‵ (flft κ q) ⊛ ‵ ftrue) ∷ ‵ (owns (MutRef (named 0) κ (StorageOf E) ∷ FrontOf E ∷ usize ∷ []) (
        self,
        (front, (at, tt)),
      ) (us0, (us1, (us2, tt)))) ∷ []) ∵
      split ! $ move ! (2 ∷ []) $ fsplit ! $ fsplit3 ! $ feq_l !
      (λ e0. move ! (2 ∷ []) $ fsplit ! $ pointer_had !
      front.first us1 (λ e1. fsplit ! $ fsplit ! $ feq_l ! (λ e2. flt_l ! (λ fits.
      keep ! (1 ∷ 2 ∷ 3 ∷ []) $
      by ! (subst (λ (ws : List Val × List Val × List Val). ent 𝓤 (⋆ 𝓛 Had)
      (WpFn 𝓤 H C Λ (function E) (ws.0 ++ (ws.1 ++ (ws.2 ++ []))) Post)) (λ j. (sym e0 j, sym e1 j, sym e2 j))
      (walk asked fits))))))

meets : (E : El) {M : Type 1} {𝓤 : Ura M} (𝓛 : Logic 𝓤) (𝓣 : Tables 𝓤 𝓛.H)
    → Meets 𝓛 (ended E).signature (WpFn 𝓤 𝓛.H 𝓣.C 𝓣.Λ (function E)) (closing 𝓛 (ended E) (spec E 𝓛))
meets E {𝓤 = 𝓤} 𝓛 𝓣 =
    walk_Meets 𝓛 (ended E) (stayed E) (
      Goes-spent_ref 𝓛 1 (0 ∷ []) tt (plain (λ _. StorageOf E)),
      (
        Goes-dropped 𝓛 1 (plain (λ _. FrontOf E)) no (λ κs x f. refl),
        (Goes-dropped 𝓛 1 (plain (λ _. usize)) no (λ κs x f. refl), tt),
      ),
    )
    (spec E 𝓛) (WpFn 𝓤 𝓛.H 𝓣.C 𝓣.Λ (function E)) (WpFn-mono 𝓤 𝓛.H 𝓛.laws 𝓣 (function E))
    (λ z. let a = z.0.3 in let vss = z.0.4 in needs 𝓤 (Asks E a.0.now a.1.0 a.1.1.0) _
    (entry E 𝓛 𝓣.C 𝓣.Λ z.0.0.0 z.0.1.0 a.0.ref_ptr.0 a.0.ref_ptr.1 a.0.ghost_name a.0.now a.1.0 a.1.1.0 vss.0 vss.1.0
    vss.1.1.0))

pub lend_spec : {M : Type 1} → stated.statement M
unfolding tables_of
lend_spec 𝓤 𝓛 𝓜 𝓡 wired B L y =
    let E : El = record { row = B; laws = L } in
    let 𝓣 : Tables 𝓤 𝓛.H = tables_of 𝓤 𝓛.H 𝓜 (tables 𝓤 𝓛.H 𝓜 𝓡 𝓡.env) in
    let k = #self (args E) in
    spared 𝓛 (ended E).signature (𝓡.run (𝓡.env k)) (run_framed 𝓤 𝓛.H 𝓜 𝓡 (𝓡.env k)) 1 (
      B.lives,
      tt,
    ) (closing 𝓛 (ended E) (spec E 𝓛))
    (entered 𝓤 𝓛.H (triple_of 𝓛 (ended E).signature (closing 𝓛 (ended E) (spec E 𝓛))) 𝓣.C 𝓣.Λ k (function E)
    (code.unfolded 𝓤 𝓛.H 𝓜 𝓡 wired (B, tt)) (meets E 𝓛 𝓣))
    ((y.0.0, y.0.1, tt, y.0.3, y.0.4), y.1)
