-- `fill` writes a body into a slot that is empty.
use Rattle.ob_arena.proofs.Steps.{◌≡◌, refl, sym, subst, ◌∙◌, ℕ, ◌+◌, ◌*◌, ◌<◌, ◌^◌, List, [], ◌∷◌, ◌++◌, length, set, get_or, length-set, Ura, full_share, SProp, ent, never, id⊢, Lft, GName, Share, ftrue, fat, flft, fobs, fbor, Fn, named, w64, inst_fn, Val, vptr, vint, vunit, Env, Calls, Loops, WpFn, Tables, Logic, fact, tables, tables_of, WpFn-mono, Borrowed, Item, at_ret, ⋆, ‵, ◌⊛◌, ◌$◌, ◌∵◌, !, qed, by, move, keep, use1, use2, split, join, rewrite, fsplit, fsplit3, fjoin, fjoin3, feq_i, feq_l, flt_l, flt_i, suffices, frame, done, whole, sub, init, stop, fld, unit_lit, of_opd, bin, size_lit, assigns_last, first, blocks, exec, returns, enter, alloc_all, pass_all, free_all, look_at, get, get_in, through, sets, take_at, give_at, env, RefMutOf, unit, usize, yes, no, mem, layout, owns, Ptr, in_a_block, MutBor, MutRef, plain, nothing, opens, closes, spared, Clauses, Ended, closing, on_entry, Meets, triple_of, entered, run_framed, says, needs, Stays, stay_dropped, stay_ref, walk_of, ends_at, Goes-dropped, Goes-ref, walk_Meets, Some, None, El, R, args, elτ, as_written, Good, word, word-Good, after}
use Rattle.ob_arena.specs.Memory.{slot, slots, storage_owns}
use Rattle.ob_arena.proofs.StorageMemory.{StorageOf, FrontOf, sz, Slot, pointer_had, body_in, body_had, Others, slot_out, slot_in, slot_bytes}
use Rattle.ob_arena.specs.contracts.storage.Storage.fill.Key.{name as #self}
use Rattle.ob_arena.proofs.storage.Storage.fill.Statement as stated
use Rattle.ob_arena.proofs.storage.Storage.fill.Code as code

module _ (E : El) where
  abbrev function : Fn
  function = inst_fn (args E) code.function

  abbrev ended : Ended
  ended = record {
    signature = record {
      lifetimes = 1;
      outlives = [];
      params = RefMutOf (0 ∷ []) tt (plain (λ _. StorageOf E)) (λ _. tt) ∷ plain (λ _. FrontOf E) ∷ plain (λ _. usize)
          ∷ plain (λ _. R E) ∷ [];
      result = plain (λ _. unit);
    };
    kept = (yes, (no, (no, (no, tt))));
  }

  abbrev stayed : Stays ended.signature.params ended.kept
  stayed = (
    stay_ref (0 ∷ []) tt (plain (λ _. StorageOf E)),
    (stay_dropped _ no, (stay_dropped _ no, (stay_dropped _ no, tt))),
  )

  abbrev Asks : (StorageOf E).Denot → (FrontOf E).Denot → ℕ → Type 0
  Asks storage front at = (front.first ≡ storage.front) × (at < length storage.slots)
      × (get_or storage.slots at None ≡ None)

  abbrev Gives : (StorageOf E).Denot → ℕ → (R E).Denot → (StorageOf E).Denot → Type 0
  Gives storage at body new = (new.front ≡ storage.front) × (new.slots ≡ set storage.slots at (Some body))

  abbrev spec : {M : Type 1} {𝓤 : Ura M} (𝓛 : Logic 𝓤) → Clauses 𝓤 ended
  spec {𝓤 = 𝓤} 𝓛 κs a = record {
    ghost = Unit {0};
    requires = λ _. fact 𝓤 (Asks a.0.now a.1.0 a.1.1.0);
    ensures = λ _ r w. fact 𝓤 (Gives a.0.now a.1.1.0 a.1.1.1.0 w.0.now);
  }

module _ (E : El) {M : Type 1} {𝓤 : Ura M} (𝓛 : Logic 𝓤) (C : Calls 𝓤 𝓛.H) (Λ : Loops 𝓤 𝓛.H) (κ : Lft) (q : Share)
    (rb ro : ℕ) (γ : GName) (storage : (StorageOf E).Denot) (front : (FrontOf E).Denot) (at : ℕ) (body : (R E).Denot)
    (us0 us1 us2 us3 : List Val) where
  open 𝓛 use {H, A}

  abbrev self : MutBor (StorageOf E).Denot
  self = record { ref_ptr = (rb, ro); ghost_name = γ; now = storage }

  abbrev bound : (walk_of 𝓛 (ended E) (stayed E) (spec E 𝓛)).Ghost
  bound = (((κ, tt), (q, tt), tt, (self, (front, (at, (body, tt)))), (us0, (us1, (us2, (us3, tt))))), tt)

  abbrev Post : Val → SProp 𝓤
  Post = (walk_of 𝓛 (ended E) (stayed E) (spec E 𝓛)).post bound

  exits : us0 ≡ vptr rb ro ∷ [] → (v : Val) (new : (StorageOf E).Denot) → Gives E storage at body new
      → ent 𝓤 (⋆ 𝓛 (‵ (fobs γ ((StorageOf E).coded.code new)) ∷ ‵ (fbor κ (Borrowed (mem (StorageOf E)) rb ro γ))
      ∷ ‵ (flft κ q) ∷ ‵ ((unit).own_val tt (v ∷ [])) ∷ [])) (Post v)
  exits passed v new given =
      qed 𝓛 (‵ (fobs γ ((StorageOf E).coded.code new)) ∷ ‵ (fbor κ (Borrowed (mem (StorageOf E)) rb ro γ))
      ∷ ‵ (flft κ q) ∷ ‵ ((unit).own_val tt (v ∷ [])) ∷ []) ∵
      suffices ! _ (ends_at 𝓛 (ended E) (stayed E) (spec E 𝓛) bound v tt (new, (tt, (tt, (tt, tt)))) (
        tt,
        (tt, (tt, (tt, tt))),
      )) $ says ! given $
      nothing ! $ move ! (3 ∷ 0 ∷ []) $ join ! $ frame ! $ feq_i ! (List Val) us0 (vptr rb ro ∷ []) passed $ fjoin3 ! $
      nothing ! $ nothing ! $ fjoin ! $ nothing ! $ fjoin ! $ nothing ! $ fjoin ! $ move ! (1 ∷ 0 ∷ []) $ fjoin ! $
      done !

  abbrev Had : Val → List (Item 𝓤)
  Had v = ‵ (fobs γ ((StorageOf E).coded.code storage)) ∷ ‵ (fbor κ (Borrowed (mem (StorageOf E)) rb ro γ))
      ∷ ‵ (flft κ q) ∷ ‵ ((R E).own_val body (v ∷ [])) ∷ []

  walk : us0 ≡ vptr rb ro ∷ [] → Asks E storage front at → at < 2 ^ 64 → (v : Val) → Good (layout (R E)) v
      → ent 𝓤 (⋆ 𝓛 (Had v)) (WpFn 𝓤 H C Λ (function E) (vptr rb ro ∷ word front.first ∷ vint w64 at ∷ v ∷ []) Post)
  walk passed asked fits v good =
      let within = asked.1 in
      let new : (StorageOf E).Denot = record {
        mark = storage.mark;
        front = storage.front;
        slots = set storage.slots at (Some body);
      } in
      qed 𝓛 (Had v) ∵ enter ! C Λ (function E) (vptr rb ro ∷ word front.first ∷ vint w64 at ∷ v ∷ []) _ $ alloc_all !
      (λ l. pass_all ! refl ((tt, tt), (word-Good [] front.first, ((tt, record { fits = fits }), (good, tt)))) $
      let En : Env 𝓤 H = env (function E).locals l in
      opens ! tt (StorageOf E) {h = storage} rb ro (λ vs. move ! (1 ∷ []) $ fsplit ! $ move ! (1 ∷ []) $
      in_a_block ! storage.front (λ p. storage_owns (R E) p storage.slots) (id⊢ 𝓤 (never 𝓤)) (λ b o e. fsplit ! $
      flt_l ! (λ small.
      let s = sz E in let bytes = slot_bytes at (length storage.slots) s within small in
      -- the pointer, at the slot
      take_at ! 2 $ rewrite ! 0 (λ (p : Ptr). ‵ (fat full_share (layout (FrontOf E)) (l 2) 0 (word p))) (asked.0
      ∙ e) refl $ give_at ! 2 $ first ! $ blocks ! $
      sets ! (bin ! (get ! refl) (size_lit ! (record { fits = bytes.0 })) (record { fits = bytes.1 })) refl
      (tt, record { fits = bytes.1 }) $
      sets ! (bin ! (get_in ! (fld ! refl (stop !)) (sub ! 0 refl (whole !))) (get ! refl) tt) refl (tt, tt) $
      -- the room of the slot, and the write
      use1 𝓛 (‵ (slot (R E) b (at * s + o) (get_or storage.slots at None)) ⊛ ‵ (Others E 𝓛 b o storage.slots at))
      (slot_out E 𝓛 b o storage.slots at within) $ split ! $
      rewrite ! 0 (λ (x : Slot E). ‵ (slot (R E) b (at * s + o) x)) asked.2 refl $ as_written ! (elτ E) b (at * s + o) $
      sets ! (of_opd ! (get ! refl)) refl good $ assigns_last !
      (of_opd ! (get ! refl)) (through ! refl (stop !)) (init ! 0 refl good) $
      exec ! C Λ En (after 1 (function E).body) (at_ret En Post) $ sets ! (of_opd ! (unit_lit !)) refl (tt, tt) $
      -- the storage with the body
      move ! (0 ∷ 7 ∷ []) $ use2 𝓛 (‵ (slot (R E) b (at * s + o) (Some body)))
      (body_in 0 E.row E.laws 𝓛 body b (at * s + o) v) $
      use2 𝓛 (‵ (slots (R E) b o new.slots)) (slot_in E 𝓛 b o storage.slots at within (Some body)) $
      flt_i ! (length new.slots * s) (2 ^ 63) (subst (λ k. k * s < 2 ^ 63)
      (sym (length-set storage.slots at (Some body))) small) $ fjoin ! $
      rewrite ! 0 (λ (p : Ptr). ‵ (storage_owns (R E) p new.slots)) (sym e) refl $ move ! (1 ∷ 0 ∷ []) $ fjoin ! $
      move ! (1 ∷ 0 ∷ []) $ closes ! tt (StorageOf E) new vs rb ro $
      returns ! (look_at ! 0 refl) $ free_all ! refl $ keep ! (0 ∷ 1 ∷ 2 ∷ []) $ feq_i !
      (List Val) (vunit ∷ []) (vunit ∷ []) refl $ move ! (1 ∷ 2 ∷ 3 ∷ 0 ∷ []) $
      by ! (exits passed vunit new (refl, refl))))))

  entry : Asks E storage front at → ent 𝓤 (on_entry 𝓛 (ended E).signature (κ, tt) (q, tt) (
    self,
    (front, (at, (body, tt))),
  ) (us0, (us1, (us2, (us3, tt)))))
      (WpFn 𝓤 H C Λ (function E) (us0 ++ (us1 ++ (us2 ++ (us3 ++ [])))) Post)
  entry asked =
      qed 𝓛 ((‵ (flft κ q) ⊛ ‵ ftrue) ∷ ‵ (owns (MutRef (named 0) κ (StorageOf E) ∷ FrontOf E ∷ usize ∷ R E ∷ []) (
        self,
        (front, (at, (body, tt))),
      ) (us0, (us1, (us2, (us3, tt))))) ∷ []) ∵
      split ! $ move ! (2 ∷ []) $ fsplit ! $ fsplit3 ! $ feq_l !
      (λ e0. move ! (2 ∷ []) $ fsplit ! $ pointer_had !
      front.first us1 (λ e1. fsplit ! $ fsplit ! $ feq_l ! (λ e2. flt_l ! (λ fits.
      fsplit ! $ body_had E.row E.laws ! body us3 (λ v e3 good. keep ! (2 ∷ 3 ∷ 4 ∷ 0 ∷ []) $
      by ! (subst (λ (ws : List Val × List Val × List Val
      × List Val). ent 𝓤 (⋆ 𝓛 (Had v)) (WpFn 𝓤 H C Λ (function E) (ws.0 ++ (ws.1 ++ (ws.2 ++ (ws.3 ++ [])))) Post))
      (λ j. (sym e0 j, sym e1 j, sym e2 j, sym e3 j)) (walk e0 asked fits v good)))))))

meets : (E : El) {M : Type 1} {𝓤 : Ura M} (𝓛 : Logic 𝓤) (𝓣 : Tables 𝓤 𝓛.H)
    → Meets 𝓛 (ended E).signature (WpFn 𝓤 𝓛.H 𝓣.C 𝓣.Λ (function E)) (closing 𝓛 (ended E) (spec E 𝓛))
meets E {𝓤 = 𝓤} 𝓛 𝓣 =
    walk_Meets 𝓛 (ended E) (stayed E) (
      Goes-ref 𝓛 1 0 tt (plain (λ _. StorageOf E)),
      (
        Goes-dropped 𝓛 1 (plain (λ _. FrontOf E)) no (λ κs x f. refl),
        (
          Goes-dropped 𝓛 1 (plain (λ _. usize)) no (λ κs x f. refl),
          (Goes-dropped 𝓛 1 (plain (λ _. R E)) no (λ κs x f. refl), tt),
        ),
      ),
    )
    (spec E 𝓛) (WpFn 𝓤 𝓛.H 𝓣.C 𝓣.Λ (function E)) (WpFn-mono 𝓤 𝓛.H 𝓛.laws 𝓣 (function E))
    (λ z. let a = z.0.3 in let vss = z.0.4 in needs 𝓤 (Asks E a.0.now a.1.0 a.1.1.0) _
    (entry E 𝓛 𝓣.C 𝓣.Λ z.0.0.0 z.0.1.0 a.0.ref_ptr.0 a.0.ref_ptr.1 a.0.ghost_name a.0.now a.1.0 a.1.1.0 a.1.1.1.0 vss.0
    vss.1.0 vss.1.1.0 vss.1.1.1.0))

pub fill_spec : {M : Type 1} → stated.statement M
unfolding tables_of
fill_spec 𝓤 𝓛 𝓜 𝓡 wired B L y =
    let E : El = record { row = B; laws = L } in
    let 𝓣 : Tables 𝓤 𝓛.H = tables_of 𝓤 𝓛.H 𝓜 (tables 𝓤 𝓛.H 𝓜 𝓡 𝓡.env) in
    let k = #self (args E) in
    spared 𝓛 (ended E).signature (𝓡.run (𝓡.env k)) (run_framed 𝓤 𝓛.H 𝓜 𝓡 (𝓡.env k)) 1 (
      B.lives,
      tt,
    ) (closing 𝓛 (ended E) (spec E 𝓛))
    (entered 𝓤 𝓛.H (triple_of 𝓛 (ended E).signature (closing 𝓛 (ended E) (spec E 𝓛))) 𝓣.C 𝓣.Λ k (function E)
    (code.unfolded 𝓤 𝓛.H 𝓜 𝓡 wired (B, tt)) (meets E 𝓛 𝓣))
    ((y.0.0, y.0.1, tt, y.0.3, y.0.4), y.1)
