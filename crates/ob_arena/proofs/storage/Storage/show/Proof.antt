-- `show` gives a `&` to the body that the storage lends.
use Rattle.ob_arena.proofs.Steps.{◌≡◌, refl, sym, subst, ◌∙◌, ℕ, ◌+◌, ◌*◌, ◌<◌, ◌^◌, List, [], ◌∷◌, ◌++◌, length, get_or, Ura, full_share, SProp, ent, never, id⊢, Lft, Share, ftrue, fat, flft, Fn, named, w64, inst_fn, Val, vptr, vint, Env, Calls, Loops, WpFn, Tables, Logic, fact, tables, tables_of, WpFn-mono, Item, at_ret, ⋆, ‵, ◌⊛◌, ◌$◌, ◌∵◌, !, qed, by, move, keep, skip, use1, split, join, rewrite, fsplit, fjoin, feq_i, feq_l, flt_l, suffices, frame, done, whole, sub, stop, fld, of_opd, bin, size_lit, addr, first, blocks, exec, returns, enter, alloc_all, pass_all, free_all, look_at, get, get_in, through, sets, sets_last, take_at, give_at, env, RefOf, usize, yes, no, hidden_shr, hide, unhide, layout, owns, Ptr, in_a_block, Bor, ShrRef, plain, nothing, spared, Clauses, Ended, closing, on_entry, Meets, triple_of, entered, run_framed, says, needs, Stays, stay_dropped, walk_of, ends_at, Goes-dropped, walk_Meets, Some, None, El, R, args, el_x, word, word-Good, after}
use Rattle.ob_arena.proofs.Cited.{IsFilled, slot_lent, storage_lends}
use Rattle.ob_arena.proofs.StorageMemory.{StorageOf, FrontOf, sz, Slot, pointer_had, filled_within, slot_seen, slot_bytes}
use Rattle.ob_arena.specs.contracts.storage.Storage.show.Key.{name as #self}
use Rattle.ob_arena.proofs.storage.Storage.show.Statement as stated
use Rattle.ob_arena.proofs.storage.Storage.show.Code as code

module _ (E : El) where
  abbrev function : Fn
  function = inst_fn (args E) code.function

  abbrev ended : Ended
  ended = record {
    signature = record {
      lifetimes = 1;
      outlives = [];
      params = RefOf (0 ∷ []) tt (plain (λ _. StorageOf E)) (λ _. tt) ∷ plain (λ _. FrontOf E) ∷ plain (λ _. usize)
          ∷ [];
      result = RefOf (0 ∷ []) tt (plain (λ _. R E)) (λ _. tt);
    };
    kept = (yes, (no, (no, tt)));
  }

  abbrev stayed : Stays ended.signature.params ended.kept
  stayed = (stay_dropped _ yes, (stay_dropped _ no, (stay_dropped _ no, tt)))

  abbrev Asks : (StorageOf E).Denot → (FrontOf E).Denot → ℕ → Type 0
  Asks storage front at = (front.first ≡ storage.front) × IsFilled storage.slots at

  abbrev Gives : (StorageOf E).Denot → ℕ → Bor (el_x E) → Type 0
  Gives storage at r = get_or storage.slots at None ≡ Some r.now

  abbrev spec : {M : Type 1} {𝓤 : Ura M} (𝓛 : Logic 𝓤) → Clauses 𝓤 ended
  spec {𝓤 = 𝓤} 𝓛 κs a = record {
    ghost = Unit {0};
    requires = λ _. fact 𝓤 (Asks a.0.now a.1.0 a.1.1.0);
    ensures = λ _ r w. fact 𝓤 (Gives a.0.now a.1.1.0 r);
  }

module _ (E : El) {M : Type 1} {𝓤 : Ura M} (𝓛 : Logic 𝓤) (C : Calls 𝓤 𝓛.H) (Λ : Loops 𝓤 𝓛.H) (κ : Lft) (q : Share)
    (rb ro : ℕ) (storage : (StorageOf E).Denot) (front : (FrontOf E).Denot) (at : ℕ) (us0 us1 us2 : List Val) where
  open 𝓛 use {H, A}

  abbrev self : Bor (StorageOf E).Denot
  self = record { ref_ptr = (rb, ro); now = storage }

  abbrev bound : (walk_of 𝓛 (ended E) (stayed E) (spec E 𝓛)).Ghost
  bound = (((κ, tt), (q, tt), tt, (self, (front, (at, tt))), (us0, (us1, (us2, tt)))), tt)

  abbrev Post : Val → SProp 𝓤
  Post = (walk_of 𝓛 (ended E) (stayed E) (spec E 𝓛)).post bound

  exits : (r : (ShrRef (named 0) κ (R E)).Denot) (v : Val) → Gives E storage at r
      → ent 𝓤 (⋆ 𝓛 (‵ (flft κ q) ∷ ‵ ((ShrRef (named 0) κ (R E)).own_val r (v ∷ [])) ∷ [])) (Post v)
  exits r v given =
      qed 𝓛 (‵ (flft κ q) ∷ ‵ ((ShrRef (named 0) κ (R E)).own_val r (v ∷ [])) ∷ []) ∵
      suffices ! _ (ends_at 𝓛 (ended E) (stayed E) (spec E 𝓛) bound v r (tt, (tt, (tt, tt))) (tt, (tt, (tt, tt)))) $
      says ! given $
      nothing ! $ move ! (1 ∷ 0 ∷ []) $ join ! $ frame ! $ nothing ! $ nothing ! $ fjoin ! $ nothing ! $ fjoin ! $
      nothing ! $ fjoin ! $ done !

  abbrev Had : List (Item 𝓤)
  Had = ‵ (hidden_shr (StorageOf E) κ storage rb ro) ∷ ‵ (flft κ q) ∷ []

  walk : Asks E storage front at → at < 2 ^ 64 → ent 𝓤 (⋆ 𝓛 Had)
      (WpFn 𝓤 H C Λ (function E) (vptr rb ro ∷ word front.first ∷ vint w64 at ∷ []) Post)
  walk asked fits =
      let x = asked.1.0 in let within = filled_within storage.slots at x asked.1.1 in
      qed 𝓛 Had ∵ enter ! C Λ (function E) (vptr rb ro ∷ word front.first ∷ vint w64 at ∷ []) _ $ alloc_all !
      (λ l. pass_all ! refl ((tt, tt), (word-Good [] front.first, ((tt, record { fits = fits }), tt))) $
      let En : Env 𝓤 H = env (function E).locals l in
      unhide ! $ fsplit ! $ skip ! $ in_a_block ! storage.front (λ p. storage_lends (R E) p storage.slots κ)
      (id⊢ 𝓤 (never 𝓤)) (λ b o e. fsplit ! $ flt_l ! (λ small.
      let s = sz E in let bytes = slot_bytes at (length storage.slots) s within small in
      -- the pointer, at the slot
      take_at ! 2 $ rewrite ! 0 (λ (p : Ptr). ‵ (fat full_share (layout (FrontOf E)) (l 2) 0 (word p))) (asked.0
      ∙ e) refl $ give_at ! 2 $ first ! $ blocks ! $
      sets ! (bin ! (get ! refl) (size_lit ! (record { fits = bytes.0 })) (record { fits = bytes.1 })) refl
      (tt, record { fits = bytes.1 }) $
      sets ! (bin ! (get_in ! (fld ! refl (stop !)) (sub ! 0 refl (whole !))) (get ! refl) tt) refl (tt, tt) $
      -- the body that is lent
      use1 𝓛 (‵ (slot_lent (R E) b (at * s + o) (get_or storage.slots at None) κ))
      (slot_seen E 𝓛 b κ o storage.slots at within) $
      rewrite ! 0 (λ (y : Slot E). ‵ (slot_lent (R E) b (at * s + o) y κ)) asked.1.1 refl $ hide ! $
      sets_last ! (addr ! (through ! refl (stop !))) refl (tt, tt) $ exec !
      C Λ En (after 1 (function E).body) (at_ret En Post) $ sets ! (of_opd ! (get ! refl)) refl (tt, tt) $
      feq_i ! (List Val) (vptr b (at * s + o) ∷ []) (vptr b (at * s + o) ∷ []) refl $ fjoin ! $
      returns ! (look_at ! 0 refl) $ free_all ! refl $ keep ! (1 ∷ 0 ∷ []) $ by !
      (exits (record { ref_ptr = (b, at * s + o); now = x }) (vptr b (at * s + o)) asked.1.1))))

  entry : Asks E storage front at → ent 𝓤 (on_entry 𝓛 (ended E).signature (κ, tt) (q, tt) (
    self,
    (front, (at, tt)),
  ) (us0, (us1, (us2, tt)))) (WpFn 𝓤 H C Λ (function E) (us0 ++ (us1 ++ (us2 ++ []))) Post)
  entry asked =
      qed 𝓛 ((‵ (flft κ q) ⊛ ‵ ftrue) ∷ ‵ (owns (ShrRef (named 0) κ (StorageOf E) ∷ FrontOf E ∷ usize ∷ []) (
        self,
        (front, (at, tt)),
      ) (us0, (us1, (us2, tt)))) ∷ []) ∵
      split ! $ move ! (2 ∷ []) $ fsplit ! $ fsplit ! $ feq_l !
      (λ e0. move ! (1 ∷ []) $ fsplit ! $ pointer_had !
      front.first us1 (λ e1. fsplit ! $ fsplit ! $ feq_l ! (λ e2. flt_l ! (λ fits.
      keep ! (1 ∷ 2 ∷ []) $
      by ! (subst (λ (ws : List Val × List Val × List Val). ent 𝓤 (⋆ 𝓛 Had)
      (WpFn 𝓤 H C Λ (function E) (ws.0 ++ (ws.1 ++ (ws.2 ++ []))) Post)) (λ j. (sym e0 j, sym e1 j, sym e2 j))
      (walk asked fits))))))

meets : (E : El) {M : Type 1} {𝓤 : Ura M} (𝓛 : Logic 𝓤) (𝓣 : Tables 𝓤 𝓛.H)
    → Meets 𝓛 (ended E).signature (WpFn 𝓤 𝓛.H 𝓣.C 𝓣.Λ (function E)) (closing 𝓛 (ended E) (spec E 𝓛))
meets E {𝓤 = 𝓤} 𝓛 𝓣 =
    walk_Meets 𝓛 (ended E) (stayed E) (
      Goes-dropped 𝓛 1 (RefOf (0 ∷ []) tt (plain (λ _. StorageOf E)) (λ _. tt)) yes
          (λ κs x f. refl),
      (
        Goes-dropped 𝓛 1 (plain (λ _. FrontOf E)) no (λ κs x f. refl),
        (Goes-dropped 𝓛 1 (plain (λ _. usize)) no (λ κs x f. refl), tt),
      ),
    )
    (spec E 𝓛) (WpFn 𝓤 𝓛.H 𝓣.C 𝓣.Λ (function E)) (WpFn-mono 𝓤 𝓛.H 𝓛.laws 𝓣 (function E))
    (λ z. let a = z.0.3 in let vss = z.0.4 in needs 𝓤 (Asks E a.0.now a.1.0 a.1.1.0) _
    (entry E 𝓛 𝓣.C 𝓣.Λ z.0.0.0 z.0.1.0 a.0.ref_ptr.0 a.0.ref_ptr.1 a.0.now a.1.0 a.1.1.0 vss.0 vss.1.0 vss.1.1.0))

pub show_spec : {M : Type 1} → stated.statement M
unfolding tables_of
show_spec 𝓤 𝓛 𝓜 𝓡 wired B L y =
    let E : El = record { row = B; laws = L } in
    let 𝓣 : Tables 𝓤 𝓛.H = tables_of 𝓤 𝓛.H 𝓜 (tables 𝓤 𝓛.H 𝓜 𝓡 𝓡.env) in
    let k = #self (args E) in
    spared 𝓛 (ended E).signature (𝓡.run (𝓡.env k)) (run_framed 𝓤 𝓛.H 𝓜 𝓡 (𝓡.env k)) 1 (
      B.lives,
      tt,
    ) (closing 𝓛 (ended E) (spec E 𝓛))
    (entered 𝓤 𝓛.H (triple_of 𝓛 (ended E).signature (closing 𝓛 (ended E) (spec E 𝓛))) 𝓣.C 𝓣.Λ k (function E)
    (code.unfolded 𝓤 𝓛.H 𝓜 𝓡 wired (B, tt)) (meets E 𝓛 𝓣))
    ((y.0.0, y.0.1, tt, y.0.3, y.0.4), y.1)
