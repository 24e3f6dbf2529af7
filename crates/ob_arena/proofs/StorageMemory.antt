-- The storage of slots as memory: a slot is taken out of it, put back, or seen; and what values of no bytes, of one
-- pointer and of three parts are to the machine.
use Rattle.ob_arena.proofs.Steps.{◌≡◌, refl, sym, ap, subst, ◌∙◌, ℕ, zero, suc, ◌+◌, ◌*◌, ◌<◌, ◌^◌, arith, zero-mul, List, [], ◌∷◌, ◌++◌, length, set, get_or, replicate, Ura, full_share, SProp, ent, sep, emp, ex, guard, via, Fml, Lft, ftrue, fsep, fat, froom, Ty, Args, a_type, ty_array, dcons, dnil, bare, Val, vstruct, vcons, vnil, of_list, size, align, capped, size-raw, align-raw, Logic, sem, fact, fact_i, Item, Goal, Seq, Step, step, prop, ‵, raw, some, ◌⊛◌, ◌$◌, ◌∵◌, !, qed, by, move, keep, skip, use0, use1, use2, pick, split, check, show, frame, fsplit, fjoin, fpick, fpack, feq_i, feq_l, rewrite, done, RattleType, Valss, Typed, Is, shows, param, bounded, layout, Laws, param_laws, part_at, Ptr, RawPtr, ptr_val, makes_shadow, nothing, peeks, Shape, Struct, within, shape, Tuple, tuple_type, part_in, part_out, Option, Some, None, type_size, El, R, el_x, elτ, Good, word, times_below, one_below}
use denote.Struct.Declared as Declared
use Rattle.ob_arena.proofs.Cited.{Al, slot, slots, slot_lent, slots_lent}
use Rattle.ob_arena.specs.contracts.storage.Storage as StorageType
use Rattle.ob_arena.specs.contracts.storage.Front as FrontType

module _ (E : El) where
  abbrev pub StorageOf : RattleType
  StorageOf = StorageType.the_row (R E)

  abbrev pub FrontOf : RattleType
  FrontOf = FrontType.the_row (R E)

  -- the field of a storage, which has no bytes
  abbrev pub Mark : RattleType
  Mark = Struct (shape (StorageType.the_type (R E)))

  -- the bytes of a slot
  abbrev pub sz : ℕ
  sz = type_size (R E)

  abbrev pub Slot : Type 0
  Slot = Option (el_x E)

abbrev one_pointer : Shape
one_pointer = record { name = []; args = []; types = []; fields = RawPtr ∷ [] }

abbrev Pointer : RattleType
Pointer = Struct one_pointer

abbrev pub mark : Val
mark = vstruct (vcons (vstruct vnil) vnil)

pub mark_made : (E : El) {M : Type 1} {𝓤 : Ura M} (𝓛 : Logic 𝓤)
    → ent 𝓤 (emp 𝓤) (sem 𝓛 ((Mark E).own_val (tt, tt) (mark ∷ [])))
mark_made E 𝓛 = makes_shadow 𝓛 ((Mark E).own_val (tt, tt) (mark ∷ [])) (λ vss. (tt, ((λ uss. (tt, tt)), tt)))
    ((vstruct vnil ∷ [], tt), (refl, ((tt, (refl, tt)), tt)))

module _ {M : Type 1} {𝓤 : Ura M} {𝓛 : Logic 𝓤} {K : Type 0} {Γ : List (Item 𝓤)} {G : Goal 𝓤 𝓛.H} where
  -- a pointer is one machine word
  pub pointer_had : K → (p : Ptr) (vs : List Val) → (vs ≡ word p ∷ [] → Seq K 𝓛 Γ G)
      → Seq K 𝓛 (‵ (Pointer.own_val (p, tt) vs) ∷ Γ) G
  pointer_had t p vs k = fpick t (λ parts. fsplit t $
      feq_l t (λ whole. fsplit t $ feq_l t (λ part. skip t $
      k (subst (λ (ws : List Val). vs ≡ vstruct (of_list (ws ++ [])) ∷ []) part whole))))

  pub pointer_made : K → (p : Ptr) → Step K 𝓛 (‵ (Pointer.own_val (p, tt) (word p ∷ [])) ∷ Γ) G Γ G
  pointer_made t p = step (λ s.
      nothing t $ feq_i t (List Val) (ptr_val p ∷ []) (ptr_val p ∷ []) refl $ fjoin t $
      feq_i t (List Val) (word p ∷ []) (word p ∷ []) refl $ fjoin t $
      fpack t (Valss (RawPtr ∷ [])) (within one_pointer (p, tt) (word p ∷ [])) (ptr_val p ∷ [], tt) $ s)

  pub mark_had : K → (E : El) (vs : List Val) → (vs ≡ mark ∷ [] → Seq K 𝓛 Γ G)
      → Seq K 𝓛 (‵ ((Mark E).own_val (tt, tt) vs) ∷ Γ) G
  mark_had t E vs k = fpick t (λ parts. fsplit t $
      feq_l t (λ whole. fsplit t $ fpick t (λ inner. fsplit t $ feq_l t (λ part. skip t $ skip t $
      k (subst (λ (ws : List Val). vs ≡ vstruct (of_list (ws ++ [])) ∷ []) part whole)))))

module _ {M : Type 1} {𝓤 : Ura M} {𝓛 : Logic 𝓤} {K : Type 0} {Γ : List (Item 𝓤)} where
  -- two clauses at the end
  pub says_both : K → {φ ψ : Type 0} {P : SProp 𝓤} → φ → ψ
      → Step K 𝓛 Γ (prop P) Γ (prop (sep 𝓤 P (sep 𝓤 (fact 𝓤 φ) (fact 𝓤 ψ))))
  says_both t {φ} {ψ} {P} x y = step (λ s. record {
    prf = via 𝓤 P s.prf (qed 𝓛 (raw P ∷ []) {P = sep 𝓤 P (sep 𝓤 (fact 𝓤 φ) (fact 𝓤 ψ))} (
        frame ! $ use0 𝓛 (raw (fact 𝓤 ψ)) (fact_i 𝓤 ψ (emp 𝓤) y) $ use0 𝓛 (raw (fact 𝓤 φ)) (fact_i 𝓤 φ (emp 𝓤) x) $
        done !));
  })

-- a body in memory is a cell with its machine value, and what it owns
module _ (i : ℕ) (B : RattleType) (L : Laws B) {M : Type 1} {𝓤 : Ura M} (𝓛 : Logic 𝓤) where
  open 𝓛 use {H}

  pub body_out : (x : B.Denot) (b o : ℕ) → ent 𝓤 (sem 𝓛 (part_at (param i B) full_share x b o))
      (ex 𝓤 (λ (v : Val). guard 𝓤 (Good (layout B) v)
      (sep 𝓤 (H.at full_share (layout B) b o v) (sem 𝓛 (B.own_val x (v ∷ []))))))
  body_out x b o = qed 𝓛 (‵ (part_at (param i B) full_share x b o) ∷ []) ∵
      use1 𝓛 (some (λ (v : Val). ‵ (fat full_share (layout B) b o v) ⊛ ‵ (B.own_val x (v ∷ []))))
      (part_out 𝓛 (param i B) refl full_share x b o) $ pick ! (λ v. split ! $ move ! (1 ∷ []) $
      peeks ! (param i B) (Is (param i B)) (shows 𝓛 (param i B)) x (v ∷ []) (λ is.
      show ! (λ (w : Val). guard 𝓤 (Good (layout B) w)
      (sep 𝓤 (H.at full_share (layout B) b o w) (sem 𝓛 (B.own_val x (w ∷ []))))) v $ check !
      (((param_laws i B L).lawful 𝓛).typed x (v ∷ []) is).0 $ move ! (1 ∷ 0 ∷ []) $ done !))

  pub body_in : (x : B.Denot) (b o : ℕ) (v : Val) →
      ent 𝓤 (sep 𝓤 (H.at full_share (layout B) b o v) (sem 𝓛 (B.own_val x (v ∷ []))))
      (sem 𝓛 (part_at (param i B) full_share x b o))
  body_in x b o v = part_in 𝓛 (param i B) refl full_share x b o v

one_value : (τ : Ty) (vs : List Val) → Typed (τ ∷ []) vs → (v : Val) × ((vs ≡ v ∷ []) × Good τ v)
one_value τ [] t = absurd t
one_value τ (v ∷ []) t = (v, (refl, t.0))
one_value τ (v ∷ w ∷ vs) t = absurd t.1

module _ (B : RattleType) (L : Laws B) {M : Type 1} {𝓤 : Ura M} {𝓛 : Logic 𝓤} {K : Type 0} {Γ : List (Item 𝓤)}
    {G : Goal 𝓤 𝓛.H} where
  -- a body that is passed is one machine value, of its type
  pub body_had : K → (x : B.Denot) (vs : List Val)
      → ((v : Val) → vs ≡ v ∷ [] → Good (layout B) v → Seq K 𝓛 (‵ (B.own_val x (v ∷ [])) ∷ Γ) G)
      → Seq K 𝓛 (‵ (B.own_val x vs) ∷ Γ) G
  body_had t x vs k =
      peeks t (param 0 B) (Is (param 0 B)) (shows 𝓛 (param 0 B)) x vs (λ is.
      let one = one_value (layout B) vs (((param_laws 0 B L).lawful 𝓛).typed x vs is) in
      rewrite t 0 (λ (us : List Val). ‵ (B.own_val x us)) one.1.0 refl $ k one.0 one.1.0 one.1.1)

abbrev pub three_parts : Val → Val → Val → Val
three_parts u v w = vstruct (vcons u (vcons v (vcons w vnil)))

pub three_made : {M : Type 1} {𝓤 : Ura M} (𝓛 : Logic 𝓤) (X Y Z : RattleType) (x : X.Denot) (y : Y.Denot) (z : Z.Denot)
    (u v w : Val)
    → ent 𝓤 (sep 𝓤 (sem 𝓛 (X.own_val x (u ∷ []))) (sep 𝓤 (sem 𝓛 (Y.own_val y (v ∷ []))) (sem 𝓛 (Z.own_val z (w ∷ [])))))
    (sem 𝓛 ((Tuple (X ∷ Y ∷ Z ∷ [])).own_val (x, y, z) (three_parts u v w ∷ [])))
three_made 𝓛 X Y Z x y z u v w =
    qed 𝓛 (‵ (X.own_val x (u ∷ [])) ∷ ‵ (Y.own_val y (v ∷ [])) ∷ ‵ (Z.own_val z (w ∷ [])) ∷ []) ∵ nothing ! $ move !
    (3 ∷ 0 ∷ []) $ fjoin ! $ move ! (2 ∷ 0 ∷ []) $ fjoin ! $ move ! (1 ∷ 0 ∷ []) $ fjoin ! $
    feq_i ! (List Val) (three_parts u v w ∷ []) (three_parts u v w ∷ []) refl $ fjoin ! $
    fpack ! (Valss (X ∷ Y ∷ Z ∷ [])) (within (Declared.shape (tuple_type (X ∷ Y ∷ Z ∷ []))) (
      x,
      (y, (z, tt)),
    ) (three_parts u v w ∷ [])) (u ∷ [], (v ∷ [], (w ∷ [], tt))) $ done !

pub filled_within : {X : Type 0} (ss : List (Option X)) (i : ℕ) (x : X) → get_or ss i None ≡ Some x → i < length ss
filled_within [] i x e = cc
filled_within (s ∷ ss) zero x e = omega arith
filled_within (s ∷ ss) (suc i) x e = omega (arith, filled_within ss i x e)

-- the bytes of n slots fit a word, and so do those of one where n is not 0
pub uncapped : (n k : ℕ) → n * k < 2 ^ 64 → n * capped k ≡ n * k
uncapped zero k h = zero-mul (capped k) ∙ sym (zero-mul k)
uncapped (suc n) k h = search arith

-- so do those of a slot, and those before it
pub slot_bytes : (at n s : ℕ) → at < n → n * s < 2 ^ 63 → (s < 2 ^ 64) × (at * s < 2 ^ 64)
slot_bytes at n s within small = (
  omega (arith, one_below n s (2 ^ 63) (omega arith) small),
  omega (arith, times_below at n s (2 ^ 63) (omega arith) small),
)

-- the layout that memory for n slots is taken with
module _ (E : El) where
  abbrev pub memory_of : ℕ → Ty
  memory_of n = bare (ty_array (elτ E) n)

  pub memory_size : (n : ℕ) → n * sz E < 2 ^ 64 → capped (size (memory_of n)) ≡ n * sz E
  memory_size n fits = search (arith, size-raw)

  pub memory_align : (n : ℕ) → capped (align (memory_of n)) ≡ capped (align (elτ E))
  memory_align n = ap capped (align-raw (ty_array (elτ E) n))

module _ (E : El) (Z : Al) where
  abbrev pub args_of : Args
  args_of = bounded (a_type ∷ a_type ∷ []) (E.row, (Z.row, tt)) (dcons Z.d (dcons Z.drops dnil))

  abbrev pub Heap : RattleType
  Heap = param 1 Z.row

module _ (E : El) {M : Type 1} {𝓤 : Ura M} (𝓛 : Logic 𝓤) (b : ℕ) where
  open 𝓛 use {H}

  abbrev s : ℕ
  s = sz E

  abbrev Slots : ℕ → List (Slot E) → Fml
  Slots = slots (R E) b

  -- the slots of a storage but for the i-th
  abbrev pub Others : ℕ → List (Slot E) → ℕ → Fml
  Others o [] i = ftrue
  Others o (x ∷ ss) zero = Slots (o + s) ss
  Others o (x ∷ ss) (suc i) = fsep (slot (R E) b o x) (Others (o + s) ss i)

  -- where the i-th of a storage that begins at o lies, and the same counted from the second on
  first_offset : (o : ℕ) → o ≡ zero * s + o
  first_offset o = omega arith

  next_offset : (i o : ℕ) → i * s + (o + s) ≡ suc i * s + o
  next_offset i o = omega arith

  pub slot_out : (o : ℕ) (ss : List (Slot E)) (i : ℕ) → i < length ss
      → ent 𝓤 (sem 𝓛 (Slots o ss)) (sep 𝓤 (sem 𝓛 (slot (R E) b (i * s + o) (get_or ss i None))) (sem 𝓛 (Others o ss i)))
  slot_out o [] i lt = absurd (omega arith)
  slot_out o (x ∷ ss) zero lt = qed 𝓛 (‵ (Slots o (x ∷ ss)) ∷ []) ∵ fsplit ! $ rewrite !
      0 (λ (k : ℕ). ‵ (slot (R E) b k x)) (first_offset o) refl $ frame ! $ done !
  slot_out o (x ∷ ss) (suc i) lt = qed 𝓛 (‵ (Slots o (x ∷ ss)) ∷ []) ∵ fsplit ! $ move ! (1 ∷ []) $
      use1 𝓛 (‵ (slot (R E) b (i * s + (o + s)) (get_or ss i None)) ⊛ ‵ (Others (o + s) ss i))
      (slot_out (o + s) ss i (omega arith)) $ split ! $
      rewrite ! 0 (λ (k : ℕ). ‵ (slot (R E) b k (get_or ss i None))) (next_offset i o) refl $ frame ! $ move !
      (1 ∷ 0 ∷ []) $ fjoin ! $ done !

  pub slot_in : (o : ℕ) (ss : List (Slot E)) (i : ℕ) → i < length ss → (y : Slot E)
      → ent 𝓤 (sep 𝓤 (sem 𝓛 (slot (R E) b (i * s + o) y)) (sem 𝓛 (Others o ss i))) (sem 𝓛 (Slots o (set ss i y)))
  slot_in o [] i lt y = absurd (omega arith)
  slot_in o (x ∷ ss) zero lt y = qed 𝓛 (‵ (slot (R E) b (zero * s + o) y) ∷ ‵ (Slots (o + s) ss) ∷ []) ∵
      rewrite ! 0 (λ (k : ℕ). ‵ (slot (R E) b k y)) (sym (first_offset o)) refl $ fjoin ! $ done !
  slot_in o (x ∷ ss) (suc i) lt y = qed 𝓛 (‵ (slot (R E) b (suc i * s + o) y) ∷ ‵ (Others o (x ∷ ss) (suc i)) ∷ []) ∵
      rewrite ! 0 (λ (k : ℕ). ‵ (slot (R E) b k y)) (sym (next_offset i o)) refl $ move ! (1 ∷ []) $ fsplit ! $ move !
      (2 ∷ 1 ∷ []) $
      use2 𝓛 (‵ (Slots (o + s) (set ss i y))) (slot_in (o + s) ss i (omega arith) y) $ move ! (1 ∷ 0 ∷ []) $ fjoin ! $
      done !

  -- room for an array is a storage of empty slots
  pub of_room : (n o : ℕ) → ent 𝓤 (H.room (ty_array (elτ E) n) b o) (sem 𝓛 (Slots o (replicate n None)))
  of_room zero o = search arith
  of_room (suc n) o = qed 𝓛 (‵ (froom (ty_array (elτ E) (suc n)) b o) ∷ []) ∵
      use1 𝓛 (‵ (froom (elτ E) b o) ⊛ ‵ (froom (ty_array (elτ E) n) b (o + s))) (𝓛.laws.room_uncons (elτ E) n b o) $
      split ! $
      use1 𝓛 (‵ (slot (R E) b o None)) (𝓛.laws.room-raw (elτ E) b o) $ frame ! $ by ! (of_room n (o + s))

  pub to_room : (n o : ℕ) → ent 𝓤 (sem 𝓛 (Slots o (replicate n None))) (H.room (ty_array (elτ E) n) b o)
  to_room zero o = 𝓛.laws.room_nil (elτ E) b o
  to_room (suc n) o = qed 𝓛 (‵ (slot (R E) b o None) ∷ ‵ (Slots (o + s) (replicate n None)) ∷ []) ∵
      use1 𝓛 (‵ (froom (elτ E) b o)) (𝓛.laws.raw-room (elτ E) b o) $ move ! (1 ∷ []) $
      use1 𝓛 (‵ (froom (ty_array (elτ E) n) b (o + s))) (to_room n (o + s)) $ move ! (1 ∷ []) $ by !
      (𝓛.laws.room_cons (elτ E) n b o)

  -- what a `&` to the storage shows of one slot
  pub slot_seen : (κ : Lft) (o : ℕ) (ss : List (Slot E)) (i : ℕ) → i < length ss
      → ent 𝓤 (sem 𝓛 (slots_lent (R E) b o ss κ)) (sem 𝓛 (slot_lent (R E) b (i * s + o) (get_or ss i None) κ))
  slot_seen κ o [] i lt = absurd (omega arith)
  slot_seen κ o (x ∷ ss) zero lt = qed 𝓛 (‵ (slots_lent (R E) b o (x ∷ ss) κ) ∷ []) ∵ fsplit ! $ rewrite !
      0 (λ (k : ℕ). ‵ (slot_lent (R E) b k x κ)) (first_offset o) refl $ keep ! (0 ∷ []) $ done !
  slot_seen κ o (x ∷ ss) (suc i) lt = qed 𝓛 (‵ (slots_lent (R E) b o (x ∷ ss) κ) ∷ []) ∵ fsplit ! $ keep ! (1 ∷ []) $
      use1 𝓛 (‵ (slot_lent (R E) b (i * s + (o + s)) (get_or ss i None) κ)) (slot_seen κ (o + s) ss i (omega arith)) $
      rewrite ! 0 (λ (k : ℕ). ‵ (slot_lent (R E) b k (get_or ss i None) κ)) (next_offset i o) refl $ done !
