-- What C passes at an end, by value: null, and nothing is owned; or a block and what its owner owns.
use seplogic.Ra.Ura.{Ura}
use base.Fraction.{full_share}
use base.Logic.{guard, guard_i, snd∗, via}
use contract.Monad.{fact_use}
use denote.Memory.{lone}
use denote.Param.Laws.{Laws}
use denote.RawPtr.{Testable, lies_at}
use denote.Struct.Struct.{Struct}
use types.Kit.{Goal, Item, Seq, given, learn}
use Rattle.std.proofs.GlobalToken.{dealloc_token-Testable}
use Rattle.std.proofs.alloc.Calls.{Fits}
use Rattle.std.specs.Prelude.{Option, Some, None}
use Rattle.std.specs.contracts.impls.GlobalAllocator.TheImpl.{ghosts}
use Rattle.std.specs.declared.alloc.Global.{Global}
use Rattle.obman_c_base.proofs.Walks.{◌≡◌, ℕ, refl, [], ◌∷◌, List, T, lit<, Val, vnull, vstruct, vcons, vnil, of_list, has_ty, WT, ent, never, fst∗, Fml, fsep, RattleType, Ptr, RawPtr, block_ptr, null_ptr, ptr_val, in_a_block, bare, Logic, sem, ‵, ◌$◌, move, drop, use1, fsplit, fpick, feq_l, box_owns, handle_tells, P, box_ty, handle, word, and_tt, on_heap}
use Rattle.obman_c_base.specs.Owning.{owns_or_null}

abbrev pub null_word : Val → Val
null_word h = vstruct (vcons vnull (vcons h vnil))

module _ (R : RattleType) (laws : Laws R) (a : Global) where
  abbrev block : Ptr → R.Denot → Fml
  block = box_owns (ghosts.dealloc_token a) R

  abbrev ended : Ptr → Option R.Denot → List Val → Fml
  ended at value vs = fsep ((Struct (record {
    name = [];
    args = [];
    types = [];
    fields = RawPtr ∷ P (on_heap R laws) ∷ [];
  })).own_val (at, (a, tt)) vs) (owns_or_null R a at value)

  pub null_typed : (h : Val) → Fits (on_heap R laws).al h
      → T (has_ty (box_ty (on_heap R laws)) (null_word h)) × WT (null_word h)
  null_typed h fits = (and_tt _ fits.0, (record { fits = lit< tt }, (fits.1, tt)))

  module _ {M : Type 1} {𝓤 : Ura M} (𝓛 : Logic 𝓤) where
    -- whoever may free a block may compare its address with null
    tested : (p : Ptr) (x : R.Denot) → ent 𝓤 (sem 𝓛 (block p x)) (guard 𝓤 (Testable p) (sem 𝓛 (block p x)))
    tested p x = fact_use 𝓤 (Testable p) (via 𝓤 _ (snd∗ 𝓤 (sem 𝓛 (lies_at R full_share p x))
        (sem 𝓛 (ghosts.dealloc_token a (bare (lone R.mir)) p))) (dealloc_token-Testable 𝓛 a (bare (lone R.mir)) p))
        (guard_i 𝓤 (Testable p) (sem 𝓛 (block p x)))

  module _ {M : Type 1} {𝓤 : Ura M} {𝓛 : Logic 𝓤} {K : Type 0} {Γ : List (Item 𝓤)} {G : Goal 𝓤 𝓛.H} where
    either : K → (p : Ptr) (value : Option R.Denot) → (value ≡ None → p ≡ null_ptr → Seq K 𝓛 Γ G)
        → ((x : R.Denot) (b o : ℕ) → value ≡ Some x → p ≡ block_ptr b o → Testable (block_ptr b o)
        → Seq K 𝓛 (‵ (block (block_ptr b o) x) ∷ Γ) G) → Seq K 𝓛 (‵ (owns_or_null R a p value) ∷ Γ) G
    either t p None none some = feq_l t (λ is. none refl is)
    either t p (Some x) none some = in_a_block t p (λ q. block q x)
        (fst∗ 𝓤 (never 𝓤) (sem 𝓛 (ghosts.dealloc_token a (bare (lone R.mir)) null_ptr))) (λ b o is.
        use1 𝓛 (given (Testable (block_ptr b o)) (‵ (block (block_ptr b o) x))) (tested 𝓛 (block_ptr b o) x) $
        learn t (λ low. some x b o refl is low))

  module _ {M : Type 1} {𝓤 : Ura M} {𝓛 : Logic 𝓤} {K : Type 0} {Γ : List (Item 𝓤)} {G : Goal 𝓤 𝓛.H} where
    pub ending_out : K → (at : Ptr) (value : Option R.Denot) (vs : List Val)
        → ((h : Val) → value ≡ None → vs ≡ null_word h ∷ [] → Fits (on_heap R laws).al h
        → Seq K 𝓛 (‵ (handle (on_heap R laws) a h) ∷ Γ) G)
        → ((x : R.Denot) (b o : ℕ) (h : Val) → value ≡ Some x → vs ≡ word (on_heap R laws) h b o ∷ []
        → Fits (on_heap R laws).al h → Testable (block_ptr b o)
        → Seq K 𝓛 (‵ (block (block_ptr b o) x) ∷ ‵ (handle (on_heap R laws) a h) ∷ Γ) G)
        → Seq K 𝓛 (‵ (ended at value vs) ∷ Γ) G
    ending_out t at value vs none some = fsplit t $
        fpick t (λ vss. fsplit t $ feq_l t (λ ev. fsplit t $
        feq_l t (λ ep. fsplit t $ handle_tells (on_heap R laws).al t a vss.1.0 (λ h ea fits. move t (1 ∷ []) $ drop t $
        move t (1 ∷ []) $
        let laid : (p : Ptr) → at ≡ p → vs ≡ vstruct (of_list (ptr_val p ∷ h ∷ [])) ∷ [] =
        λ p is. rw (ep, ea, is) at ev in
        either t at value (λ is_none null. none h is_none (laid null_ptr null) fits)
        (λ x b o is_some at_b low. some x b o h is_some (laid (block_ptr b o) at_b) fits low)))))
