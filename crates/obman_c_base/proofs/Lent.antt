-- An owner whose block is lent: what is left of it, and that with any value in the block it is an owner again.
use seplogic.Ra.Ura.{Ura}
use denote.Memory.{part_at, mem, cell_at, part_of}
use Rattle.obman_c_base.proofs.Walks.{◌≡◌, ℕ, refl, [], ◌∷◌, List, Val, ent, sep, Fml, fsep, full_share, RattleType, block_ptr, bare, Logic, sem, ‵, ◌$◌, ◌∵◌, !, qed, move, use1, fsplit, fjoin, fpack, done, token, Bx, D, B, R, τ, handle, word, box_in}

module _ (E : Bx) (O : RattleType) (boxed : D E) (rb ro b o : ℕ) (h : Val) where
  -- all but the value: the right to free its block, the allocator, and the owner's own word
  abbrev pub rest : Fml
  rest = fsep (fsep (token E.al boxed.alloc (bare (τ E)) (block_ptr b o)) (handle E boxed.alloc h))
      (cell_at full_share O.mir (word E h b o ∷ []) rb ro)

  module _ {M : Type 1} {𝓤 : Ura M} (𝓛 : Logic 𝓤) where
    pub gives_back : (with_value : E.row.Denot → O.Denot) → ((x : E.row.Denot) (words : List Val) → ent 𝓤
        (sem 𝓛 ((B E).own_val (record boxed { value = x }) words)) (sem 𝓛 (O.own_val (with_value x) words)))
        → boxed.ptr ≡ block_ptr b o → (x : E.row.Denot)
        → ent 𝓤 (sep 𝓤 (sem 𝓛 ((mem (R E)).own_at x b o)) (sem 𝓛 rest)) (sem 𝓛 ((mem O).own_at (with_value x) rb ro))
    unfolding part_of
    gives_back with_value owns at_b x =
        qed 𝓛 (‵ (part_at (R E) full_share x b o) ∷ ‵ rest ∷ []) ∵ move ! (1 ∷ []) $ fsplit ! $ fsplit ! $ move !
        (3 ∷ []) $
        box_in E ! (record boxed { value = x }) b o x at_b refl $
        use1 𝓛 (‵ (O.own_val (with_value x) (word E h b o ∷ []))) (owns x (word E h b o ∷ [])) $
        move ! (1 ∷ 0 ∷ []) $ fjoin ! $ fpack ! (List Val)
        (λ words. fsep (cell_at full_share O.mir words rb ro) (O.own_val (with_value x) words))
        (word E h b o ∷ []) $ done !
