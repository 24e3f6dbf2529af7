-- `body_size` is the size of the type, as a word.
use Rattle.ob_arena.proofs.Steps.{refl, ℕ, ◌^◌, List, [], ◌∷◌, Ura, SProp, ent, via, fst∗, Lft, Share, ftrue, flft, Fn, Args, w64, a_type, inst_fn, Val, vint, Memory, size, capped, capped_fits, Routine, WpFn, Tables, Logic, Fun, tables, tables_of, WpFn-mono, ‵, ◌⊛◌, ◌$◌, ◌∵◌, !, qed, move, keep, join, fjoin, feq_i, flt_i, suffices, done, size_word, of_opd, returns, enter, alloc_all, pass_all, free_all, look_at, sets, RattleType, layout, layouts, nothing, Clauses, closing, on_entry, Meets, triple_of, entered, says, walk_of, ends_at, walked, walk_Meets}
use Rattle.ob_arena.specs.contracts.storage.body_size as contract
use Rattle.ob_arena.specs.contracts.storage.body_size.Key.{name as #self}
use Rattle.ob_arena.proofs.storage.body_size.Statement as stated
use Rattle.ob_arena.proofs.storage.body_size.Code as code

module _ (B : RattleType) where
  abbrev args : Args
  args = layouts (a_type ∷ []) (B, tt)

  abbrev function : Fn
  function = inst_fn args code.function

  module _ {M : Type 1} {𝓤 : Ura M} (𝓛 : Logic 𝓤) (at_mem : Memory → SProp 𝓤) (run : Routine
      → Fun 𝓤) (𝓣 : Tables 𝓤 𝓛.H) where
    open 𝓛 use {H}

    abbrev clauses : Clauses 𝓤 (contract.ended B)
    clauses = contract.clauses B 𝓛 at_mem run

    walk : (κ : Lft) (q : Share) → ent 𝓤 (on_entry 𝓛 (contract.signature B) (κ, tt) (q, tt) tt tt)
        (WpFn 𝓤 H 𝓣.C 𝓣.Λ function [] ((walk_of 𝓛 (contract.ended B) tt clauses).post (
          ((κ, tt), (q, tt), tt, tt, tt),
          tt,
        )))
    walk κ q =
        let s : ℕ = capped (size (layout B)) in
        qed 𝓛 ((‵ (flft κ q) ⊛ ‵ ftrue) ∷ ‵ ftrue ∷ []) ∵ enter ! 𝓣.C 𝓣.Λ function [] _ $ alloc_all !
        (λ l. pass_all ! refl tt $
        sets ! (of_opd ! (size_word !)) refl (tt, record { fits = capped_fits (size (layout B)) }) $
        returns ! (look_at ! 0 refl) $ free_all ! refl $
        suffices ! _ (ends_at 𝓛 (contract.ended B) tt clauses (
          ((κ, tt), (q, tt), tt, tt, tt),
          tt,
        ) (vint w64 s) s tt tt) $ says ! refl $
        flt_i ! s (2 ^ 64) (capped_fits (size (layout B))) $ feq_i !
        (List Val) (vint w64 s ∷ []) (vint w64 s ∷ []) refl $ fjoin ! $ nothing ! $ join ! $ move ! (1 ∷ 0 ∷ []) $
        join ! $ keep ! (0 ∷ []) $ done !)

    meets : Meets 𝓛 (contract.signature B) (WpFn 𝓤 H 𝓣.C 𝓣.Λ function) (closing 𝓛 (contract.ended B) clauses)
    meets =
        walk_Meets 𝓛 (contract.ended B) tt tt clauses (WpFn 𝓤 H 𝓣.C 𝓣.Λ function) (WpFn-mono 𝓤 H 𝓛.laws 𝓣 function)
        (walked 𝓛 (contract.ended B) tt clauses (WpFn 𝓤 H 𝓣.C 𝓣.Λ function) (λ κs. tt) (λ κs. tt)
        (λ κs qs bounds a g are. via 𝓤 _ (fst∗ 𝓤 _ ((clauses κs a).requires g)) (walk κs.0 qs.0)))

pub body_size_spec : {M : Type 1} → stated.statement M
unfolding tables_of
body_size_spec 𝓤 𝓛 𝓜 𝓡 wired B L =
    let 𝓣 : Tables 𝓤 𝓛.H = tables_of 𝓤 𝓛.H 𝓜 (tables 𝓤 𝓛.H 𝓜 𝓡 𝓡.env) in
    entered 𝓤 𝓛.H (triple_of 𝓛 (contract.signature B) (contract.spec B 𝓛 𝓜.mem 𝓡.returns)) 𝓣.C 𝓣.Λ (#self (args B))
    (function B) (code.unfolded 𝓤 𝓛.H 𝓜 𝓡 wired (B, tt))
    (meets B 𝓛 𝓜.mem 𝓡.returns 𝓣)
