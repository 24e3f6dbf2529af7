-- `into_raw_with_allocator` gives what the box owned, and the parts own it.
use Rattle.obman_c_base.proofs.Walks.{◌≡◌, refl, ap, ◌∙◌, [], ◌∷◌, ◌++◌, List, Val, vstruct, of_list, id⊢, never, fst∗, no, plain, only, heard, nothing, RattleType, Ptr, RawPtr, block_ptr, null_ptr, ptr_val, in_a_block, Tuple, ◌⊑◌, fact, bounded, Stays, stay_dropped, walk_of, triple_of, Goes-blank, WpFn, inst_fn, bare, a_type, dcons, dnil, fm_of, calls_at, alloc_all, pass_all, free_all, look_at, get, get_in, sets, lands_as, ‵, raw, ◌⊛◌, some, later, prop, ◌$◌, ◌∵◌, !, qed, move, drop, use1, join, split, split3, pick, rewrite, regoal, suffices, fsplit, fjoin, fpick, feq_l, await, done, whole, sub, agg, stop, fld, no_more, and_then, of_opd, returns, enter, proved_at, ends_at, says, ftrue, flft, fsep, sem, box_owns, token, handle_tells, Bx, D, B, P, R, τ, word, box_typed, box_out, box_in}
use contract.Running.{tables, tables_of}
use Rattle.std.specs.contracts.boxed.Box.into_raw_with_allocator as callee
use Rattle.std.proofs.boxed.Box.into_raw_with_allocator.Met.{met}
use Rattle.obman_c_base.specs.contracts.parts.BoxParts as BoxParts
use Rattle.obman_c_base.specs.contracts.parts.BoxParts.of as F
use Rattle.obman_c_base.specs.contracts.parts.BoxParts.of.Key.{name as #self}
use Rattle.obman_c_base.proofs.parts.BoxParts.of.Statement.{statement}
use Rattle.obman_c_base.proofs.parts.BoxParts.of.Code as code

pub of_spec : {M : Type 1} → statement M
unfolding tables_of
of_spec 𝓤 𝓛 𝓜 𝓡 wired X Z LX LZ g d dd dx allocator md glue =
    let E : Bx = record { row = X; laws = LX; al = record { row = Z; laws = LZ; g = g; d = d; drops = dd } } in
    let args = bounded (a_type ∷ a_type ∷ []) (X, (Z, tt)) (dcons d (dcons dd (dcons dx dnil))) in
    let H = 𝓛.H in let 𝓣 = tables_of 𝓤 H 𝓜 (tables 𝓤 H 𝓜 𝓡 𝓡.env) in let fn = inst_fn args code.function in
    let En = F.ended X Z g d dd dx in let c = F.clauses X Z g d dd dx 𝓛 𝓜.mem 𝓡.returns in
    let To : RattleType = BoxParts.the_row (R E) (P E) g in
    let hs : Stays En.signature.params En.kept = (stay_dropped (plain (λ _. B E)) no, tt) in
    proved_at 𝓛 En hs c 𝓜 𝓡 (
      Goes-blank 𝓛 2 (plain (λ _. B E)) no (λ κs x f. tt),
      tt,
    ) (#self args) fn (code.unfolded 𝓤 H 𝓜 𝓡 wired (X, (Z, tt)) d dd dx) (λ z are.
    let κs = z.0.0 in let qs = z.0.1 in let boxed = z.0.3.0 in let Post = (walk_of 𝓛 En hs c).post z in
    let k = triple_of 𝓛 (callee.signature X Z g d dd dx) (callee.spec X Z g d dd dx 𝓛 𝓜.mem 𝓡.returns) in
    let tokens = ‵ (flft κs.0 qs.0) ⊛ ‵ (flft κs.1.0 qs.1.0) ⊛ ‵ ftrue in
    let bounds = raw (fact 𝓤 (κs.0 ⊑ X.lives)) ⊛ raw (fact 𝓤 (κs.1.0 ⊑ Z.lives)) ⊛ ‵ ftrue in
    qed 𝓛 ((tokens ⊛ ‵ (fsep ((B E).own_val boxed z.0.4.0) ftrue)) ∷ bounds ∷ []) ∵ split ! $ move ! (1 ∷ []) $ fsplit !
    $
    box_out E ! boxed z.0.4.0 (λ b o h at_b is fits.
    let y : k.Ghost = ((κs, qs, tt, (boxed, tt), (word E h b o ∷ [], tt)), tt) in
    regoal ! (λ (vs : List Val). prop (WpFn 𝓤 H 𝓣.C 𝓣.Λ fn (vs ++ []) Post)) is refl $ box_in E !
    boxed b o boxed.value at_b refl $
    -- [the box; nothing; the tokens; the bounds]
    enter ! _ _ _ _ _ $ alloc_all ! (λ l. pass_all ! refl (box_typed E h b o fits, tt) $ sets !
    (of_opd ! (get ! refl)) refl (box_typed E h b o fits) $
    fjoin ! $ move ! (1 ∷ 0 ∷ []) $ join ! $ join ! $ use1 𝓛 (raw (k.pre y)) (id⊢ 𝓤 _) $
    calls_at ! (fm_of 𝓤 H 𝓛.laws 𝓣) k (met 𝓤 𝓛 𝓜 𝓡
    (code.calls-std_alloc::boxed::Box::into_raw_with_allocator 𝓡.env wired) X Z LX LZ g d dd dx allocator md glue) y
    (and_then ! (get ! refl) (no_more !)) (λ u.
    use1 𝓛 (later (some (λ (r : Ptr × Z.Denot). (tokens ⊛ ‵ ((Tuple (RawPtr ∷ P E ∷ [])).own_val r (u ∷ [])))
    ⊛ some (λ (_ : (Unit {0} × (Unit {0} × Unit {0})) × Unit {0}). ‵ (fsep (fsep ftrue (fsep ftrue ftrue)) ftrue)
    ⊛ (raw (fact 𝓤 (r.1 ≡ boxed.alloc)) ⊛ ‵ (box_owns (token E.al boxed.alloc) (R E) r.0 boxed.value))))))
    (id⊢ 𝓤 (k.post y u)) $
    await ! tt $ pick ! (λ r. split ! $ move ! (1 ∷ []) $ pick !
    (λ _. split3 ! $ drop ! $ heard ! (r.1 ≡ boxed.alloc) (λ same.
    -- nothing lies at null, so the pointer that came is into a block
    in_a_block ! r.0 (λ p. box_owns (token E.al boxed.alloc) (R E) p boxed.value)
    (fst∗ 𝓤 (never 𝓤) (sem 𝓛 (token E.al boxed.alloc (bare (τ E)) null_ptr))) (λ b' o' at'.
    move ! (1 ∷ []) $ split ! $ move ! (1 ∷ []) $ fpick !
    (λ words. fsplit ! $ feq_l ! (λ told. fsplit ! $ feq_l ! (λ first_told. fsplit ! $
    rewrite ! 0 (λ (a : Z.Denot). ‵ (Z.own_val a words.1.0)) same refl $ handle_tells E.al !
    boxed.alloc words.1.0 (λ h' handle_told fits'.
    let moved : D E = record { ptr = block_ptr b' o'; alloc = boxed.alloc; value = boxed.value } in
    let parts : To.Denot = record { at = block_ptr b' o'; alloc = boxed.alloc; value = boxed.value } in
    lands_as ! (ap only (told ∙ (λ j. vstruct (of_list ((first_told ∙ ap (λ (p : Ptr). ptr_val p ∷ []) at') j
    ++ (handle_told j ++ []))) ∷ []))) refl (box_typed E h' b' o' fits') $
    sets ! (of_opd ! (get_in ! (fld ! refl (stop !)) (sub ! 0 refl (whole !)))) refl (tt, tt) $
    sets ! (of_opd ! (get_in ! (fld ! refl (stop !)) (sub ! 1 refl (whole !)))) refl fits' $ sets !
    (of_opd ! (get ! refl)) refl fits' $
    sets ! (agg ! (and_then ! (get ! refl) (and_then ! (get ! refl) (no_more !)))) refl (box_typed E h' b' o' fits') $
    returns ! (look_at ! 0 refl) $ free_all ! refl $
    -- [the handle; nothing; the tokens; what the block owns]
    move ! (3 ∷ []) $ fsplit ! $ box_in E ! moved b' o' boxed.value refl refl $
    use1 𝓛 (‵ (To.own_val parts (word E h' b' o' ∷ []))) (id⊢ 𝓤 _) $ move ! (1 ∷ []) $ drop ! $
    suffices ! _ (ends_at 𝓛 En hs c z (word E h' b' o') parts ((tt, (tt, tt)), tt) (tt, tt)) $ says ! refl $
    nothing ! $ nothing ! $ fjoin ! $ join ! $ move ! (1 ∷ 0 ∷ []) $ join ! $ done !))))))))))))
