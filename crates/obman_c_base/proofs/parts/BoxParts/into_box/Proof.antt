-- What the parts own is what `from_raw` asks for.
use Rattle.obman_c_base.proofs.Walks.{◌≡◌, refl, sym, ap, [], ◌∷◌, ◌++◌, List, T, Val, vptr, has_ty, WT, id⊢, no, plain, only, heard, nothing, RattleType, block_ptr, ◌⊑◌, fact, Stays, stay_dropped, walk_of, triple_of, Goes-blank, WpFn, inst_fn, fm_of, calls_at_last, alloc_all, pass_all, free_all, look_at, get, get_in, sets, lands_last, env, ‵, raw, ◌⊛◌, some, later, prop, at_ret, ◌$◌, ◌∵◌, !, qed, move, drop, use1, join, split, split3, pick, rewrite, regoal, suffices, fsplit, fjoin, feq_i, await, done, whole, sub, stop, fld, no_more, and_then, of_opd, first, blocks, exec, returns, enter, after, proved_at, ends_at, says, ftrue, flft, fsep, box_owns, token, Bx, D, B, P, R, box_ty, box_typed, box_out, box_in}
use contract.Running.{tables, tables_of}
use Rattle.std.proofs.BoxSteps.Form.{args}
use Rattle.std.specs.contracts.boxed.Box.from_raw as callee
use Rattle.std.proofs.boxed.Box.from_raw.Met.{met}
use Rattle.obman_c_base.specs.contracts.parts.BoxParts as BoxParts
use Rattle.obman_c_base.specs.contracts.parts.BoxParts.into_box as F
use Rattle.obman_c_base.specs.contracts.parts.BoxParts.into_box.Key.{name as #self}
use Rattle.obman_c_base.proofs.parts.BoxParts.into_box.Statement.{statement}
use Rattle.obman_c_base.proofs.parts.BoxParts.into_box.Code as code

pub into_box_spec : {M : Type 1} → statement M
unfolding tables_of
into_box_spec 𝓤 𝓛 𝓜 𝓡 wired X Z LX LZ g d dd allocator md =
    let E : Bx = record { row = X; laws = LX; al = record { row = Z; laws = LZ; g = g; d = d; drops = dd } } in
    let H = 𝓛.H in let 𝓣 = tables_of 𝓤 H 𝓜 (tables 𝓤 H 𝓜 𝓡 𝓡.env) in let fn = inst_fn (args E) code.function in
    let En = F.ended X Z g d dd in let c = F.clauses X Z g d dd 𝓛 𝓜.mem 𝓡.returns in
    let From : RattleType = BoxParts.the_row (R E) (P E) g in
    let hs : Stays En.signature.params En.kept = (stay_dropped (plain (λ _. From)) no, tt) in
    proved_at 𝓛 En hs c 𝓜 𝓡 (
      Goes-blank 𝓛 2 (plain (λ _. From)) no (λ κs x f. tt),
      tt,
    ) (#self (args E)) fn (code.unfolded 𝓤 H 𝓜 𝓡 wired (X, (Z, tt)) d dd) (λ z are.
    let κs = z.0.0 in let qs = z.0.1 in let parts = z.0.3.0 in let Post = (walk_of 𝓛 En hs c).post z in
    let boxed : D E = record { ptr = parts.at; alloc = parts.alloc; value = parts.value } in
    let k = triple_of 𝓛 (callee.signature X Z g d dd) (callee.spec X Z g d dd 𝓛 𝓜.mem 𝓡.returns) in
    let tokens = ‵ (flft κs.0 qs.0) ⊛ ‵ (flft κs.1.0 qs.1.0) ⊛ ‵ ftrue in
    let bounds = raw (fact 𝓤 (κs.0 ⊑ X.lives)) ⊛ raw (fact 𝓤 (κs.1.0 ⊑ Z.lives)) ⊛ ‵ ftrue in
    qed 𝓛 ((tokens ⊛ ‵ (fsep ((B E).own_val boxed z.0.4.0) ftrue)) ∷ bounds ∷ []) ∵ split ! $ move ! (1 ∷ []) $ fsplit !
    $
    box_out E ! boxed z.0.4.0 (λ b o h at_b is fits. fjoin ! $
    let y : k.Ghost = ((κs, qs, tt, (parts.alloc, (block_ptr b o, tt)), (h ∷ [], (vptr b o ∷ [], tt))), parts.value) in
    regoal ! (λ (vs : List Val). prop (WpFn 𝓤 H 𝓣.C 𝓣.Λ fn (vs ++ []) Post)) is refl $
    -- [what the block owns; the handle; nothing; the tokens; the bounds]
    use1 𝓛 (‵ (box_owns (token E.al parts.alloc) (R E) (block_ptr b o) parts.value)) (id⊢ 𝓤 _) $
    enter ! _ _ _ _ _ $ alloc_all ! (λ l. pass_all ! refl (box_typed E h b o fits, tt) $
    sets ! (of_opd ! (get_in ! (fld ! refl (stop !)) (sub ! 0 refl (whole !)))) refl (tt, tt) $
    sets ! (of_opd ! (get_in ! (fld ! refl (stop !)) (sub ! 1 refl (whole !)))) refl fits $
    first ! $ blocks ! $ sets ! (of_opd ! (get ! refl)) refl fits $
    -- what the callee is given: the tokens with the arguments, and what it requires
    move ! (4 ∷ []) $ split3 ! $ move ! (2 ∷ []) $ drop ! $ move ! (1 ∷ 2 ∷ []) $ join ! $ move ! (1 ∷ 0 ∷ []) $ join !
    $
    move ! (2 ∷ []) $ feq_i ! (List Val) (vptr b o ∷ []) (vptr b o ∷ []) refl $ fjoin ! $ move ! (2 ∷ 0 ∷ []) $ fjoin !
    $ move ! (2 ∷ 0 ∷ []) $ join ! $ join ! $ use1 𝓛 (raw (k.pre y)) (id⊢ 𝓤 _) $
    calls_at_last ! (fm_of 𝓤 H 𝓛.laws 𝓣) k (met 𝓤 𝓛 𝓜 𝓡
    (code.calls-std_alloc::boxed::Box::from_raw 𝓡.env wired) X Z LX LZ g d dd allocator md) y (and_then !
    (get ! refl) (and_then ! (get ! refl) (no_more !))) (λ u.
    use1 𝓛 (later (some (λ (r : D E). (tokens ⊛ ‵ ((B E).own_val r (u ∷ [])))
    ⊛ some (λ (_ : Unit {0} × (Unit {0} × Unit {0})). ‵ (fsep ftrue (fsep ftrue ftrue))
    ⊛ (raw (fact 𝓤 (r.value ≡ parts.value)) ⊛ raw (fact 𝓤 (r.alloc ≡ parts.alloc))))))) (id⊢ 𝓤 (k.post y u)) $
    await ! tt $ pick ! (λ r. split ! $ move ! (1 ∷ []) $ pick !
    (λ _. split3 ! $ drop ! $ heard ! (r.value ≡ parts.value) (λ same. drop ! $ split ! $ move ! (1 ∷ []) $
    box_out E ! r (u ∷ []) (λ b' o' h' at' told fits'. box_in E ! r b' o' r.value at' refl $ rewrite !
    0 (λ (vs : List Val). ‵ ((B E).own_val r vs)) (sym told) refl $
    let good : T (has_ty (box_ty E) u) × WT u = rw (ap only told) (box_typed E h' b' o' fits') in
    lands_last ! refl good $ exec ! 𝓣.C 𝓣.Λ (env fn.locals l) (after 3 fn.body) (at_ret (env fn.locals l) Post) $
    sets ! (of_opd ! (get ! refl)) refl good $ returns ! (look_at ! 0 refl) $ free_all ! refl $
    suffices ! _ (ends_at 𝓛 En hs c z u r ((tt, (tt, tt)), tt) (tt, tt)) $ says ! same $
    nothing ! $ nothing ! $ fjoin ! $ join ! $ move ! (1 ∷ 0 ∷ []) $ join ! $ done !))))))))
