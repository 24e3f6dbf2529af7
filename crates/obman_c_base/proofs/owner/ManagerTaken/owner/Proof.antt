-- The pointer is compared with null: nothing is there, or it goes to the parts of a box with what it owns.
use Rattle.obman_c_base.proofs.Walks.{refl, sym, [], ◌∷◌, ◌++◌, List, T, lit<, Val, vcons, vnil, has_ty, WT, id⊢, yes, plain, type_at, nothing, layout, block_ptr, Stays, stay_dropped, walk_of, Goes-dropped, WpFn, tables, alloc_all, pass_all, free_all, look_at, get, get_in, sets, sets_last, env, ‵, raw, ◌⊛◌, prop, at_ret, ◌$◌, ◌∵◌, !, qed, keep, drop, use0, use1, join, split, regoal, fsplit, fjoin, whole, sub, agg, stop, fld, lit, bin, live, no_more, and_then, of_opd, first, branches, exec, returns, enter, after, proved_at, ends_at, says, suffices, done, ftrue, fsep, emp, word, box_typed, box_in, and_tt, of_manager}
use denote.RawPtr.{tests_null}
use Rattle.std.specs.Prelude.{Some, None}
use Rattle.std.proofs.option.Made.{Some-of, none_of}
use Rattle.obman_c_base.specs.contracts.parts.BoxParts as BoxParts
use Rattle.obman_c_base.specs.contracts.owner.ManagerTaken as ManagerTaken
use Rattle.obman_c_base.specs.contracts.owner.ManagerTaken.owner as F
use Rattle.obman_c_base.specs.contracts.owner.ManagerTaken.owner.Key.{name as #self}
use Rattle.obman_c_base.proofs.owner.ManagerTaken.owner.Statement.{statement}
use Rattle.obman_c_base.proofs.owner.ManagerTaken.owner.Code as code
use Rattle.obman_c_base.proofs.Endings.{ending_out, null_typed}

abbrev stayed : Stays (F.ended).signature.params (F.ended).kept
stayed = (stay_dropped (plain (λ _. ManagerTaken.the_row)) yes, tt)

pub owner_spec : {M : Type 1} → statement M
owner_spec 𝓤 𝓛 𝓜 𝓡 wired =
    let 𝓣 = tables 𝓤 𝓛.H 𝓜 𝓡 𝓡.env in let c = F.clauses 𝓛 𝓜.mem 𝓡.returns in let E = of_manager in
    proved_at 𝓛 F.ended stayed c 𝓜 𝓡 (
      Goes-dropped 𝓛 0 (plain (λ _. ManagerTaken.the_row)) yes (λ κs x f. refl),
      tt,
    ) #self code.function (code.unfolded 𝓤 𝓛.H 𝓜 𝓡 wired) (λ z are.
    let ending = z.0.3.0 in let Post = (walk_of 𝓛 F.ended stayed c).post z in
    let Out = type_at (F.ended).signature.result z.0.0 in let To = BoxParts.the_row E.row E.al.row E.al.g in
    qed 𝓛 ((‵ ftrue ⊛ ‵ (fsep ((ManagerTaken.the_row).own_val ending z.0.4.0) ftrue)) ∷ raw (emp 𝓤) ∷ []) ∵ split ! $ drop ! $
    fsplit ! $
    ending_out E.row E.laws ending.alloc ! ending.at ending.value z.0.4.0
    (λ h none is fits. let nowhere : Val = live 0 vnil in
    regoal ! (λ (vs : List Val). prop (WpFn 𝓤 𝓛.H 𝓣.C 𝓣.Λ code.function (vs ++ []) Post)) is refl $
    enter ! _ _ _ _ _ $ alloc_all ! (λ l. pass_all ! refl (null_typed E.row E.laws ending.alloc h fits, tt) $
    sets ! (of_opd ! (get_in ! (fld ! refl (stop !)) (sub ! 0 refl (whole !)))) refl (tt, record { fits = lit< tt }) $
    sets ! (of_opd ! (get_in ! (fld ! refl (stop !)) (sub ! 1 refl (whole !)))) refl fits $
    sets ! (bin ! (get ! refl) (lit ! tt) tt) refl (tt, tt) $ first ! $ branches ! (get ! refl) (λ _.
    sets_last ! (agg ! (and_then ! (lit ! tt) (no_more !))) refl (tt, (record { fits = lit< tt }, tt)) $
    exec ! 𝓣.C 𝓣.Λ (env code.function.locals l) (after 4 code.function.body)
    (at_ret (env code.function.locals l) Post) $
    sets ! (of_opd ! (get ! refl)) refl (tt, (record { fits = lit< tt }, tt)) $
    use0 𝓛 (‵ (Out.own_val None (nowhere ∷ []))) (none_of 𝓛 To) $ returns ! (look_at ! 0 refl) $ free_all !
    refl $ keep ! (0 ∷ []) $
    suffices ! _ (ends_at 𝓛 F.ended stayed c z nowhere None (tt, tt) (tt, tt)) $ says ! (sym none) $
    nothing ! $ nothing ! $ fjoin ! $ join ! $ nothing ! $ join ! $ done !) (λ wrong. absurd wrong)))
    (λ x b o h some is fits low. let made : Val = word E h b o in let typed = box_typed E h b o fits in
    let there : Val = live 1 (vcons made vnil) in
    let owner : To.Denot = record { at = block_ptr b o; alloc = ending.alloc; value = x } in
    let good : T (has_ty (layout Out) there) × WT there = (and_tt _ typed.0, (record { fits = lit< tt }, (typed.1, tt)))
    in
    regoal ! (λ (vs : List Val). prop (WpFn 𝓤 𝓛.H 𝓣.C 𝓣.Λ code.function (vs ++ []) Post)) is refl $
    enter ! _ _ _ _ _ $ alloc_all ! (λ l. pass_all ! refl (typed, tt) $
    sets ! (of_opd ! (get_in ! (fld ! refl (stop !)) (sub ! 0 refl (whole !)))) refl (tt, tt) $
    sets ! (of_opd ! (get_in ! (fld ! refl (stop !)) (sub ! 1 refl (whole !)))) refl fits $
    sets ! (bin ! (get ! refl) (lit ! tt) (tests_null (block_ptr b o) low)) refl (tt, tt) $ first ! $ branches !
    (get ! refl) (λ wrong. absurd wrong) (λ _.
    sets ! (of_opd ! (get ! refl)) refl (tt, tt) $
    sets ! (agg ! (and_then ! (get ! refl) (and_then ! (get ! refl) (no_more !)))) refl typed $
    sets_last ! (agg ! (and_then ! (lit ! tt) (and_then ! (get ! refl) (no_more !)))) refl good $
    exec ! 𝓣.C 𝓣.Λ (env code.function.locals l) (after 4 code.function.body)
    (at_ret (env code.function.locals l) Post) $
    sets ! (of_opd ! (get ! refl)) refl good $
    fsplit ! $ box_in E ! (record { ptr = owner.at; alloc = owner.alloc; value = owner.value }) b o x refl refl $
    use1 𝓛 (‵ (To.own_val owner (made ∷ []))) (id⊢ 𝓤 _) $
    use1 𝓛 (‵ (Out.own_val (Some owner) (there ∷ []))) (Some-of 𝓛 To owner made) $ returns !
    (look_at ! 0 refl) $ free_all ! refl $ keep ! (0 ∷ []) $
    suffices ! _ (ends_at 𝓛 F.ended stayed c z there (Some owner) (tt, tt) (tt, tt)) $ says ! (sym some) $
    nothing ! $ nothing ! $ fjoin ! $ join ! $ nothing ! $ join ! $ done !))))
