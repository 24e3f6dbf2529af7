-- The pointer is read through the `&mut`, and what it leads to is lent on: the owner ends as its last value says.
use Rattle.obman_c_base.proofs.Walks.{refl, [], ◌∷◌, List, Val, vptr, emp, id⊢, GName, full_share, owns, plain, named, mut_ref_to, no, nothing, opens, Stays, stay_dropped, walk_of, Goes-spent_ref, tables, alloc_all, pass_all, free_all, look_at, get, through, sets, sets_last, env, ‵, raw, ◌⊛◌, some, later, at_ret, ◌$◌, ◌∵◌, !, qed, move, keep, drop, use1, join, split, group, pick, rewrite, suffices, frame, fsplit, fsplit3, fjoin, await, done, whole, sub, look_in, stop, fld, load, addr, of_opd, first, blocks, exec, returns, enter, after, proved, ends_at, says, ftrue, flft, sem, D, B, box_out, of_reader}
use denote.Memory.{cell_at}
use denote.Ref.{MutRef, mut_vals, mut_Tells}
use denote.Follow.{follows, Part, lends_Part}
use Rattle.obman_c_base.proofs.Lent.{rest, gives_back}
use Rattle.obman_c_base.specs.Lending.{with_reader}
use Rattle.obman_c_base.specs.contracts.owned.OwnedReader.{the_row as Held}
use Rattle.obman_c_base.specs.contracts.reader_owner.ReaderOwner.{the_row as Owner}
use Rattle.obman_c_base.specs.contracts.reader_owner.ReaderOwner.lend as F
use Rattle.obman_c_base.specs.contracts.reader_owner.ReaderOwner.lend.Key.{name as #self}
use Rattle.obman_c_base.proofs.reader_owner.ReaderOwner.lend.Statement.{statement}
use Rattle.obman_c_base.proofs.reader_owner.ReaderOwner.lend.Code as code

abbrev stayed : Stays (F.ended).signature.params (F.ended).kept
stayed = (stay_dropped (mut_ref_to (0 ∷ []) tt (plain (λ _. Owner))) no, tt)

-- the box that an owner hides
abbrev hidden : Owner.Denot → D of_reader
hidden owner = record { ptr = owner.at; alloc = owner.alloc; value = owner.value }

pub lend_spec : {M : Type 1} → statement M
lend_spec 𝓤 𝓛 𝓜 𝓡 wired =
    let 𝓣 = tables 𝓤 𝓛.H 𝓜 𝓡 𝓡.env in let c = F.clauses 𝓛 𝓜.mem 𝓡.returns in let W = walk_of 𝓛 F.ended stayed c in
    proved 𝓛 F.ended stayed c 𝓜 𝓡 (
      Goes-spent_ref 𝓛 1 (0 ∷ []) tt (plain (λ _. Owner)),
      tt,
    ) #self code.function (code.unfolded 𝓤 𝓛.H 𝓜 𝓡 wired)
    (λ κs. (mut_vals, tt)) (λ κs. (mut_Tells (named 0) κs.0 Owner, tt)) (λ κs qs bounds a g are.
    let κ = κs.0 in let q = qs.0 in let owner = a.0.now in let γ = a.0.ghost_name in let rb = a.0.ref_ptr.0 in
    let ro = a.0.ref_ptr.1 in let en = env code.function.locals in
    let y : W.Ghost = ((κs, qs, bounds, a, (vptr rb ro ∷ [], tt)), g) in
    qed 𝓛 (((‵ (flft κ q) ⊛ ‵ ftrue) ⊛ ‵ (owns (MutRef (named 0) κ Owner ∷ []) a y.0.4)) ∷ raw (emp 𝓤) ∷ []) ∵ split ! $
    move ! (2 ∷ []) $ drop ! $
    enter ! _ _ _ _ _ $ alloc_all ! (λ l. pass_all ! refl ((tt, tt), tt) $
    -- [the token; the `&mut`]
    move ! (1 ∷ []) $ fsplit ! $ fsplit3 ! $ drop ! $ move ! (3 ∷ []) $ split ! $ move ! (2 ∷ 3 ∷ 0 ∷ []) $
    opens ! tt Owner {h = owner} rb ro (λ words. move ! (1 ∷ []) $
    use1 𝓛 (‵ ((B of_reader).own_val (hidden owner) words)) (id⊢ 𝓤 _) $
    box_out of_reader ! (hidden owner) words (λ b o h at_b is fits. move ! (1 ∷ 2 ∷ []) $ fjoin ! $ move ! (1 ∷ []) $
    rewrite ! 2 (λ (vs : List Val). ‵ (cell_at full_share Owner.mir vs rb ro)) is refl $
    first ! $ blocks ! $
    sets ! (of_opd ! (load ! (through ! refl (fld ! refl (stop !))) (look_in ! 2 (sub ! 0 refl (whole !))))) refl (
      tt,
      tt,
    ) $
    sets ! (of_opd ! (get ! refl)) refl (tt, tt) $
    sets_last ! (addr ! (through ! refl (stop !))) refl (tt, tt) $
    exec ! 𝓣.C 𝓣.Λ (en l) (after 1 code.function.body) (at_ret (en l) (W.post y)) $
    sets ! (of_opd ! (get ! refl)) refl (tt, tt) $
    -- what is lent goes out, and comes back when the borrow ends
    move ! (1 ∷ 2 ∷ []) $ fjoin ! $ move ! (2 ∷ 3 ∷ 4 ∷ 1 ∷ 0 ∷ []) $ group ! 5 $
    let back = gives_back of_reader Owner (hidden owner) rb ro b o h 𝓛 (with_reader owner) (λ x vs. id⊢ 𝓤 _) at_b in
    let kept = sem 𝓛 (rest of_reader Owner (hidden owner) rb ro b o h) in
    use1 𝓛 (later (some (λ (γ' : GName). raw (Part 𝓛 Owner Held (with_reader owner)
    (named 0) κ q rb ro b o γ kept back owner.value γ'))))
    (lends_Part 𝓛 Owner Held (with_reader owner) (named 0) κ q rb ro b o γ kept back (Owner.coded.code owner)
    (Owner.coded.code owner) owner.value) $ await ! tt $ pick ! (λ γ'.
    returns ! (look_at ! 0 refl) $ free_all ! refl $ keep ! (0 ∷ []) $
    use1 𝓛 (‵ ((MutRef (named 0) κ Held).own_val (record { ref_ptr = (b, o); ghost_name = γ'; now = owner.value })
    (vptr b o ∷ [])) ⊛ (‵ (flft κ q) ⊛ ‵ (follows Owner Held γ γ' (with_reader owner)))) (id⊢ 𝓤 _) $ split ! $
    move ! (1 ∷ []) $ split ! $ move ! (2 ∷ 0 ∷ 1 ∷ []) $
    suffices ! _ (ends_at 𝓛 F.ended stayed c y (vptr b o) (record {
      ref_ptr = (b, o);
      ghost_name = γ';
      now = owner.value;
    }) (tt, tt) (tt, tt)) $
    nothing ! $ nothing ! $ fjoin ! $ join ! $ nothing ! $ move ! (2 ∷ 0 ∷ []) $ join ! $ join ! $ frame ! $ says !
    refl $ done !)))))
