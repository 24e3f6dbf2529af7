-- The pointer and the allocator move to the place, and what they own goes with them.
use Rattle.obman_c_base.proofs.Walks.{refl, [], ◌∷◌, ◌++◌, List, Val, id⊢, yes, plain, nothing, Stays, stay_dropped, walk_of, Goes-dropped, WpFn, tables, alloc_all, pass_all, free_all, look_at, get, get_in, sets, ‵, raw, ◌⊛◌, prop, ◌$◌, ◌∵◌, !, qed, keep, drop, use1, join, split, regoal, fsplit, fjoin, whole, sub, agg, stop, fld, no_more, and_then, of_opd, returns, enter, proved_at, ends_at, says, suffices, done, ftrue, fsep, emp, D, B, word, box_typed, box_out, box_in, of_reader}
use Rattle.std.specs.Prelude.{Some}
use Rattle.obman_c_base.specs.contracts.reader_owner.ReaderOut as Place
use Rattle.obman_c_base.specs.contracts.parts.BoxParts as BoxParts
use Rattle.obman_c_base.specs.contracts.reader_owner.ReaderOut.of_parts as F
use Rattle.obman_c_base.specs.contracts.reader_owner.ReaderOut.of_parts.Key.{name as #self}
use Rattle.obman_c_base.proofs.reader_owner.ReaderOut.of_parts.Statement.{statement}
use Rattle.obman_c_base.proofs.reader_owner.ReaderOut.of_parts.Code as code

abbrev stayed : Stays (F.ended).signature.params (F.ended).kept
stayed = (stay_dropped (plain (λ _. BoxParts.the_row of_reader.row of_reader.al.row of_reader.al.g)) yes, tt)

pub of_parts_spec : {M : Type 1} → statement M
of_parts_spec 𝓤 𝓛 𝓜 𝓡 wired =
    let 𝓣 = tables 𝓤 𝓛.H 𝓜 𝓡 𝓡.env in let c = F.clauses 𝓛 𝓜.mem 𝓡.returns in let E = of_reader in
    proved_at 𝓛 F.ended stayed c 𝓜 𝓡 (
      Goes-dropped 𝓛 0 (plain (λ _. BoxParts.the_row E.row E.al.row E.al.g)) yes
          (λ κs x f. refl),
      tt,
    ) #self code.function (code.unfolded 𝓤 𝓛.H 𝓜 𝓡 wired) (λ z are.
    let parts = z.0.3.0 in
    let boxed : D E = record { ptr = parts.at; alloc = parts.alloc; value = parts.value } in
    let place : (Place.the_row).Denot = record { at = parts.at; alloc = parts.alloc; value = Some parts.value } in
    qed 𝓛 ((‵ ftrue ⊛ ‵ (fsep ((B E).own_val boxed z.0.4.0) ftrue)) ∷ raw (emp 𝓤) ∷ []) ∵ split ! $ drop ! $ fsplit ! $
    box_out E ! boxed z.0.4.0 (λ b o h at_b is fits.
    regoal ! (λ (vs : List Val). prop (WpFn 𝓤 𝓛.H 𝓣.C 𝓣.Λ code.function (vs ++ [])
    ((walk_of 𝓛 F.ended stayed c).post z))) is refl $
    box_in E ! boxed b o parts.value at_b refl $ use1 𝓛 (‵ ((Place.the_row).own_val place (word E h b o ∷ [])))
    (id⊢ 𝓤 _) $
    enter ! _ _ _ _ _ $ alloc_all ! (λ l. pass_all ! refl (box_typed E h b o fits, tt) $
    sets ! (of_opd ! (get_in ! (fld ! refl (stop !)) (sub ! 0 refl (whole !)))) refl (tt, tt) $
    sets ! (of_opd ! (get_in ! (fld ! refl (stop !)) (sub ! 1 refl (whole !)))) refl fits $
    sets ! (of_opd ! (get ! refl)) refl (tt, tt) $
    sets ! (agg ! (and_then ! (get ! refl) (and_then ! (get ! refl) (no_more !)))) refl (box_typed E h b o fits) $
    returns ! (look_at ! 0 refl) $ free_all ! refl $ keep ! (0 ∷ []) $
    suffices ! _ (ends_at 𝓛 F.ended stayed c z (word E h b o) place (tt, tt) (tt, tt)) $ says ! refl $
    nothing ! $ nothing ! $ fjoin ! $ join ! $ nothing ! $ join ! $ done !)))
