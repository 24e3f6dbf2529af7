-- What the proofs of the functions with a pointer cite, passed on.
pub use mathlib.Core.Path.{◌≡◌, refl, sym, ap, subst, ◌∙◌}
pub use Prim.Native.Nat.{ℕ, zero, suc, ◌+◌, ◌*◌, ◌<◌, ◌^◌}
pub use native.Mathlib.Omega.{arith}
pub use native.Mathlib.Nat.{zero-mul}
pub use mathlib.Core.Bool.{true, false}
pub use mathlib.Core.List.{List, [], ◌∷◌, ◌++◌}
pub use lib.Dec.{T, lit<}
pub use lib.ListN.{length, set, get_or, replicate, length-set, length-replicate}
pub use seplogic.Ra.Ura.{Ura}
pub use base.Fraction.{full_share}
pub use base.Logic.{fst∗, SProp, ent, sep, emp, ex, guard, via, never, id⊢}
pub use base.Fml.{Lft, GName, Share, Fml, Incl, Incl-trans, ftrue, ffalse, fsep, fat, froom, flft, fobs, fbor}
pub use mir.Syntax.{Ty, Fn, Body, Args, named, w64, a_type, ty_unit, ty_array, dcons, dnil}
pub use mir.MapTy.{inst_fn}
pub use mir.Raw.{raw as bare}
pub use mir.Val.{Val, has_ty, WT, vptr, vint, vunit, vstruct, vcons, vnil, of_list}
pub use prog.Capped.{capped_fits}
pub use prog.Memory.{Memory, size, align, capped}
pub use prog.RawLaws.{size-raw, align-raw}
pub use prog.Routine.{Routine}
pub use prog.Wp.{Env, Calls, Loops, Wp, WpFn, Tables, after_seq, at_return}
pub use contract.BorrowLft.{◌⊑◌, meet_⊑_left}
pub use contract.Monad.{Fun, fact, fact_i}
pub use contract.Running.{tables}
unfoldable pub use contract.Running.{tables_of}
pub use sound.WpLaws.{WpFn-mono, FmC, fm_of}
pub use types.Logic.{Logic, sem}
pub use types.SemTy.{Body as Borrowed}
pub use types.Kit.{Item, Goal, Seq, Step, step, prop, Post as After, any_q, ⋆, ‵, raw, ◌⊛◌, some, given, later, await, learn, at_ret, ◌$◌, ◌∵◌, !, qed, by, move, keep, drop as skip, use0, use1, use2, use3, pick, split, join, group, check, show, rewrite, fsplit, fsplit3, fjoin, fjoin3, fpick, fpack, feq_i, feq_l, flt_l, flt_i, suffices, frame, done}
pub use types.Match.{live, vrt, in_variant}
pub use types.Part.{whole, sub, agg}
pub use types.Run.{init, stop, fld, lit, unit_lit, of_opd, bin, size_lit, size_word, align_word, addr, load, look, and_then, no_more, assigns_last, first, blocks, switches_on, exec, returns, enter}
pub use types.ByLocal.{alloc_all, pass_all, free_all, look_at, get, get_in, get_tag, through, sets, sets_last, take_at, give_at, lands_as, lands_last, is, env}
pub use denote.Builtin.{RefOf, RefMutOf, unit, usize}
pub use denote.Exit.{yes, no}
pub use denote.Follow.{follows, Part, lends_Part}
pub use denote.Laws.{Typed, Is, shows}
pub use denote.Memory.{mem, cell_at, part_at, hidden_shr}
unfoldable pub use denote.Memory.{part_of}
pub use denote.Opens.{hide, unhide}
pub use denote.Param.{param, bounded, layout, layouts}
pub use denote.Param.Laws.{Laws, param_laws}
pub use denote.Param.Shared.{copy_shared}
pub use denote.RattleType.{RattleType, RowLaws, Valss, owns}
pub use denote.RawPtr.{Ptr, RawPtr, block_ptr, null_ptr, ptr_val, in_a_block}
pub use denote.Ref.{Bor, MutBor, MutRef, ShrRef}
pub use denote.Shadow.{makes_shadow}
pub use denote.Shares.{Shares-less}
pub use denote.Sharing.{ShrLaws, said}
pub use denote.SharingLaws.{beside_shr_laws, nothing_shr_laws, said_shr_laws}
pub use denote.Signature.{plain}
pub use denote.Steps.{nothing, opens, closes, owned, peeks}
pub use denote.Struct.Laws.{field_copy}
pub use denote.Struct.Lending.{Lends, Lends-both, Lends-nothing, Lends-said, Lends-false, of_Lends}
pub use denote.Struct.Owning.{shape}
pub use denote.Struct.Struct.{Shape, Struct, Struct-Makes, within}
pub use denote.Struct.Tuple.{Tuple, tuple_type}
pub use denote.Triple.Call.{calls_at, calls_at_last}
pub use denote.Triple.Carry.{spared}
pub use denote.Triple.Clauses.{Clauses, Ended, closing}
pub use denote.Triple.Entry.{on_entry}
pub use denote.Triple.Spec.{Meets, triple_of}
pub use denote.Triple.Statement.{Triple}
pub use denote.Triple.Table.{entered, run_framed}
pub use denote.Triple.Walked.{says, needs, Stays, stay_dropped, stay_ref, walk_of, walked, ends_at, Goes-dropped, Goes-ref, Goes-spent_ref, walk_Meets}
pub use borrow.Table.OneValue.{part_in, part_out}
pub use Rattle.std.specs.Prelude.{Option, Some, None, IfOk, Ok, Err}
pub use Rattle.std.specs.Mem.{type_size}
pub use Rattle.std.specs.Vec.Ownership.{FitsInBlock}
pub use Rattle.std.proofs.mem.Param.{El, R, args, el_x, elτ}
pub use Rattle.std.proofs.ptr.Rows.{times_below, one_below}
pub use Rattle.std.proofs.RawLayout.{as_raw, as_written}
pub use Rattle.std.proofs.RcSteps.{Good, word, word-Good, first_Good}
pub use Rattle.std.proofs.ResultValues.{ok_of, err_of}
pub use Rattle.std.proofs.VecSteps.Shapes.{after, head, arm_body}
