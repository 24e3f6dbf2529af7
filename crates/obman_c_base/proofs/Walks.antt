-- The names of the logic that the walks in owner/ cite, and what a box is under the names of this crate.
pub use mathlib.Core.Path.{◌≡◌, refl, sym, ap, ◌∙◌}
pub use mathlib.Core.List.{List, [], ◌∷◌, ◌++◌}
pub use Prim.Native.Nat.{ℕ}
pub use lib.Dec.{T, lit<}
pub use base.Logic.{SProp, ent, sep, emp, id⊢, never, fst∗}
pub use base.Fml.{Fml, GName, ftrue, flft, fsep}
pub use base.Fraction.{full_share}
pub use contract.BorrowLft.{◌⊑◌}
pub use contract.Monad.{fact}
pub use contract.Running.{tables, tables_of}
pub use denote.Exit.{yes, no}
pub use denote.Param.{bounded, layout}
use denote.Param.Laws.{Laws}
pub use denote.RattleType.{RattleType, owns}
pub use denote.RawPtr.{Ptr, RawPtr, block_ptr, null_ptr, ptr_val, in_a_block}
pub use denote.Signature.{plain, type_at, types_at, mut_ref_to}
pub use denote.Steps.{heard, nothing, only, opens}
pub use denote.Struct.Tuple.{Tuple}
pub use denote.Triple.Call.{calls_at, calls_at_last}
pub use denote.Triple.Clauses.{Lasts, lasts}
pub use denote.Triple.Spec.{triple_of}
pub use denote.Triple.Walked.{Stays, stay_dropped, walk_of, ends_at, says, Goes-dropped, Goes-spent_ref}
pub use mir.MapTy.{inst_fn}
pub use mir.Raw.{raw as bare}
pub use mir.Syntax.{a_type, dcons, dnil, impl, named, tnil}
pub use mir.Val.{Val, vptr, vnull, vstruct, vcons, vnil, of_list, has_ty, WT}
pub use prog.Wp.{WpFn}
pub use sound.WpLaws.{fm_of}
pub use types.ByLocal.{alloc_all, pass_all, free_all, look_at, get, get_in, through, sets, sets_last, lands_as, lands_last, env}
pub use types.Kit.{‵, raw, ◌⊛◌, some, later, prop, at_ret, ◌$◌, ◌∵◌, !, qed, by, move, keep, drop, use0, use1, join, split, split3, group, pick, rewrite, regoal, suffices, frame, fsplit, fsplit3, fjoin, fpick, fpack, feq_l, feq_i, await, done}
pub use types.Logic.{Logic, sem}
pub use types.Part.{whole, sub, agg, look_in}
pub use types.Match.{live}
pub use types.Run.{stop, fld, load, addr, lit, bin, no_more, and_then, of_opd, first, blocks, branches, exec, returns, enter}
pub use Rattle.std.proofs.alloc.Calls.{token, handle_tells, Goes-blank}
pub use Rattle.std.proofs.ResultValues.{and_tt}
pub use Rattle.std.proofs.VecSteps.Shapes.{after}
pub use Rattle.std.proofs.raw_atomic.Walks.{proved, proved_at}
pub use Rattle.std.specs.Box.Ownership.{box_owns}
use Rattle.std.specs.contracts.alloc.Global as heap
use Rattle.std.specs.contracts.impls.GlobalAllocator.TheImpl.{ghosts, dict}
use Rattle.std.proofs.alloc.Global.TheLaws as heap_laws
use Rattle.obman_c_base.specs.contracts.owned.OwnedManager as held
use Rattle.obman_c_base.proofs.owned.OwnedManager.TheLaws as manager_laws
use Rattle.obman_c_base.specs.contracts.owned.OwnedReader as hand
use Rattle.obman_c_base.proofs.owned.OwnedReader.TheLaws as reader_laws
pub use Rattle.std.proofs.BoxSteps.Form.{Bx, D, B, R, P, τ, box_ty, handle, word, box_typed}
pub use Rattle.std.proofs.BoxSteps.Steps.{box_out, box_in}

-- a box on C's heap
abbrev pub on_heap : (R : RattleType) → Laws R → Bx
on_heap R laws = record {
  row = R;
  laws = laws;
  al =
      record { row = heap.the_row; laws = heap_laws.the_row_laws; g = ghosts; d = dict; drops = impl [] tnil dnil };
}

-- a box of a manager
abbrev pub of_manager : Bx
of_manager = on_heap held.the_row manager_laws.the_row_laws

-- a box of a reader
abbrev pub of_reader : Bx
of_reader = on_heap hand.the_row reader_laws.the_row_laws
