-- What C's pointer owns: what a box owns, and nothing where nothing was put.
use base.Fml.{Fml, feq, ftrue}
use denote.RattleType.{RattleType}
use denote.RawPtr.{Ptr, null_ptr}
use Rattle.std.specs.Prelude.{Option, Some, None}
use Rattle.std.specs.Box.Ownership.{box_owns}
use Rattle.std.specs.declared.alloc.Global.{Global}
use Rattle.std.specs.contracts.impls.GlobalAllocator.TheImpl.{ghosts}

abbrev pub owner_owns : (R : RattleType) → Global → Ptr → R.Denot → Fml
owner_owns R alloc = box_owns (ghosts.dealloc_token alloc) R

abbrev pub place_owns : (R : RattleType) → Global → Ptr → Option R.Denot → Fml
place_owns R alloc at None = ftrue
place_owns R alloc at (Some held) = owner_owns R alloc at held

-- what C passes at an end: what a box owns, and nothing where the pointer is null
abbrev pub owns_or_null : (R : RattleType) → Global → Ptr → Option R.Denot → Fml
owns_or_null R alloc at None = feq Ptr at null_ptr
owns_or_null R alloc at (Some held) = owner_owns R alloc at held
