-- What the proofs of this crate cite from elsewhere, passed on.
pub use Rattle.ob_arena.specs.Arena.{slots_shown, ArenaInvariant}
pub use Rattle.ob_arena.specs.Memory.{slot, slots, slot_lent, slots_lent, fit, storage_owns, storage_lends, title_owns}
pub use Rattle.ob_arena.specs.Phases.{is_occupied, is_in_use, is_vacant, is_retired}
pub use Rattle.ob_arena.specs.Slots.{IsFilled, is_vacant_at, least_vacant, vacant_count, with_body, without_body, with_retired, vacant_slots, Slots, body_at}
pub use Rattle.ob_arena.specs.declared.phase.Phase.TheVariants.{Vacant, Occupied, Retired}
pub use Rattle.std.proofs.Common.{◌≡◌, ◌∙◌, ap, ℕ, ◌+◌, ◌<◌, ◌≤◌, List, length, map, get_or, Option, Some, None, Bool, true, false, arith, ⊎_elim, sym, refl, cond, zero, suc, ◌-◌, [], ◌∷◌, replicate, set, ltb, lt-ltb, zero-add, length-set}
pub use Rattle.std.proofs.alloc.Calls.{Al, second, Answer-typed, takes_key, Takes, at_takes, Answered, Takes-goes, Takes-gives, answers, token, gives_key, Gives, at_gives, Gives-goes, Gives-Gives, Goes-blank}
pub use Rattle.std.proofs.lemmas.List.{get_or_default, get_or_past, ext_get_or, get_or-replicate, get_or-set_same, map-set, length-map, length-replicate}
pub use Rattle.std.specs.Prelude.{is_some, is_none, not, ◌&&◌, slice_get, IsSome, count_by, find}
pub use Rattle.std.specs.declared.alloc.Allocator.{Ghosts}
pub use denote.Param.Send.{IsSend, IsSync, Frees, Common, AllSend, part_keyless, owning_send, sendable}
pub use denote.RattleType.{RattleType}
