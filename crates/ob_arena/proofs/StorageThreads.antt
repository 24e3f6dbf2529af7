-- A storage crosses threads where its bodies do, and a title where its allocator does.
use Rattle.ob_arena.proofs.Cited.{arith, IsSend, IsSync, Frees, Common, AllSend, part_keyless, owning_send, sendable, Ghosts, slots, slots_lent, storage_owns, storage_lends}
use Rattle.ob_arena.proofs.Steps.{ℕ, ◌+◌, List, [], ◌∷◌, full_share, RattleType, Ptr, block_ptr, null_ptr, Option, Some, None, type_size}
use base.Shift.{Keyless}
use denote.Struct.Owning.{fields}
use Rattle.ob_arena.specs.contracts.storage.Storage as StorageType
use Rattle.ob_arena.specs.contracts.storage.Title as TitleType

module _ (B : RattleType) where
  slots_keyless : IsSend B → (b o : ℕ) (ss : List (Option B.Denot)) → Keyless (slots B b o ss)
  slots_keyless s b o [] = tt
  slots_keyless s b o (Some x ∷ ss) = (part_keyless B s full_share x b o, slots_keyless s b (o + type_size B) ss)
  slots_keyless s b o (None ∷ ss) = (tt, slots_keyless s b (o + type_size B) ss)

  slots_common : IsSync B → (b o : ℕ) (ss : List (Option B.Denot)) → Common (slots_lent B b o ss)
  slots_common y b o [] κ = tt
  slots_common y b o (Some x ∷ ss) κ = (y.shared x b o κ, slots_common y b (o + type_size B) ss κ)
  slots_common y b o (None ∷ ss) κ = (tt, slots_common y b (o + type_size B) ss κ)

  storage_keyless : IsSend B → (p : Ptr) (ss : List (Option B.Denot)) → Keyless (storage_owns B p ss)
  storage_keyless s (block_ptr b o) ss = (tt, slots_keyless s b o ss)
  storage_keyless s null_ptr ss = tt

  storage_common : IsSync B → (p : Ptr) (ss : List (Option B.Denot)) → Common (storage_lends B p ss)
  storage_common y (block_ptr b o) ss κ = (tt, slots_common y b o ss κ)
  storage_common y null_ptr ss κ = tt

  pub storage_send : IsSend B → IsSend (StorageType.the_row B)
  storage_send s =
      let O = StorageType.the_type B in let all : AllSend (fields O) = (search sendable, tt) in
      owning_send O all (λ d. storage_keyless s d.front d.slots) (search arith)

  pub storage_sync : IsSync B → IsSync (StorageType.the_row B)
  storage_sync y = search (arith, storage_common)

  module _ (A : RattleType) (g : Ghosts A.Denot) where
    pub title_send : Frees g g.dealloc_token → IsSend (TitleType.the_row B A g)
    title_send f =
        let O = TitleType.the_type B A g in let all : AllSend (fields O) = (search sendable, tt) in
        owning_send O all (λ d. f.frees d.alloc _ d.front) (search arith)

    pub title_sync : IsSync (TitleType.the_row B A g)
    title_sync = search arith
