-- A `&` to a storage reaches each of its bodies.
use Rattle.ob_arena.proofs.Steps.{[], ◌++◌, Incl-trans, meet_⊑_left, RattleType, RawPtr, Laws, copy_shared, field_copy, of_Lends}
use Rattle.std.specs.contracts.marker.PhantomData as marker
use Rattle.ob_arena.specs.contracts.storage.Storage as StorageType
use Rattle.ob_arena.proofs.storage.Storage.TheLaw.Statement.{statement}
use Rattle.ob_arena.proofs.StorageSharing.{storage_laws, storage_shares}

pub shares : (B : RattleType) (L : Laws B) → statement B L
shares B L = of_Lends (StorageType.struct B) (StorageType.the_codes B.Denot B.coded (marker.the_row RawPtr).coded)
    (StorageType.the_heap B) (StorageType.the_lent B)
    (λ d p. storage_laws B L.shr_laws d.front d.slots)
    (copy_shared (marker.the_field RawPtr) (field_copy (marker.the_type RawPtr) tt), tt)
    (λ M 𝓤 𝓛 d p. storage_shares 𝓛 (StorageType.the_row B).lives B L
    (Incl-trans (meet_⊑_left (B.lives ++ []) _) (meet_⊑_left B.lives [])) d.front d.slots)
