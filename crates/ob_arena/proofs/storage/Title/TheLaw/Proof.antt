-- A `&` to a title holds nothing.
use Rattle.ob_arena.proofs.Steps.{RattleType, RawPtr, Laws, copy_shared, nothing_shr_laws, field_copy, of_Lends, Lends-nothing}
use Rattle.std.specs.declared.alloc.Allocator.{Ghosts}
use Rattle.std.specs.contracts.marker.PhantomData as marker
use Rattle.ob_arena.specs.contracts.storage.Title as TitleType
use Rattle.ob_arena.proofs.storage.Title.TheLaw.Statement.{statement}

pub shares : (B A : RattleType) (g : Ghosts A.Denot) (L : Laws B) (P : Laws A) → statement B A g L P
shares B A g L P =
    of_Lends (TitleType.struct B A g) (TitleType.the_codes B.Denot A.Denot B.coded A.coded
    (marker.the_row RawPtr).coded) (TitleType.the_heap B A g) (TitleType.the_lent B A g) (λ d p. nothing_shr_laws) (
      copy_shared (marker.the_field RawPtr) (field_copy (marker.the_type RawPtr) tt),
      tt,
    ) (λ M 𝓤 𝓛 d p. Lends-nothing 𝓛 (TitleType.the_heap B A g d) (TitleType.the_row B A g).lives)
