-- A struct that has only ghost fields lies nowhere, and is made of nothing.
use Rattle.pin_words.proofs.Cited.{arith, List, [], ◌∷◌, refl, Ura, Val, vstruct, vnil, Logic, Goal, Step, Item, ‵, ◌$◌, fjoin, fpack, feq_i, RattleType, Valss, nothing}
use types.Kit.{step}
use denote.Struct.Struct.{Struct, within}

-- its value in memory
abbrev pub empty_value : Val
empty_value = vstruct vnil

abbrev pub empty_type : RattleType
empty_type = Struct (record { name = []; args = []; types = []; fields = [] })

-- it is owned at once
pub owns_empty : {M : Type 1} {𝓤 : Ura M} {𝓛 : Logic 𝓤} {K : Type 0} {Γ : List (Item 𝓤)} {G : Goal 𝓤 𝓛.H} → K
    → Step K 𝓛 (‵ (empty_type.own_val tt (empty_value ∷ [])) ∷ Γ) G Γ G
owns_empty key = step (λ rest.
    nothing key $ feq_i key (List Val) (empty_value ∷ []) (empty_value ∷ []) refl $ fjoin key $
    fpack key (Valss []) (within (grind arith) tt (empty_value ∷ [])) tt $
    rest)
