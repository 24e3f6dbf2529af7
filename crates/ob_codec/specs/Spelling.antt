-- The one spelling of each value, and which values have one.
use Rattle.std.specs.Prelude.{◌≡◌, ℕ, ◌<◌, ◌^◌, nat_le, List, [], ◌∷◌, ◌++◌, length, Bool, true, false, Option, Some, None, slice_index}
use Rattle.std.specs.List.{flat_map, AllByRecursion}
use Rattle.std.specs.Int.{w32, to_le_bytes}

abbrev pub flag : Bool → List ℕ
flag false = 0 ∷ []
flag true = 1 ∷ []

abbrev pub option : {A : Type 0} → (A → List ℕ) → Option A → List ℕ
option spell None = 0 ∷ []
option spell (Some x) = 1 ∷ spell x

abbrev pub list : {A : Type 0} → (A → List ℕ) → List A → List ℕ
list spell xs = to_le_bytes w32 (length xs) ++ flat_map spell xs

abbrev pub string : List ℕ → List ℕ
string bytes = to_le_bytes w32 (length bytes) ++ bytes

abbrev pub both : {A B : Type 0} → (A → List ℕ) → (B → List ℕ) → A × B → List ℕ
both spell_a spell_b p = spell_a p.0 ++ spell_b p.1

abbrev pub Any : {A : Type 0} → A → Type 0
Any x = Unit {0}

abbrev pub OptionFits : {A : Type 0} → (A → Type 0) → Option A → Type 0
OptionFits Fits None = Unit {0}
OptionFits Fits (Some x) = Fits x

abbrev pub ListFits : {A : Type 0} → (A → Type 0) → List A → Type 0
ListFits Fits xs = (length xs < 2 ^ 32) × AllByRecursion Fits xs

-- the same of a list of which no more than so many values may stand there
abbrev pub FewFit : {A : Type 0} → ℕ → (A → Type 0) → List A → Type 0
FewFit most Fits xs = ListFits Fits xs × (nat_le (length xs) most ≡ true)

abbrev pub BothFit : {A B : Type 0} → (A → Type 0) → (B → Type 0) → A × B → Type 0
BothFit FitsA FitsB p = FitsA p.0 × FitsB p.1

abbrev pub StringFits : List ℕ → Type 0
StringFits bytes = length bytes < 2 ^ 32

-- every number of the list is a byte
abbrev pub AreBytes : List ℕ → Type 0
AreBytes bytes = (i : ℕ) → slice_index bytes i < 256
