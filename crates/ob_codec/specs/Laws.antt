-- The one law of a codec: its spelling and its reading undo each other.
use Rattle.std.specs.Prelude.{◌≡◌, ℕ, List, ◌++◌, Ok}
use Rattle.ob_codec.specs.Reading.{Read}
use Rattle.ob_codec.specs.Spelling.{AreBytes}

-- some bytes are a text and what is left
pub record Takes (bytes text rest : List ℕ) : Type 0 where
  pub parts : bytes ≡ text ++ rest
  pub rest_fits : AreBytes rest

-- what fits is read as it was spelled, whatever stands behind it
abbrev pub ReadsAgain : {A : Type 0} → (A → List ℕ) → (List ℕ → Read A) → (A → Type 0) → Type 0
ReadsAgain {A = A} spell read Fits = (x : A) (rest : List ℕ) → Fits x → read (spell x ++ rest) ≡ Ok (x, rest)

-- what is read was spelled so, and fits
abbrev pub TakesSpelled : {A : Type 0} → (A → List ℕ) → (List ℕ → Read A) → (A → Type 0) → Type 0
TakesSpelled {A = A} spell read Fits =
    (bytes : List ℕ) (x : A) (rest : List ℕ) → AreBytes bytes → read bytes ≡ Ok (x, rest)
    → Takes bytes (spell x) rest × Fits x

pub record IsCodec {A : Type 0} (spell : A → List ℕ) (read : List ℕ → Read A) (Fits : A → Type 0) : Type 0 where
  pub again : ReadsAgain spell read Fits
  pub takes : TakesSpelled spell read Fits

-- the same of the values of one form, behind the byte that says which it is
pub record IsVariant {A : Type 0} (t : ℕ) (tag : A → ℕ) (body : A → List ℕ) (read : List ℕ → Read A) (Fits : A
    → Type 0) : Type 0 where
  pub again : (x : A) (rest : List ℕ) → tag x ≡ t → Fits x → read (body x ++ rest) ≡ Ok (x, rest)
  pub takes : (bytes : List ℕ) (x : A) (rest : List ℕ) → AreBytes bytes → read bytes ≡ Ok (x, rest)
      → Takes bytes (body x) rest × Fits x × (tag x ≡ t)
