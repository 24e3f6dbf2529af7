-- Steps of reading that met no fault.
use Rattle.std.proofs.Common.{◌≡◌, ℕ, suc, ◌+◌, Bool, true, false, cond, List, [], ◌∷◌, ◌++◌, take, drop, Result, Ok, Err, refl, append_assoc, arith}
use Rattle.std.proofs.lemmas.List.{length-take, get_or-drop, get_or-take, get_or_past}
use Rattle.ob_codec.specs.declared.fault.TextFault.{TextFault}
use Rattle.ob_codec.specs.Reading.{◌>>=◌, Read, end_of, whole_at}
use Rattle.ob_codec.specs.Spelling.{AreBytes}
use Rattle.ob_codec.specs.Laws.{Takes}

pub bytes-drop : (n : ℕ) (bytes : List ℕ) → AreBytes bytes → AreBytes (drop n bytes)
bytes-drop n bytes h i = rw get_or-drop (h (n + i))

pub bytes-take : (n : ℕ) (bytes : List ℕ) → AreBytes bytes → AreBytes (take n bytes)
bytes-take n bytes h i = search (arith, get_or-take, get_or_past, length-take)

pub bytes-rest : (b : ℕ) (bytes : List ℕ) → AreBytes (b ∷ bytes) → AreBytes bytes
bytes-rest b bytes h i = h (suc i)

-- the value of the first step
pub bind_ok : {A B : Type 0} (r : Result A TextFault) (f : A → Result B TextFault) (y : B) → (r >>= f) ≡ Ok y
    → (x : A) × (r ≡ Ok x) × (f x ≡ Ok y)
bind_ok (Ok x) f y e = (x, refl, e)
bind_ok (Err d) f y e = absurd cc

-- a test that refuses where it holds, or where it doesn't
pub guard_ok : {A : Type 0} (b : Bool) (d : TextFault) (x y : A) → cond b (Err d) (Ok x) ≡ Ok y → (b ≡ false) × (x ≡ y)
guard_ok true d x y e = absurd cc
guard_ok false d x y e = (refl, cc)

pub guard_passed : {A : Type 0} (b : Bool) (d : TextFault) (x y : A) → cond b (Ok x) (Err d) ≡ Ok y
    → (b ≡ true) × (x ≡ y)
guard_passed true d x y e = (refl, cc)
guard_passed false d x y e = absurd cc

abbrev done : {A : Type 0} → A → Result A TextFault
done x = Ok x

pub ok_is : {A : Type 0} (x y : A) → done x ≡ done y → x ≡ y
ok_is x y e = cc

-- what is read to the end has nothing behind it
pub whole_ok : {A : Type 0} (read : List ℕ → Read A) (bytes : List ℕ) (x : A) → whole_at read bytes ≡ Ok x
    → read bytes ≡ Ok (x, [])
whole_ok {A = A} read bytes x e =
    let a = bind_ok (read bytes) (λ (a : A × List ℕ). end_of a.1 >>= λ (nothing : Unit {0}). Ok a.0) x e in
    grind (arith, a)

pub takes-then : (a x b y c : List ℕ) → Takes a x b → Takes b y c → Takes a (x ++ y) c
takes-then a x b y c p q = search (arith, append_assoc)
