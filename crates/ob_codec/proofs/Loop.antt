-- Reading values one after the other, as a loop does.
use Rattle.std.proofs.Common.{◌≡◌, ℕ, suc, ◌-◌, ◌+◌, ◌≤◌, ◌<◌, List, [], ◌∷◌, ◌++◌, Ok, Err, refl, sym, ap, ◌∙◌, append_assoc, arith}
use Rattle.std.proofs.lemmas.List.{append-nil}
use Rattle.ob_codec.specs.declared.fault.ReadFault.{ReadFault}
use Rattle.ob_codec.specs.declared.fault.ReadFault.TheVariants.{Memory, Text}
use Rattle.ob_codec.specs.Reading.{◌>>=◌, Read, Fails, items_at}

-- what was read before, and what is still read
abbrev pub with_front : {A : Type 0} → List A → Read (List A) → Read (List A)
with_front {A = A} front read = read >>= λ (x : List A × List ℕ). Ok (front ++ x.0, x.1)

regroup : {A : Type 0} (front : List A) (x : A) (read : Read (List A))
    → with_front front (read >>= λ (y : List A × List ℕ). Ok (x ∷ y.0, y.1)) ≡ with_front (front ++ x ∷ []) read
regroup {A = A} front x (Ok y) = ap (λ (xs : List A). Ok (xs, y.1)) (simp append_assoc)
regroup front x (Err f) = refl

pub goes_on : {A : Type 0} (at : List ℕ → Read A) (front : List A) (count i : ℕ) (bytes : List ℕ) (x : A)
    (after : List ℕ) (total : Read (List A)) → i < count → at bytes ≡ Ok (x, after)
    → with_front front (items_at at (count - i) bytes) ≡ total
    → with_front (front ++ x ∷ []) (items_at at (count - (i + 1)) after) ≡ total
unfolding items_at
goes_on at front count i bytes x after total lt h so_far =
    let k : count - i ≡ suc (count - (i + 1)) = omega arith in
    let one : with_front front (items_at at (count - i) bytes)
    ≡ with_front (front ++ x ∷ []) (items_at at (count - (i + 1)) after) =
    rw (k, h) (regroup front x (items_at at (count - (i + 1)) after)) in
    sym one ∙ so_far

pub ends : {A : Type 0} (at : List ℕ → Read A) (e : ReadFault) (front : List A) (count i : ℕ) (bytes : List ℕ)
    (total : Read (List A)) → i < count → Fails e (at bytes)
    → with_front front (items_at at (count - i) bytes) ≡ total → Fails e total
unfolding items_at
ends at Memory front count i bytes total lt h so_far = tt
ends at (Text f) front count i bytes total lt h so_far =
    let k : count - i ≡ suc (count - (i + 1)) = omega arith in
    search arith

pub is_done : {A : Type 0} (at : List ℕ → Read A) (front : List A) (count i : ℕ) (bytes : List ℕ)
    (total : Read (List A)) → count ≤ i → with_front front (items_at at (count - i) bytes) ≡ total
    → total ≡ Ok (front, bytes)
unfolding items_at
is_done {A = A} at front count i bytes total le so_far = let k : count - i ≡ 0 = omega arith in search (arith, append-nil)
