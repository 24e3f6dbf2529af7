-- Names that are the same by test are one.
use Rattle.std.proofs.Common.{◌≡◌, ℕ, true, refl, ap, sym}
use Rattle.std.specs.Bool.{Decides}
use Rattle.std.specs.Str.{bytes_eq}
use Rattle.std.specs.Cmp.{IsEquivalence, IsPartialEquivalence, partial_equiv_from_equiv, both_ways}
use Rattle.std.proofs.lemmas.Bool.{and_parts}
use Rattle.std.proofs.lemmas.Bool.Decides.{Decides-eqb}
use Rattle.std.proofs.lemmas.Slice.Eq.{bytes_eq-Decides}
use Rattle.ob_name.specs.Names.{Namespace, ObjectName, Global, Session}
use Rattle.ob_name.specs.Keys.{fed_name}
use Rattle.ob_name.specs.Listing.{same_name, same_space}

same_space-Decides : (a b : Namespace) → Decides (same_space a b) (a ≡ b)
same_space-Decides Global Global = (λ _. refl, λ _. refl)
same_space-Decides Global (Session n) = (λ is. cc, λ is. cc)
same_space-Decides (Session n) Global = (λ is. cc, λ is. cc)
same_space-Decides (Session m) (Session n) = (
  λ is. ap (λ (k : ℕ). Session k) ((Decides-eqb m n).0 is),
  λ is. (Decides-eqb m n).1 (session_is m n is),
)
  where
    session_is : (m n : ℕ) → ◌≡◌ {A = Namespace} (Session m) (Session n) → m ≡ n
    session_is m n is = cc

pub same_name-Decides : (a b : ObjectName) → Decides (same_name a b) (a ≡ b)
same_name-Decides a b = (
  λ is.
      let parts = and_parts (same_space a.space b.space) (bytes_eq a.base b.base) is in
      let space : a.space ≡ b.space = (same_space-Decides a.space b.space).0 parts.0 in
      let base : a.base ≡ b.base = (bytes_eq-Decides a.base b.base).0 parts.1 in
      λ i. record { space = space i; base = base i },
  λ is.
      let space : same_space a.space b.space ≡ true =
      (same_space-Decides a.space b.space).1 (ap (λ (n : ObjectName). n.space) is) in
      let base : bytes_eq a.base b.base ≡ true = (bytes_eq-Decides a.base b.base).1 (ap (λ (n : ObjectName). n.base) is)
      in
      rw (space, base) refl,
)

pub same_name_equiv : IsEquivalence same_name
same_name_equiv = record {
  refl = λ x. (same_name-Decides x x).1 refl;
  symm = λ x y. both_ways (same_name x y) (same_name y x)
      (λ is. (same_name-Decides y x).1 (sym ((same_name-Decides x y).0 is)))
      (λ is. (same_name-Decides x y).1 (sym ((same_name-Decides y x).0 is)));
  congr = λ x y z is. ap (λ (n : ObjectName). same_name n z) ((same_name-Decides x y).0 is);
}

pub same_name_per : IsPartialEquivalence same_name
same_name_per = partial_equiv_from_equiv same_name_equiv

pub fed_alike : (a b : ObjectName) → same_name a b ≡ true → fed_name a ≡ fed_name b
fed_alike a b is = ap fed_name ((same_name-Decides a b).0 is)
