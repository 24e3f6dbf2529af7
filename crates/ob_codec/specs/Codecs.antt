-- Each spelling with its reading is a codec.
use Rattle.std.proofs.Common.{◌≡◌, ℕ, zero, suc, ◌^◌, ◌<◌, ◌≤◌, Bool, true, false, cond, leb, ltb, List, [], ◌∷◌, ◌++◌, length, take, drop, Option, Some, None, Ok, Err, refl, ap, ◌∙◌, append_assoc, arith}
use Rattle.std.specs.List.{flat_map, AllByRecursion}
use Rattle.std.specs.Int.{Width, w32, w64, byte_len, from_le_bytes, to_le_bytes}
use Rattle.std.proofs.lemmas.Bool.{ltb-false, le-ltb}
use Rattle.std.proofs.lemmas.List.{take_at, drop_at, take-append-drop, length-append, length-take, append-nil}
use Rattle.std.proofs.lemmas.List.Concat.{flat_map-cons}
use Rattle.std.proofs.lemmas.Nat.{le_bytes_4, le_bytes_8, from_le_bytes-to_le_bytes_4, from_le_bytes-to_le_bytes_8}
use Rattle.ob_codec.specs.declared.fault.TextFault.TheVariants.{Short, Value}
use Rattle.ob_codec.specs.Reading.{◌>>=◌, Read, bytes_at, number_at, flag_at, option_at, items_at, list_at, string_at, both_at, as_at, where_at, given_at, some_at, tagged_at, whole_at}
use Rattle.ob_codec.specs.Spelling.{flag, option, list, string, both, Any, OptionFits, FewFit, BothFit, AreBytes, StringFits}
use Rattle.ob_codec.specs.Laws.{Takes, ReadsAgain, TakesSpelled, IsCodec, IsVariant}
use Rattle.ob_codec.specs.Steps.{bytes-drop, bytes-take, bytes-rest, bind_ok, guard_ok, guard_passed, ok_is, takes-then, whole_ok}

-- ---- numbers

record IsWide (w : Width) (limit : ℕ) : Type 0 where
  pub len : (n : ℕ) → length (to_le_bytes w n) ≡ byte_len w
  pub back : (bytes : List ℕ) → length bytes ≡ byte_len w → AreBytes bytes
      → to_le_bytes w (from_le_bytes w bytes) ≡ bytes
  pub again : (n : ℕ) → n < limit → from_le_bytes w (to_le_bytes w n) ≡ n
  pub below : (bytes : List ℕ) → AreBytes bytes → from_le_bytes w bytes < limit

wide32 : IsWide w32 (2 ^ 32)
wide32 = record {
  len = λ n. refl;
  back = λ bytes len fits. le_bytes_4 bytes _ len fits refl;
  again = λ n lt. from_le_bytes-to_le_bytes_4 n lt;
  below = λ bytes fits. omega (arith, fits 0, fits 1, fits 2, fits 3);
}

wide64 : IsWide w64 (2 ^ 64)
wide64 = record {
  len = λ n. refl;
  back = λ bytes len fits. le_bytes_8 bytes _ len fits refl;
  again = λ n lt. from_le_bytes-to_le_bytes_8 n lt;
  below = λ bytes fits. omega (arith, fits 0, fits 1, fits 2, fits 3, fits 4, fits 5, fits 6, fits 7);
}

module _ (w : Width) (limit : ℕ) (wide : IsWide w limit) where
  number_takes : TakesSpelled (to_le_bytes w) (number_at w) (λ n. n < limit)
  number_takes bytes n rest fits e =
      let g = guard_ok (ltb (length bytes) (byte_len w)) Short (
        from_le_bytes w (take (byte_len w) bytes),
        drop (byte_len w) bytes,
      ) (n, rest) e in
      let long = ltb-false _ _ g.0 in
      let front-fits = bytes-take (byte_len w) bytes fits in
      let front = wide.back (take (byte_len w) bytes) in
      search (arith, g.1, take-append-drop, bytes-drop (byte_len w) bytes fits, wide.below, length-take)

  number_again : ReadsAgain (to_le_bytes w) (number_at w) (λ n. n < limit)
  number_again n rest lt =
      let len = wide.len n in
      let long : ltb (length (to_le_bytes w n ++ rest)) (byte_len w) ≡ false =
      le-ltb _ _ (omega (arith, length-append (to_le_bytes w n) rest)) in
      rw (
        long,
        take_at (to_le_bytes w n) rest (byte_len w) len,
        drop_at (to_le_bytes w n) rest (byte_len w) len,
        wide.again n lt,
      ) refl

  number_codec : IsCodec (to_le_bytes w) (number_at w) (λ n. n < limit)
  number_codec = record { again = number_again; takes = number_takes }

pub u32_codec : IsCodec (to_le_bytes w32) (number_at w32) (λ n. n < 2 ^ 32)
u32_codec = number_codec w32 (2 ^ 32) wide32

pub u64_codec : IsCodec (to_le_bytes w64) (number_at w64) (λ n. n < 2 ^ 64)
u64_codec = number_codec w64 (2 ^ 64) wide64

-- ---- flags

flag_again : ReadsAgain flag flag_at Any
unfolding flag_at
flag_again true rest fits = refl
flag_again false rest fits = refl

flag_takes : TakesSpelled flag flag_at Any
unfolding flag_at
flag_takes [] x rest fits e = absurd cc
flag_takes (zero ∷ bytes) x rest fits e = search (arith, ok_is, bytes-rest 0 bytes fits)
flag_takes (suc zero ∷ bytes) x rest fits e = search (arith, ok_is, bytes-rest 1 bytes fits)
flag_takes (suc (suc b) ∷ bytes) x rest fits e = absurd cc

pub flag_codec : IsCodec flag flag_at Any
flag_codec = record { again = flag_again; takes = flag_takes }

-- ---- strings

string_again : ReadsAgain string string_at StringFits
unfolding string_at
string_again text rest fits =
    search (arith, append_assoc, le-ltb, length-append, take_at text rest (length text) refl, drop_at text rest (length text) refl, u32_codec.again)

string_takes : TakesSpelled string string_at StringFits
unfolding string_at
string_takes bytes text rest fits e =
    let b = bind_ok (number_at w32 bytes) (λ (n : ℕ × List ℕ). bytes_at n.0 n.1) (text, rest) e in
    let n = b.0 in
    let t = u32_codec.takes bytes n.0 n.1 fits b.1 in
    let g = guard_ok (ltb (length n.1) n.0) Short (take n.0 n.1, drop n.0 n.1) (text, rest) b.2 in
    let long : n.0 ≤ length n.1 = ltb-false _ _ g.0 in
    let len : length (take n.0 n.1) ≡ n.0 = omega (arith, length-take n.0 n.1) in
    search (arith, takes-then, take-append-drop, bytes-drop n.0 n.1 t.0.rest_fits)

pub string_codec : IsCodec string string_at StringFits
string_codec = record { again = string_again; takes = string_takes }

-- ---- codecs over a codec

-- what was read behind a test of how much there is
few_ok : {A : Type 0} (few : Bool) (r : Read A) (y : A × List ℕ) → cond few r (Err Value) ≡ Ok y
    → (few ≡ true) × (r ≡ Ok y)
few_ok true r y e = (refl, e)
few_ok false r y e = absurd cc

module _ {A : Type 0} {spell : A → List ℕ} {read : List ℕ → Read A} {Fits : A
    → Type 0} (is : IsCodec spell read Fits) where
  option_again : ReadsAgain (option spell) (option_at read) (OptionFits Fits)
  unfolding option_at
  option_again None rest fits = refl
  option_again (Some x) rest fits = rw (is.again x rest fits) refl

  option_takes : TakesSpelled (option spell) (option_at read) (OptionFits Fits)
  unfolding option_at
  option_takes [] x rest fits e = absurd cc
  option_takes (zero ∷ bytes) x rest fits e = search (arith, ok_is, bytes-rest 0 bytes fits)
  option_takes (suc zero ∷ bytes) x rest fits e =
      let b = bind_ok (read bytes) (λ (y : A × List ℕ). Ok (Some y.0, y.1)) (x, rest) e in
      let t = is.takes bytes b.0.0 b.0.1 (bytes-rest 1 bytes fits) b.1 in
      search (arith, ok_is)
  option_takes (suc (suc b) ∷ bytes) x rest fits e = absurd cc

  pub option_codec : IsCodec (option spell) (option_at read) (OptionFits Fits)
  option_codec = record { again = option_again; takes = option_takes }

  pub items_again : (xs : List A) (rest : List ℕ) → AllByRecursion Fits xs
      → items_at read (length xs) (flat_map spell xs ++ rest) ≡ Ok (xs, rest)
  unfolding items_at
  items_again [] rest fits = refl
  items_again (x ∷ xs) rest fits = search (arith, flat_map-cons, append_assoc, is.again, items_again xs)

  pub items_take : (n : ℕ) (bytes : List ℕ) (xs : List A) (rest : List ℕ) → AreBytes bytes
      → items_at read n bytes ≡ Ok (xs, rest)
      → Takes bytes (flat_map spell xs) rest × (length xs ≡ n) × AllByRecursion Fits xs
  unfolding items_at
  items_take zero bytes xs rest fits e = search (arith, ok_is)
  items_take (suc n) bytes xs rest fits e =
      let a = bind_ok (read bytes) (λ (first : A × List ℕ). items_at read n first.1 >>= λ (others : List A
      × List ℕ). Ok (first.0 ∷ others.0, others.1)) (xs, rest) e in
      let b = bind_ok (items_at read n a.0.1) (λ (others : List A × List ℕ). Ok (a.0.0 ∷ others.0, others.1)) (xs, rest) a.2 in
      let first = is.takes bytes a.0.0 a.0.1 fits a.1 in
      let second = items_take n a.0.1 b.0.0 b.0.1 first.0.rest_fits b.1 in
      let joined = takes-then bytes (spell a.0.0) a.0.1 (flat_map spell b.0.0) b.0.1 first.0 second.0 in
      search (arith, ok_is, flat_map-cons, joined)

  list_again : (most : ℕ) → ReadsAgain (list spell) (list_at most read) (FewFit most Fits)
  unfolding list_at
  list_again most xs rest fits = search (arith, append_assoc, u32_codec.again, items_again)

  list_takes : (most : ℕ) → TakesSpelled (list spell) (list_at most read) (FewFit most Fits)
  unfolding list_at
  list_takes most bytes xs rest fits e =
      let a = bind_ok (number_at w32 bytes)
      (λ (n : ℕ × List ℕ). cond (leb n.0 most) (items_at read n.0 n.1) (Err Value)) (xs, rest) e in
      let g = few_ok (leb a.0.0 most) (items_at read a.0.0 a.0.1) (xs, rest) a.2 in
      let first = u32_codec.takes bytes a.0.0 a.0.1 fits a.1 in
      let second = items_take a.0.0 a.0.1 xs rest first.0.rest_fits g.1 in
      grind (arith, takes-then bytes (to_le_bytes w32 a.0.0) a.0.1 (flat_map spell xs) rest first.0 second.0)

  pub list_codec : (most : ℕ) → IsCodec (list spell) (list_at most read) (FewFit most Fits)
  list_codec most = record { again = list_again most; takes = list_takes most }

  where_takes : (test : A → Bool) → TakesSpelled spell (where_at test read) (λ x. Fits x × (test x ≡ true))
  where_takes test bytes x rest fits e =
      let a = bind_ok (read bytes) (λ (a : A × List ℕ). cond (test a.0) (Ok a) (Err Value)) (x, rest) e in
      let g = guard_passed (test a.0.0) Value a.0 (x, rest) a.2 in
      search (arith, is.takes bytes a.0.0 a.0.1 fits a.1)

  -- values that pass a test
  pub where_codec : (test : A → Bool) → IsCodec spell (where_at test read) (λ x. Fits x × (test x ≡ true))
  where_codec test = record {
    again = λ x rest fits. rw (is.again x rest fits.0, fits.1) refl;
    takes = where_takes test;
  }

  -- a value that is a whole text
  pub whole_again : (x : A) → Fits x → whole_at read (spell x) ≡ Ok x
  whole_again x fits = search (arith, append-nil, is.again x [])

  pub whole_takes : (bytes : List ℕ) (x : A) → AreBytes bytes → whole_at read bytes ≡ Ok x → (bytes ≡ spell x) × Fits x
  whole_takes bytes x fits e =
      let t = is.takes bytes x [] fits (whole_ok read bytes x e) in (t.0.parts ∙ append-nil (spell x), t.1)

-- ---- values of another type

given-ok : {B : Type 0} (o : Option B) (rest : List ℕ) (x : B × List ℕ) → given_at o rest ≡ Ok x
    → (o ≡ Some x.0) × (rest ≡ x.1)
given-ok o rest x e = search (arith, ok_is)

module _ {A B : Type 0} {spell : A → List ℕ} {read : List ℕ → Read A} {Fits : A → Type 0} where
  -- some values stand for one of another type
  pub some_codec : (to : A → Option B) (from : B → A) (FitsB : B → Type 0)
      → ((b : B) → FitsB b → (to (from b) ≡ Some b) × Fits (from b))
      → ((a : A) (b : B) → Fits a → to a ≡ Some b → (from b ≡ a) × FitsB b)
      → IsCodec spell read Fits → IsCodec (λ (b : B). spell (from b)) (some_at to read) FitsB
  some_codec to from FitsB there back is = record { again = again; takes = takes }
    where
      again : ReadsAgain (λ (b : B). spell (from b)) (some_at to read) FitsB
      again b rest fits = let t = there b fits in rw (is.again (from b) rest t.1)
          (ap (λ (z : Option B). given_at z rest) t.0)

      takes : TakesSpelled (λ (b : B). spell (from b)) (some_at to read) FitsB
      takes bytes b rest fits e =
          let x = bind_ok (read bytes) (λ (x : A × List ℕ). given_at (to x.0) x.1) (b, rest) e in
          let g = given-ok (to x.0.0) x.0.1 (b, rest) x.2 in
          let t = is.takes bytes x.0.0 x.0.1 fits x.1 in
          let here = back x.0.0 b t.1 g.0 in
          search arith

  -- each value stands for one of another type
  pub as_codec : (to : A → B) (from : B → A) → ((b : B) → to (from b) ≡ b) → ((a : A) → from (to a) ≡ a)
      → IsCodec spell read Fits
      → IsCodec (λ (b : B). spell (from b)) (as_at to read) (λ b. Fits (from b))
  as_codec to from there back is = record { again = again; takes = takes }
    where
      again : ReadsAgain (λ (b : B). spell (from b)) (as_at to read) (λ b. Fits (from b))
      again b rest fits = rw (is.again (from b) rest fits) (ap (λ (z : B). Ok (z, rest)) (there b))

      takes : TakesSpelled (λ (b : B). spell (from b)) (as_at to read) (λ b. Fits (from b))
      takes bytes b rest fits e =
          let x = bind_ok (read bytes) (λ (x : A × List ℕ). Ok (to x.0, x.1)) (b, rest) e in
          let t = is.takes bytes x.0.0 x.0.1 fits x.1 in
          search (arith, ok_is, back x.0.0)

-- ---- one value behind another

module _ {A B : Type 0} {sa : A → List ℕ} {ra : List ℕ → Read A} {FA : A → Type 0} {sb : B → List ℕ} {rb : List ℕ
    → Read B} {FB : B → Type 0} where
  pub both_codec : IsCodec sa ra FA → IsCodec sb rb FB → IsCodec (both sa sb) (both_at ra rb) (BothFit FA FB)
  both_codec a b = record { again = again; takes = takes }
    where
      again : ReadsAgain (both sa sb) (both_at ra rb) (BothFit FA FB)
      again p rest fits = ap (both_at ra rb) (append_assoc (sa p.0) (sb p.1) rest)
          ∙ rw (a.again p.0 (sb p.1 ++ rest) fits.0, b.again p.1 rest fits.1) refl

      takes : TakesSpelled (both sa sb) (both_at ra rb) (BothFit FA FB)
      takes bytes p rest fits e =
          let x = bind_ok (ra bytes) (λ (x : A × List ℕ). rb x.1 >>= λ (y : B × List ℕ). Ok ((x.0, y.0), y.1)) (
            p,
            rest,
          ) e in
          let y = bind_ok (rb x.0.1) (λ (y : B × List ℕ). Ok ((x.0.0, y.0), y.1)) (p, rest) x.2 in
          let first = a.takes bytes x.0.0 x.0.1 fits x.1 in
          let second = b.takes x.0.1 y.0.0 y.0.1 first.0.rest_fits y.1 in
          search (arith, ok_is, takes-then bytes (sa x.0.0) x.0.1 (sb y.0.0) y.0.1 first.0 second.0)

-- ---- a value behind the byte that says which form it has

-- what is read of one form
pub form_takes : {A B : Type 0} {spell : A → List ℕ} {read : List ℕ → Read A} {Fits : A → Type 0} (tag : B → ℕ)
    (body : B → List ℕ) (FitsB : B → Type 0) → IsCodec spell read Fits → (t : ℕ) (to : A → B)
    → ((a : A) → body (to a) ≡ spell a) → ((a : A) → Fits a → FitsB (to a)) → ((a : A) → tag (to a) ≡ t)
    → (bytes : List ℕ) (x : B) (rest : List ℕ) → AreBytes bytes → as_at to read bytes ≡ Ok (x, rest)
    → Takes bytes (body x) rest × FitsB x × (tag x ≡ t)
form_takes {A = A} {B = B} {read = read} tag body FitsB is t to text can tagged bytes x rest fits e =
    let b = bind_ok (read bytes) (λ (y : A × List ℕ). Ok (to y.0, y.1)) (x, rest) e in
    let k = is.takes bytes b.0.0 b.0.1 fits b.1 in
    search (arith, ok_is)

module _ {A : Type 0} (tag : A → ℕ) (body : A → List ℕ) (pick : ℕ → List ℕ → Read A) (Fits : A → Type 0) (each : (t : ℕ)
    → IsVariant t tag body (pick t) Fits) where
  tagged_takes : TakesSpelled (λ (x : A). tag x ∷ body x) (tagged_at pick) Fits
  tagged_takes [] x rest fits e = absurd cc
  tagged_takes (t ∷ bytes) x rest fits e =
      let v = (each t).takes bytes x rest (bytes-rest t bytes fits) e in
      search arith

  pub tagged_codec : IsCodec (λ (x : A). tag x ∷ body x) (tagged_at pick) Fits
  tagged_codec = record { again = λ x rest fits. (each (tag x)).again x rest refl fits; takes = tagged_takes }
