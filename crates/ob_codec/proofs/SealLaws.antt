-- What is sealed is unsealed again, and what is unsealed was sealed; so a sealed value loads.
use Rattle.std.proofs.Common.{◌≡◌, ℕ, ◌-◌, ◌+◌, Bool, true, false, cond, ltb, List, length, take, drop, Ok, Err, ap, ◌∙◌, refl, arith}
use Rattle.std.specs.Str.{bytes_eq}
use Rattle.std.proofs.lemmas.Bool.{le-ltb}
use Rattle.std.proofs.lemmas.List.{take_at, drop_at, take-append-drop, length-append}
use Rattle.std.proofs.lemmas.Slice.Eq.{bytes_eq-Decides}
use Rattle.sha2.specs.Sha256.{sha256}
use Rattle.sha2.proofs.Facts256.{length-sha256}
use Rattle.ob_codec.specs.declared.fault.TextFault.TheVariants.{Short, Digest}
use Rattle.ob_codec.specs.Codecs.{whole_again, whole_takes}
use Rattle.ob_codec.specs.Laws.{IsCodec}
use Rattle.ob_codec.specs.Reading.{Read, whole_at}
use Rattle.ob_codec.specs.Sealing.{loaded, sealed, with_digest, unsealed}
use Rattle.ob_codec.specs.Spelling.{AreBytes}
use Rattle.ob_codec.specs.Steps.{bind_ok, bytes-take, guard_passed}

pub unsealed_again : (text : List ℕ) → unsealed (sealed text) ≡ Ok text
unsealed_again text =
    let long : length (sealed text) ≡ length text + 32 =
    length-append text (sha256 text) ∙ ap (λ (n : ℕ). length text + n) (length-sha256 text) in
    let enough : ltb (length (sealed text)) 32 ≡ false = le-ltb _ _ (omega arith) in
    let at : length text ≡ length (sealed text) - 32 = omega arith in
    let front : take (length (sealed text) - 32) (sealed text) ≡ text =
    take_at text (sha256 text) (length (sealed text) - 32) at in
    let back : drop (length (sealed text) - 32) (sealed text) ≡ sha256 text =
    drop_at text (sha256 text) (length (sealed text) - 32) at in
    rw (enough, front, back, (bytes_eq-Decides (sha256 text) (sha256 text)).1 refl) refl

pub unsealed_takes : (bytes text : List ℕ) → unsealed bytes ≡ Ok text → bytes ≡ sealed text
unsealed_takes bytes text e = by (ltb (length bytes) 32) e
  where
    front : List ℕ
    front = take (length bytes - 32) bytes

    back : List ℕ
    back = drop (length bytes - 32) bytes

    by : (b : Bool) → cond b (Err Short) (with_digest front back) ≡ Ok text → bytes ≡ sealed text
    by true f = absurd cc
    by false f =
        let g = guard_passed (bytes_eq (sha256 front) back) Digest front text f in
        search (arith, take-append-drop, bytes_eq-Decides)

-- what stands before a text's digest is bytes
pub front-fits : (bytes text : List ℕ) → AreBytes bytes → bytes ≡ sealed text → AreBytes text
front-fits bytes text fits is = search (arith, take_at, bytes-take (length text) bytes fits)

module _ {A : Type 0} {spell : A → List ℕ} {read : List ℕ → Read A} {Fits : A
    → Type 0} (is : IsCodec spell read Fits) where
  pub loaded_again : (x : A) → Fits x → loaded read (sealed (spell x)) ≡ Ok x
  loaded_again x fits = rw (unsealed_again (spell x)) (whole_again is x fits)

  pub loaded_takes : (bytes : List ℕ) (x : A) → AreBytes bytes → loaded read bytes ≡ Ok x
      → (bytes ≡ sealed (spell x)) × Fits x
  loaded_takes bytes x fits e =
      let t = bind_ok (unsealed bytes) (λ (text : List ℕ). whole_at read text) x e in
      let here : bytes ≡ sealed t.0 = unsealed_takes bytes t.0 t.1 in
      let w = whole_takes is t.0 x (front-fits bytes t.0 fits here) t.2 in
      (here ∙ ap sealed w.0, w.1)
