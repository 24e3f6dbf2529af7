-- Where a load lacks memory the digest is right.
use Rattle.std.proofs.Common.{◌≡◌, ℕ, List, true, Ok, Err, refl, ap, sym, ◌∙◌}
use Rattle.std.specs.Prelude.{Result, is_ok}
use Rattle.ob_codec.specs.declared.fault.TextFault.{TextFault}
use Rattle.ob_codec.specs.Reading.{◌>>=◌, whole_at}
use Rattle.ob_codec.specs.Sealing.{unsealed}
use Rattle.ob_manager.specs.HostData.{HostData}
use Rattle.ob_manager.specs.Savestates.{load_with, whole_with_at}
use Rattle.ob_store.specs.State.{Whole}

pub known : (bytes : List ℕ) → ((fault : TextFault) → unsealed bytes ≡ Err fault → ⊥) → is_ok (unsealed bytes) ≡ true
known bytes never = by (unsealed bytes) refl
  where
    by : (text : Result (List ℕ) TextFault) → unsealed bytes ≡ text → is_ok text ≡ true
    by (Ok text) is = refl
    by (Err fault) is = absurd (never fault is)

pub of_loaded : (bytes : List ℕ) (w : Whole) (kept : HostData) → load_with bytes ≡ Ok (w, kept)
    → is_ok (unsealed bytes) ≡ true
of_loaded bytes w kept is = known bytes (λ fault wrong.
    let refused : load_with bytes ≡ Err fault = ap (λ text. text >>= (λ text. whole_at whole_with_at text)) wrong in
    let both : Err fault ≡ Ok (w, kept) = sym refused ∙ is in cc)
