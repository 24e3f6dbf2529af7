-- What is sealed is unsealed again, so a state that is read again loads from its savestate.
use Rattle.std.proofs.Common.{◌≡◌, ℕ, List, [], ◌++◌, true, false, Result, Ok, ap, sym, ◌∙◌, refl, arith}
use Rattle.std.specs.Int.{w64, to_le_bytes}
use Rattle.std.proofs.lemmas.Bool.Decides.{nat_tests}
use Rattle.std.proofs.lemmas.List.{append-nil, nil_from_length}
use Rattle.ob_codec.proofs.SealLaws.{front-fits, unsealed_again, unsealed_takes}
use Rattle.ob_codec.specs.Codecs.{u64_codec}
use Rattle.ob_codec.specs.declared.fault.ReadFault.{ReadFault}
use Rattle.ob_codec.specs.declared.fault.TextFault.{TextFault}
use Rattle.ob_codec.specs.Reading.{◌>>=◌, Fails, Read, as_at, both_at, number_at, whole_at, where_at}
use Rattle.ob_codec.specs.Sealing.{sealed, unsealed}
use Rattle.ob_codec.specs.Spelling.{AreBytes}
use Rattle.ob_codec.specs.Steps.{bind_ok, ok_is, whole_ok}
use Rattle.ob_store.specs.SavedStore.{begun_again, store_at, store_text}
use Rattle.ob_store.specs.State.{Whole}
use Rattle.ob_store.proofs.SavedStoreLaws.{store_takes}
use Rattle.ob_manager.specs.HostData.{DataFits, HostData, data_text, is_empty, no_data}
use Rattle.ob_manager.specs.HostDataLaws.{data_codec}
use Rattle.ob_manager.specs.Savestates.{behind_mark, data_behind, data_mark, is_mark, load, load_with, mark, saved, saved_with, whole_with_at}

pub loads_again : (w : Whole) → store_at (store_text w ++ []) ≡ Ok (begun_again w, [])
    → load (saved w) ≡ Ok (begun_again w)
loads_again w again =
    rw (
      unsealed_again (to_le_bytes w64 mark ++ store_text w),
      u64_codec.again mark (store_text w) (omega arith),
      ap store_at (sym (append-nil (store_text w))) ∙ again,
    ) refl

-- the same with what a host keeps
pub kept_again : (d : HostData) (w : Whole) → DataFits d → is_empty d ≡ false
    → store_at (store_text w ++ []) ≡ Ok (begun_again w, [])
    → load_with (sealed (to_le_bytes w64 data_mark ++ (data_text d ++ store_text w))) ≡ Ok (begun_again w, d)
kept_again d w fits some again =
    rw (
      unsealed_again (to_le_bytes w64 data_mark ++ (data_text d ++ store_text w)),
      u64_codec.again data_mark (data_text d ++ store_text w) (omega arith),
      data_codec.again d (store_text w) fits,
      some,
      ap store_at (sym (append-nil (store_text w))) ∙ again,
    ) refl

-- a savestate in which it keeps nothing is read alike, whatever reads its number and its store
abbrev with_data_at : (List ℕ → Read ℕ) → (List ℕ → Read Whole) → List ℕ → Read (Whole × HostData)
with_data_at number store bytes = do
  m ← number bytes
  d ← data_behind m.0 m.1
  w ← store d.1
  Ok ((w.0, d.0), w.1)

plain : (t : Result (List ℕ) TextFault) (number : List ℕ → Read ℕ) (store : List ℕ → Read Whole) (w : Whole)
    → (t >>= whole_at (as_at behind_mark (both_at (where_at is_mark number) store))) ≡ Ok w
    → (t >>= whole_at (with_data_at number store)) ≡ Ok (w, no_data)
plain t number store w e = grind (arith, nat_tests)

pub plain_loads : (bytes : List ℕ) (w : Whole) → load bytes ≡ Ok w → load_with bytes ≡ Ok (w, no_data)
plain_loads bytes w e = plain (unsealed bytes) (number_at w64) store_at w e

pub empty_is : (d : HostData) → is_empty d ≡ true → d ≡ no_data
empty_is d e = grind (arith, nat_tests, nil_from_length)

-- what is read behind a mark was written so, whatever state is read behind that
abbrev IsBack : ℕ → List ℕ → HostData × List ℕ → Type 0
IsBack n bytes y = AreBytes y.1
    × ((w : Whole) → y.1 ≡ store_text w → saved_with y.0 w ≡ sealed (to_le_bytes w64 n ++ bytes))

behind_takes : (n : ℕ) (bytes : List ℕ) (y : HostData × List ℕ) → AreBytes bytes → data_behind n bytes ≡ Ok y
    → IsBack n bytes y
behind_takes n bytes y are e = grind (arith, nat_tests, data_codec.takes bytes y.0 y.1 are)

pub with_takes : (bytes : List ℕ) (w : Whole) (d : HostData) → AreBytes bytes → load_with bytes ≡ Ok (w, d)
    → bytes ≡ saved_with d w
with_takes bytes w d are e =
    let t = bind_ok (unsealed bytes) _ (w, d) e in
    let here = unsealed_takes bytes t.0 t.1 in
    let m = bind_ok (number_at w64 t.0) _ ((w, d), []) (whole_ok whole_with_at t.0 (w, d) t.2) in
    let first = (u64_codec.takes t.0 m.0.0 m.0.1 (front-fits bytes t.0 are here) m.1).0 in
    let k = bind_ok (data_behind m.0.0 m.0.1) _ ((w, d), []) m.2 in
    let back = behind_takes m.0.0 m.0.1 k.0 first.rest_fits k.1 in
    let s = bind_ok (store_at k.0.1) _ ((w, d), []) k.2 in
    let stored = store_takes k.0.1 s.0.0 s.0.1 back.0 s.1 in
    let r = ok_is ((s.0.0, k.0.0), s.0.1) ((w, d), []) s.2 in
    let last = stored.parts ∙ (λ i. store_text (r i).0.0 ++ (r i).1) ∙ append-nil (store_text w) in
    here ∙ ap sealed first.parts ∙ sym (back.1 w last) ∙ λ i. saved_with (r i).0.1 w

pub loads_takes : (bytes : List ℕ) (w : Whole) → AreBytes bytes → load bytes ≡ Ok w → bytes ≡ saved w
loads_takes bytes w are e = with_takes bytes w no_data are (plain_loads bytes w e)

-- bytes behind what was read
pub ends_wrong : {A : Type 0} (e : ReadFault) (end : Result (Unit {0}) TextFault) (x : A) → Fails e end
    → Fails e (end >>= λ (nothing : Unit {0}). Ok x)
ends_wrong e end x fails = search arith
