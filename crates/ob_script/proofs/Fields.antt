-- What stands in the line of a call is read as it was written, field by field.
use Rattle.ob_script.proofs.Cited.{list_all-append, ◌≡◌, ℕ, zero, suc, ◌+◌, ◌≤◌, arith, refl, List, [], ◌∷◌, ◌++◌, Bool, true, false, Option, Some, None, decimal, map, codes, nat_lt, if◌then◌else◌, IsNumeral, decimal_is_IsNumeral, Id, Kind, Rights, Timeout, Zero, Millis, Making, words_of, joined, number_of, id_of, kind_of, type_of, are_handles, handles_in, ◌>>=◌, text_of_words, name_of, make_of, target_of, access_of, mode_of, limit_of, timeout_of, FitsKind, FitsMake, FitsTarget, FitsTimeout, FitHandles, label, id_word, mask_word, word_if, mask_words, text_words, make_words, kind_word, mode_word, timeout_word, target_word}
use Rattle.std.specs.Str.{bytes_eq}
use Rattle.ob_waits.specs.declared.wait.Mode.{Mode}
use Rattle.ob_manager.specs.Copying.{closes, keeps_rights}
use Rattle.ob_script.proofs.Cuts.{words_joined}
use Rattle.ob_script.proofs.Numerals.{are_digits, digit_is, reads_due, reads_mask, reads_number}
use Rattle.ob_script.proofs.Objects.{id_parts}
use Rattle.ob_script.proofs.Spaces.{is_word, AreWords, read_words, reads_front, decimal_word, hex_word, signed_word}

-- the name of a create, as it stands in the words of a line
abbrev pub name_read : Option (List ℕ) → List (List ℕ)
name_read None = []
name_read (Some text) = codes "name" ∷ words_of text

abbrev pub make_read : Making → List (List ℕ)
make_read make = word_if make.inherit (codes "inherit")
    ++ (mask_words (codes "access") make.access ++ (mask_words (codes "grant") make.grant ++ name_read make.name))

some_text : (words : List (List ℕ)) → (words ≡ [] → ⊥) → text_of_words words ≡ Some (joined words)
some_text words some = search arith

pub reads_text : (text : List ℕ) → name_of (codes "name" ∷ words_of text) ≡ Some text
reads_text text = search (arith, some_text, words_joined)

pub reads_make : (make : Making) → FitsMake make → make_of (make_read make) ≡ Some make
reads_make make fits = search (arith, reads_mask, reads_text)

pub reads_make_words : (make : Making) → read_words (make_words make) ≡ make_read make
reads_make_words make = search (arith, hex_word, reads_front)

-- an open's words behind its mask
pub reads_open_words : (inherit : Bool) (text : List ℕ)
    → read_words (word_if inherit (codes "inherit") ++ text_words text) ≡ word_if inherit (codes "inherit")
    ++ (codes "name" ∷ words_of text)
reads_open_words inherit text = search arith

pub reads_access : (same : Bool) (mask : Rights) → mask.0 ≤ 4294967295
    → access_of (if same then codes "same" else mask_word mask) ≡ Some (
      if same then record { 0 = 0 } else mask,
      if same then 2 else 0,
    )
reads_access same mask fits = search (arith, reads_mask)

pub options_are : (options : ℕ) → nat_lt options 4 ≡ true
    → (if keeps_rights options then 2 else 0) + (if closes options then 1 else 0) ≡ options
options_are zero few = refl
options_are (suc zero) few = refl
options_are (suc (suc zero)) few = refl
options_are (suc (suc (suc more))) few = grind arith

pub reads_target : (target : Option ℕ) → FitsTarget target → target_of (target_word target) ≡ Some target
reads_target target fits = search (arith, reads_number)

pub reads_type : (object_type : ℕ) → object_type ≤ 255 → type_of (label 107 object_type) ≡ Some object_type
reads_type object_type fits = search (arith, reads_number)

pub reads_kind : (kind : Kind) → FitsKind kind → kind_of true (kind_word kind) ≡ Some kind
reads_kind kind fits = search (arith, reads_type)

pub reads_mode : (mode : Mode) → mode_of (mode_word mode) ≡ Some mode
reads_mode mode = search arith

-- digits are no keyword
not_inf : (ds : List ℕ) → IsNumeral 10 ds → bytes_eq ds (codes "inf") ≡ false
not_inf [] is = search arith
not_inf (c ∷ cs) is = search arith

-- nor begin with an at-sign
limit_digits : (ds : List ℕ) → IsNumeral 10 ds
    → limit_of true ds ≡ (number_of ds >>= (λ millis. Some (Millis millis)))
limit_digits ds is = search (arith, digit_is)

reads_millis : (n : ℕ) → n ≤ 4294967295 → timeout_of true (decimal n) ≡ Some (Millis n)
reads_millis n fits = search (arith, not_inf, limit_digits, decimal_is_IsNumeral, reads_number)

abbrev pub said_timeout : Timeout → Timeout
said_timeout Zero = Millis 0
said_timeout timeout = timeout

pub reads_timeout : (timeout : Timeout) → FitsTimeout timeout
    → timeout_of true (timeout_word timeout) ≡ Some (said_timeout timeout)
reads_timeout timeout fits = search (arith, reads_millis, reads_due)

pub reads_handles : (handles : List ℕ) → FitHandles handles
    → (are_handles (map (label 104) handles) ≡ true) × (handles_in (map (label 104) handles) ≡ handles)
reads_handles [] fit = (refl, refl)
reads_handles (handle ∷ handles) fit = search (arith, reads_number, reads_handles handles)

pub handles_are_words : (handles : List ℕ) → AreWords (map (label 104) handles)
handles_are_words [] = tt
handles_are_words (handle ∷ handles) = (decimal_word handle, handles_are_words handles)

pub reads_id : (id : Id) → id.slot ≤ 4294967295 → id.generation ≤ 4294967295 → id_of (id_word id) ≡ Some id
reads_id id slot_fits generation_fits = search (arith, id_parts, are_digits, reads_number)

pub id_is_word : (id : Id) → is_word (id_word id) ≡ true
id_is_word id = search (arith, decimal_word, list_all-append)

-- what stands between the spaces of a line
pub ruleset line_words = (decimal_word, hex_word, signed_word, id_is_word, handles_are_words)
