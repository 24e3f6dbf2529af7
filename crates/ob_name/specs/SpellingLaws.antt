-- Names are read as they were spelled.
use Rattle.std.proofs.lemmas.Bool.Decides.{nat_tests}
use Rattle.std.proofs.Common.{◌≡◌, ℕ, ◌≤◌, true, List, length, arith}
use Rattle.std.proofs.lemmas.Option.{cond_some}
use Rattle.ob_codec.specs.Codecs.{both_codec, some_codec, string_codec, u32_codec}
use Rattle.ob_codec.specs.Laws.{IsCodec}
use Rattle.ob_name.specs.Keys.{space_number}
use Rattle.ob_name.specs.Names.{home}
use Rattle.ob_name.specs.Spelling.{NameFits, name_parts, name_text, name_text_at, given_name}
use Rattle.ob_name.specs.Texts.{is_base}

number-home : (session : ℕ) → space_number (home session) ≡ session
number-home session = grind (arith, nat_tests)

pub base_short : (base : List ℕ) → is_base base ≡ true → length base ≤ 260
base_short base is = grind (arith, nat_tests)

pub name_codec : IsCodec name_text name_text_at NameFits
name_codec = some_codec given_name name_parts NameFits
    (λ name fits. let short = base_short name.base fits.base in grind (arith, nat_tests, fits.number, fits.space))
    (λ p name fits e. grind (arith, nat_tests, cond_some, number-home)) (both_codec u32_codec string_codec)
