-- Masks and flags are read as they were spelled.
use Rattle.std.proofs.Common.{refl}
use Rattle.ob_codec.specs.Codecs.{as_codec, u32_codec}
use Rattle.ob_codec.specs.Laws.{IsCodec}
use Rattle.ob_rights.specs.Spelling.{FlagsFit, RightsFit, flags_at, flags_of, flags_text, rights_at, rights_of, rights_text}

pub rights_codec : IsCodec rights_text rights_at RightsFit
rights_codec = as_codec rights_of (λ rights. rights.0) (λ _. refl) (λ _. refl) u32_codec

pub flags_codec : IsCodec flags_text flags_at FlagsFit
flags_codec = as_codec flags_of (λ flags. flags.0) (λ _. refl) (λ _. refl) u32_codec
