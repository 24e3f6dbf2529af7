-- What a host keeps is read as it was spelled.
use Rattle.std.proofs.Common.{refl}
use Rattle.ob_codec.specs.Codecs.{as_codec, both_codec, list_codec, u32_codec, u64_codec}
use Rattle.ob_codec.specs.Laws.{IsCodec}
use Rattle.ob_manager.specs.HostData.{DataFits, KeptFits, data_at, data_of_parts, data_parts, data_text, kept_at, kept_of, kept_parts, kept_text, most}

pub kept_codec : IsCodec kept_text kept_at KeptFits
kept_codec = as_codec kept_of kept_parts (λ _. refl) (λ _. refl) (both_codec u32_codec u64_codec)

pub data_codec : IsCodec data_text data_at DataFits
data_codec = as_codec data_of_parts data_parts (λ _. refl) (λ _. refl)
    (both_codec (list_codec kept_codec most) (both_codec (list_codec u64_codec most) (list_codec u64_codec most)))
