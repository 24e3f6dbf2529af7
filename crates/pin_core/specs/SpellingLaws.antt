-- Ids and descriptors are read as they were spelled.
use Rattle.std.proofs.Common.{◌≡◌, ℕ, ◌<◌, ◌^◌, Some, refl, arith}
use Rattle.std.proofs.lemmas.Grind.{common_steps}
use Rattle.ob_codec.specs.Codecs.{as_codec, both_codec, some_codec, u32_codec, u64_codec}
use Rattle.ob_codec.specs.Laws.{IsCodec}
use Rattle.pin_core.specs.Descrs.{IsGiven, decoded, encoded}
use Rattle.pin_core.specs.declared.descr.Descr.{Descr}
use Rattle.pin_core.specs.Spelling.{IdFits, descr_at, descr_text, id_at, id_of, id_text, parts_of}

pub id_codec : IsCodec id_text id_at IdFits
id_codec = as_codec id_of parts_of (λ _. refl) (λ _. refl) (both_codec u32_codec u32_codec)

-- the word of a descriptor is below 2^64, and is decoded to it
descr-there : (d : Descr) → IsGiven d → (decoded (encoded d) ≡ Some d) × (encoded d < 2 ^ 64)
descr-there d given = (grind (arith, common_steps), grind (arith, common_steps))

descr-back : (n : ℕ) (d : Descr) → n < 2 ^ 64 → decoded n ≡ Some d → (encoded d ≡ n) × IsGiven d
descr-back n d lt is = grind (arith, common_steps)

pub descr_codec : IsCodec descr_text descr_at IsGiven
descr_codec = some_codec decoded encoded IsGiven descr-there descr-back u64_codec
