-- What an owner of the words knows of them, at the place where it reads them.
use Rattle.pin_words.proofs.Cited.{arith, ◌≡◌, ℕ, ◌<◌, Global, Shape, IsWithinLimits, View, IsPlace, words_of, place_of, descr_place}
use Rattle.atomic_table.specs.declared.owned.Table.{Table}
use Rattle.pin_words.specs.declared.plays.PinRule.{PinRule}
use Rattle.pin_words.specs.declared.view.Ground.{Ground}
use Rattle.pin_words.proofs.Apart.{within, some_words}

abbrev pub Words : Type 0
Words = Table (Unit {0}) View Ground PinRule Global

pub key_at : {a b : Words} {k : Shape} → a ≡ b → b.shared.key.shape ≡ k → a.shared.key.shape ≡ k
key_at is keyed = search arith

wide_at : {a b : Words} {n : ℕ} → a ≡ b → b.shared.table_id.words ≡ n → a.shared.table_id.words ≡ n
wide_at is wide = search arith

-- the words of a slot are among them, and there is one
pub pin_at : {a b : Words} (k : Shape) (p s : ℕ) → a ≡ b → b.shared.table_id.words ≡ words_of k.slots
    → IsWithinLimits k → IsPlace place_of p s → s < k.slots → p < a.shared.table_id.words
pin_at k p s is wide fits at inside = search (arith, wide_at, within)

pub descr_at : {a b : Words} (k : Shape) (p s : ℕ) → a ≡ b → b.shared.table_id.words ≡ words_of k.slots
    → IsWithinLimits k → IsPlace descr_place p s → s < k.slots → p < a.shared.table_id.words
descr_at k p s is wide fits at inside = search (arith, wide_at, within)

pub some_at : {a b : Words} (k : Shape) → a ≡ b → b.shared.table_id.words ≡ words_of k.slots → IsWithinLimits k
    → 0 < a.shared.table_id.words
some_at k is wide fits = search (arith, wide_at, some_words)

pub id_at : {a b : Words} → a ≡ b → a.shared.table_id ≡ b.shared.table_id
id_at is = search arith
