-- What a store keeps, told of its state.
use Rattle.ob_store.proofs.Cited.{arith, refl, ObjectsInvariant, PartsState, whole_of, StoreInvariant, IsConsistent}
use Rattle.ob_waits.specs.Deadlines.{AreAhead}
use Rattle.ob_waits.specs.Rules as rules
use Rattle.ob_store.proofs.CountedLaws.{handles_at, blocks_at}
use Rattle.ob_store.proofs.NamedLaws.{there_within, handles_are, blocks_are}
use Rattle.ob_store.proofs.KeptLaws.{settled_kept}

pub consistent : (p : PartsState) → StoreInvariant p → ObjectsInvariant p.objects → rules.WaitsInvariant p.waits.waits
    → AreAhead p.waits.clock p.waits.waits → IsConsistent (whole_of p)
consistent p kept tied waits ahead = record {
  processes = kept.sound.processes_kept;
  populated = kept.populated;
  slots = tied.agreed.each;
  shape = kept.sound.limited.shape_is;
  generations = refl;
  sizes = search (arith, tied.agreed.length_is, tied.agreed.bodied, tied.agreed.marked, tied.agreed.wide, kept.sound.limited.shape_is);
  published = tied.listed;
  born = tied.born;
  named = kept.sound.named;
  ended = search (arith, there_within, handles_at, blocks_at, handles_are, blocks_are, tied.bodied.each, kept.sound.counted, kept.sound.named);
  formed = kept.sound.formed;
  distinct = rw kept.sound.listing.same at kept.sound.listing.distinct;
  waits = waits;
  of_live = kept.sound.of_live;
  ahead = ahead;
  quiet = record { room = kept.sound.room; settled = kept.settled };
  still = settled_kept p kept tied;
}
