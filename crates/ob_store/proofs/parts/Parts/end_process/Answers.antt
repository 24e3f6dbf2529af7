use Rattle.ob_store.proofs.Cited.{◌∙◌, parts_of}
use Rattle.ob_store.proofs.EmptiedLaws.{ending_emptied, taken_out}
use Rattle.ob_store.proofs.parts.Parts.end_process.Goals as goal

pub leave_entries-requires-clause-sound : goal.leave_entries-requires-clause-sound
leave_entries-requires-clause-sound g c =
    rw (taken_out _ _ _ _ c.take_entries-places.ensures.after (c.as_slice.ensures.value ∙ c.take_entries-places.ensures.places)) c.requires.sound

pub returns : goal.returns
returns g c = record {
  carries = λ first s ending.
      let taken = c.take_entries-places.ensures.after in
      let left = c.leave_entries.new.self in
      let out = taken_out _ _ c.args.process c.as_slice.result.now taken (c.as_slice.ensures.value ∙ c.take_entries-places.ensures.places) in
      let gone = rw c.leave_entries.ensures.rest at (c.leave_entries.ensures.carries first s (rw out ending)) in
      rw (c.end_process.ensures, c.leave_entries.ensures.rest)
      (ending_emptied first (record (parts_of c.args.self.now) { objects = left.objects; rows = left.names.rows }) s c.args.process c.as_slice.result.now
      (λ i. (ending.under_way.rest i).tables) c.requires.table c.requires.alone c.take_entries-places.new.self taken gone);
}
