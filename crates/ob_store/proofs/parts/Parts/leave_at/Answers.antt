use Rattle.ob_store.proofs.Cited.{rules, parts_of}
use Rattle.ob_store.proofs.EmptiedLaws.{left_held, left_none, left_has_object, next_ending, next_sound, same_ending}
use Rattle.ob_store.proofs.parts.Parts.leave_at.Goals as goal

pub returns-in_default-clause-carries : goal.returns-in_default-clause-carries
returns-in_default-clause-carries g c =
    λ first s. same_ending first _ s _ (left_none c.args.self.now.tables.tables c.args.process c.args.places.now c.args.place (search rules))

pub returns-in_default-clause-sound : goal.returns-in_default-clause-sound
returns-in_default-clause-sound g c =
    rw (left_none c.args.self.now.tables.tables c.args.process c.args.places.now c.args.place (search rules)) at c.requires.sound

pub handle_left-was_last-requires : goal.handle_left-was_last-requires
handle_left-was_last-requires g c = record {
  handled = left_held (parts_of c.args.self.now) _ c.args.places.now c.args.place c.in-Some.entry c.requires.sound c.kept.ensures
      c.requires.table (search rules);
}

pub leave_directory-requires : goal.leave_directory-requires
leave_directory-requires g c =
    left_has_object (parts_of c.args.self.now) _ c.args.places.now c.args.place c.in-Some.entry c.requires.sound c.kept.ensures
    c.requires.table (search rules) _ c.handle_left-was_last.ensures.value

pub returns-clause-carries : goal.returns-clause-carries
returns-clause-carries g c =
    next_ending (parts_of c.args.self.now) _ c.args.places.now c.args.place c.in-Some.entry c.requires.sound c.kept.ensures c.requires.table (search rules) _
    _ _
    c.handle_left-was_last.ensures.value c.handle_left-was_last.ensures.last c.leave_directory.ensures c.kept-2.ensures

pub returns-clause-sound : goal.returns-clause-sound
returns-clause-sound g c =
    next_sound (parts_of c.args.self.now) _ c.args.places.now c.args.place c.in-Some.entry c.requires.sound c.kept.ensures c.requires.table (search rules) _
    _ _
    c.handle_left-was_last.ensures.value c.handle_left-was_last.ensures.last c.leave_directory.ensures
