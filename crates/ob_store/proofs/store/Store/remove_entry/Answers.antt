use Rattle.ob_store.proofs.Cited.{settled_less}
use Rattle.ob_store.proofs.LeavingLaws.{bodies_left, held, has_object, sound_left, way_left}
use Rattle.ob_store.proofs.LeftLaws.{less_gone}
use Rattle.ob_store.proofs.UnderWayLaws.{way_begins, way_still}
use Rattle.ob_store.proofs.store.Store.remove_entry.Goals as goal

pub handle_left-was_last-requires : goal.handle_left-was_last-requires
handle_left-was_last-requires g c = search (held, rw (← c.self.view_is) at c.requires, c.self.invariant.sound)

pub leave_directory-requires : goal.leave_directory-requires
leave_directory-requires g c =
    has_object _ _ _ _ c.self.invariant.sound c.kept.ensures (rw (← c.self.view_is) at c.requires) _ c.handle_left-was_last.ensures.value

pub invariant_of-self : goal.invariant_of-self
invariant_of-self g c =
    let found = rw (← c.self.view_is) at c.requires in
    rw c.remove.ensures.after (record {
      sound = sound_left _ _ _ _ c.self.invariant.sound c.kept.ensures found _ _ _ c.handle_left-was_last.ensures.value c.handle_left-was_last.ensures.last
          c.leave_directory.ensures;
      populated = c.self.invariant.populated;
      settled = settled_less _ _ _ (less_gone _ _ (rw c.handle_left-was_last.ensures.value
          (bodies_left _ _ _ _ c.self.invariant.sound c.kept.ensures found))) c.self.invariant.settled;
    })

pub returns : goal.returns
returns g c =
    let way = way_left _ _ _ _ c.self.invariant.sound c.kept.ensures (rw (← c.self.view_is) at c.requires) _ _ _
    c.handle_left-was_last.ensures.value c.handle_left-was_last.ensures.last c.leave_directory.ensures c.kept-2.ensures _ _
    (way_begins _ c.self.invariant.sound c.kept.ensures) in
    rw (← c.self.view_is, c.remove.ensures.after) (record { state = way_still _ _ _ way (invariant_of-self g c).settled; keeper = way.keeper })
