use Rattle.ob_waits.proofs.Cited.{◌≡◌, ◌+◌, List, None, Option, Some, arith, get_or, refl, set, NumberedWait}
use Rattle.ob_waits.proofs.ListedLaws.{length_listed, listed_inserted}
use Rattle.ob_waits.proofs.PlaceLaws.{set_read}
use Rattle.ob_waits.proofs.ByThreadLaws.{free_thread, not_given, same_by_thread, took_found, took_thread}
use Rattle.ob_waits.proofs.numbered.Numbered.push.Goals as goal

pub overflow_add-number : goal.overflow_add-number
overflow_add-number c = search (arith, length_listed)

pub put-requires : goal.put-requires
put-requires c = record {
  number_map = c.self.invariant.1;
  free = not_given c.self.invariant.0 (c.self.inside.given + 1) (omega arith);
}

pub invariant_of-self : goal.invariant_of-self
invariant_of-self c = search (arith, same_by_thread)

pub invariant_of-self-in_err-put : goal.invariant_of-self-in_err-put
invariant_of-self-in_err-put c =
    (same_by_thread c.make_room.ensures.same c.in_err-put.ensures.err c.self.invariant.0, c.in_err-put.ensures.number_map)

pub invariant_of-self-2 : goal.invariant_of-self-2
invariant_of-self-2 c =
    search (arith, free_thread, set_read, took_thread, c.args.wait, c.in_ok-make_room.ensures.room, c.in_ok-put.ensures.ok, c.make_room.ensures.same, c.self.view_is)

pub returns-clause-ok : goal.returns-clause-ok
returns-clause-ok c =
    let w = c.args.wait in
    let more : List (Option NumberedWait) = c.make_room.new.by_thread.items in
    let held : NumberedWait = record { number = c.self.inside.given + 1; wait = w } in
    let old = same_by_thread c.make_room.ensures.same (λ q. refl) c.self.invariant.0 in
    let free : get_or more w.thread None ≡ None = search (arith, free_thread) in
    let took = took_found _ _ w more (set more w.thread (Some held)) _ _ old refl free
    (set_read more w.thread (Some held) c.in_ok-make_room.ensures.room) c.in_ok-put.ensures.ok in
    search (arith, listed_inserted)
