use Rattle.ob_store.proofs.PopulatedLaws.{populated_from}
use Rattle.ob_store.proofs.savestate.read_parts.Goals as goal

pub returns-clause-kept : goal.returns-clause-kept
returns-clause-kept c =
    let l = c.in_ok-lists.ensures in
    let o = c.in_ok-objects.ensures in
    record {
      sound = record {
        limited = record {
          processes_are = l.process_limit;
          handles_are = l.handle_limit;
          waits_are = l.wait_limit;
          shape_is = o.shape;
        };
        processes_kept = l.kept;
        counted = o.counted;
        named = o.named;
        formed = o.formed;
        of_live = o.of_live;
        room = o.quiet.room;
        listing = o.listing;
      };
      populated = populated_from c.in_ok-lists.lists.processes l.populated;
      settled = o.quiet.settled;
    }
