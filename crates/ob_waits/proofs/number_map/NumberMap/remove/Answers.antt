use Rattle.ob_waits.proofs.Cited.{◌≡◌, ◌<◌, List, Option, None, get_or, length, true, arith, is_some, NumberedThread, home, thread_or}
use Rattle.ob_waits.proofs.PlaceLaws.{left_placed, left_others_placed, set_read, stands_there}
use Rattle.ob_waits.proofs.number_map.NumberMap.remove.Goals as goal

pub returns-then-is_at_place-clause-number_map : goal.returns-then-is_at_place-clause-number_map
returns-then-is_at_place-clause-number_map c =
    let m = c.args.self.now.mask in
    let n = c.args.number in
    let lt : home m n < length c.args.self.now.places.items = search arith in
    record {
      placed = left_placed m _ _ _ n c.requires.placed (set_read c.args.self.now.places.items (home m n) None lt);
      bits = c.requires.bits;
      mask = c.requires.mask;
    }

pub returns-then-is_at_place-clause-removed : goal.returns-then-is_at_place-clause-removed
returns-then-is_at_place-clause-removed c =
    let m = c.args.self.now.mask in
    let n = c.args.number in
    let ps : List (Option NumberedThread) = c.args.self.now.places.items in
    let some : is_some (thread_or n (get_or ps (home m n) None) None) ≡ true =
    search arith in
    let at = stands_there n (get_or ps (home m n) None) some in
    let lt : home m n < length ps = search arith in
    search (arith, set_read)

pub returns-clause-number_map : goal.returns-clause-number_map
returns-clause-number_map c = record {
  placed = left_others_placed _ _ _ _ c.args.number c.remove_overflow.ensures c.requires.placed;
  bits = c.requires.bits;
  mask = c.requires.mask;
}
