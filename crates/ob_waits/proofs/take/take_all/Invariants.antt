use Rattle.ob_waits.proofs.Cited.{◌≡◌, ◌<◌, ◌≤◌, ℕ, None, length, take, drop, get_or, list_any, nowhere, is_abandoned, with_all_acquired}
use Rattle.ob_waits.proofs.take.take_all.Given as goal

abbrev pub invariant-loop-id : goal.invariant-loop-id
invariant-loop-id g l =
    let now = g.B.Bodies.objects l.bodies in
    let first = g.B.Bodies.objects l.fn.bodies in
    record {
      same : with_all_acquired l.thread now.bodies (drop l.id-index l.ids)
          ≡ with_all_acquired l.thread first.bodies l.ids;
      handles : now.handles ≡ first.handles;
      blocks : now.blocks ≡ first.blocks;
      rest : g.B.Bodies.rest l.bodies ≡ g.B.Bodies.rest l.fn.bodies;
      abandoned : l.was_abandoned ≡ list_any (is_abandoned first.bodies) (take l.id-index l.ids);
      later : (j : ℕ) → l.id-index ≤ j → j < length l.ids
          → get_or now.bodies (get_or l.ids j nowhere).slot None
          ≡ get_or first.bodies (get_or l.ids j nowhere).slot None;
    }
