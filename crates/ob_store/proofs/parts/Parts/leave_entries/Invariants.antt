use Rattle.ob_store.proofs.Cited.{◌≡◌, KeeperState, IsSound, parts_of, State, IsEnding, tables_left, with_left}
use Rattle.ob_store.proofs.parts.Parts.leave_entries.Given as goal

abbrev pub invariant-loop-place : goal.invariant-loop-place
invariant-loop-place g l = record {
  sound : IsSound (with_left (parts_of l.self) l.process l.places l.place);
  carries : (first : KeeperState) (s : State) → IsEnding first (with_left (parts_of l.fn.self) l.process l.places 0) s
      → IsEnding first (with_left (parts_of l.self) l.process l.places l.place)
      (record s { tables = tables_left l.fn.self.tables.tables l.process l.places l.place });
  rest : l.self ≡ record l.fn.self { objects = l.self.objects; names = l.self.names };
}
