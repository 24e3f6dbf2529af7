use Rattle.ob_codec.proofs.AtPlace.{at_place}
use Rattle.std.proofs.Common.{arith, ◌≡◌, ◌<◌, ap, subst, length, Err, inl, inr}
use Rattle.std.proofs.lemmas.List.{get_or_read}
use Rattle.ob_tables.specs.Counts.{entries_in}
use Rattle.ob_tables.specs.Tables.{table_of, HandleTables}
use Rattle.ob_tables.proofs.LimitLaws.{full_at, room_at, length-with_entry}
use Rattle.ob_tables.proofs.tables.Tables.place.Goals as goal

pub invariant_of-self : goal.invariant_of-self
invariant_of-self c = grind (arith, at_place, length-with_entry, get_or_read)

pub returns-in-Ok-clause-room : goal.returns-in-Ok-clause-room
returns-in-Ok-clause-room c =
    let i = c.self.inside in
    let lt : c.args.process < length i.tables.items =
    search arith in
    rw (← c.self.view_is) (search (arith, room_at, c.in-Ok.ensures.room))

pub returns-in-Ok-clause-limit : goal.returns-in-Ok-clause-limit
returns-in-Ok-clause-limit c = search (arith, returns-in-Ok-clause-room)

pub returns-in-Err-clause-limit : goal.returns-in-Err-clause-limit
returns-in-Err-clause-limit c =
    let i = c.self.inside in
    let lt : c.args.process < length i.tables.items =
    search arith in
    elim c.in-Err.ensures.refusal [
      | inl limit ↦
          let full : entries_in (table_of i.tables.items c.args.process) ≡ i.handles =
          search (arith, full_at) in (
            λ _. subst (λ (s : HandleTables). entries_in (table_of s.tables c.args.process)
                ≡ s.handle_limit) c.self.view_is full,
            λ _. ap Err limit.0,
          )
      | inr memory ↦
          let below : entries_in (table_of i.tables.items c.args.process) < i.handles =
          search (arith, room_at) in
          let room = subst (λ (s : HandleTables). entries_in (table_of s.tables c.args.process)
          < s.handle_limit) c.self.view_is below in
          (λ same. cc, λ full. absurd (omega arith))
    ]
