use Rattle.std.proofs.Common.{arith, ◌∙◌, sym, ap, List, [], ◌∷◌, ◌++◌, Option, Some}
use Rattle.ob_tables.specs.declared.entry.Entry.{Entry}
use Rattle.ob_tables.specs.Table.{with_entry}
use Rattle.ob_tables.proofs.Places.{least_place, place_is_free, placed_at, placed_last, kept_set}
use Rattle.ob_tables.proofs.table.Table.place.Goals as goal

pub returns-then-place-limit-clause-refusal : goal.returns-then-place-limit-clause-refusal
returns-then-place-limit-clause-refusal c = search (arith, least_place)

pub take-requires : goal.take-requires
take-requires c = search (arith, place_is_free)

pub invariant_of-self : goal.invariant_of-self
invariant_of-self c = search (arith, kept_set)

pub returns-then-place-len-clause-value : goal.returns-then-place-len-clause-value
returns-then-place-len-clause-value c = search (arith, least_place)

pub returns-then-place-len-clause-ok : goal.returns-then-place-len-clause-ok
returns-then-place-len-clause-ok c = search (arith, placed_at)

pub returns-then-place-len-clause-room : goal.returns-then-place-len-clause-room
returns-then-place-len-clause-room c = search (arith, least_place)

pub returns-in_default-clause-refusal : goal.returns-in_default-clause-refusal
returns-in_default-clause-refusal c = search (arith, least_place)

pub returns-in_default-clause-reuses : goal.returns-in_default-clause-reuses
returns-in_default-clause-reuses c = search (arith, least_place)

pub returns-clause-value : goal.returns-clause-value
returns-clause-value c = search (arith, least_place)

pub returns-clause-ok : goal.returns-clause-ok
returns-clause-ok c =
    c.in-Ok.ensures.ok ∙ ap (λ (t : List (Option Entry)). t ++ Some c.args.entry ∷ []) (sym c.self.view_is)
    ∙ placed_last c.self.inside.free c.self.inside.places.items c.least-place.result c.args.entry c.self.invariant
    c.least-place.ensures.value (omega arith) c.least-place.ensures.bound
    ∙ ap (λ (t : List (Option Entry)). with_entry t c.args.entry) c.self.view_is

pub returns-clause-room : goal.returns-clause-room
returns-clause-room c = search (arith, least_place)
