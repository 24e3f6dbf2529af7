use Rattle.std.proofs.Common.{arith}
use Rattle.ob_store.proofs.LabelLaws.{name_here}
use Rattle.ob_store.proofs.HeaderLaws.{header_of}
use Rattle.ob_store.proofs.object_headers.ObjectHeaders.name.Goals as goal

pub index-name-requires : goal.index-name-requires
index-name-requires c =
    omega (arith, c.self.invariant.labelled c.args.slot (header_of _ _ _ c.args.slot c.self.view_is c.requires), c.self.invariant.named)

pub index-requires : goal.index-requires
index-requires c = omega (arith, c.self.invariant.labelled c.args.slot (header_of _ _ _ c.args.slot c.self.view_is c.requires))

pub returns-then-index : goal.returns-then-index
returns-then-index c =
    let i = c.self.inside in
    let within = c.self.invariant.labelled c.args.slot (header_of _ _ _ c.args.slot c.self.view_is c.requires) in
    rw (← c.self.view_is, c.as_ref.ensures.value) (rw c.if-index.true at (name_here i.arena.bodies i.labels.items i.names.items c.args.slot _ _
    (rw (← c.self.view_is) at c.requires) c.index.ensures c.index-name.ensures within (omega (arith, within, c.self.invariant.named))))

pub returns-else-index : goal.returns-else-index
returns-else-index c =
    let i = c.self.inside in
    let within = c.self.invariant.labelled c.args.slot (header_of _ _ _ c.args.slot c.self.view_is c.requires) in
    rw (← c.self.view_is) (rw c.if-index.false at (name_here i.arena.bodies i.labels.items i.names.items c.args.slot _ _
    (rw (← c.self.view_is) at c.requires) c.index.ensures c.index-name.ensures within (omega (arith, within, c.self.invariant.named))))
