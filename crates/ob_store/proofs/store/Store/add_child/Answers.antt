use Rattle.ob_store.proofs.Cited.{◌∙◌}
use Rattle.ob_store.proofs.ChildLaws.{child_read, child_within, kept_child, settled_child, inherited_live, inherited_few}
use Rattle.ob_store.proofs.KeptLaws.{whole_kept}
use Rattle.ob_store.proofs.store.Store.add_child.Goals as goal

pub entries-requires : goal.entries-requires
entries-requires g c =
    child_within _ c.self.invariant c.args.parent _ c.self.view_is c.requires.parent c.requires.processes c.requires.threads _ _ c.in_ok-child.ensures.number
    c.in_ok-child.ensures.table

pub handles_came-requires-clause-live : goal.handles_came-requires-clause-live
handles_came-requires-clause-live g c =
    inherited_live _ c.self.invariant c.args.parent _ c.self.view_is c.requires.parent c.requires.processes c.requires.threads c.kept.ensures _
    (child_read _ c.self.invariant c.args.parent _ c.self.view_is c.requires.parent c.requires.processes c.requires.threads _ _ _
    c.entries.ensures.places c.in_ok-child.ensures.number c.in_ok-child.ensures.table)

pub handles_came-requires-clause-room : goal.handles_came-requires-clause-room
handles_came-requires-clause-room g c =
    inherited_few _ c.self.invariant c.args.parent _ c.self.view_is c.requires.parent c.requires.processes c.requires.threads c.in_ok-child.ensures.bounded

pub invariant_of-self-2 : goal.invariant_of-self-2
invariant_of-self-2 g c =
    let read = child_read _ c.self.invariant c.args.parent _ c.self.view_is c.requires.parent c.requires.processes c.requires.threads _ _ _
    c.entries.ensures.places c.in_ok-child.ensures.number c.in_ok-child.ensures.table in
    rw (c.in_ok-child.ensures.ok, c.in_ok-child.ensures.table, c.handles_came.ensures, read)
    (kept_child _ c.self.invariant c.args.parent _ c.self.view_is c.requires.parent c.requires.processes c.requires.threads c.args.session)

pub returns-clause-ok : goal.returns-clause-ok
returns-clause-ok g c =
    let read = child_read _ c.self.invariant c.args.parent _ c.self.view_is c.requires.parent c.requires.processes c.requires.threads _ _ _
    c.entries.ensures.places c.in_ok-child.ensures.number c.in_ok-child.ensures.table in
    rw (← c.self.view_is) (whole_kept _ (invariant_of-self-2 g c) c.kept-2.ensures
    ∙ rw (c.in_ok-child.ensures.ok, c.in_ok-child.ensures.table, c.handles_came.ensures, read)
    (settled_child _ c.self.invariant c.args.parent _ c.self.view_is c.requires.parent c.requires.processes c.requires.threads c.args.session))
