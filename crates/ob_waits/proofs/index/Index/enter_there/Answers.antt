use Rattle.ob_waits.proofs.Cited.{[], rules, arith, get_or_read, AreOrdered}
use Rattle.ob_waits.proofs.IndexLaws.{lists_changed, keeps_changed, stays_changed}
use Rattle.ob_waits.proofs.index.Index.enter_there.Goals as goal

pub enter-requires : goal.enter-requires
enter-requires c =
    let read = get_or_read c.self.inside.lists.items c.args.slot c.index_mut-numbers.result.now (search rules)
    c.index_mut-numbers.ensures.value [] in
    let all : AreOrdered c.args.number c.self.inside.lists.items = search arith in
    search arith

pub returns-clause-ordered : goal.returns-clause-ordered
returns-clause-ordered c =
    search (arith, lists_changed)

pub returns-clause-keeps : goal.returns-clause-keeps
returns-clause-keeps c = search (arith, keeps_changed, get_or_read)

pub returns-clause-stays : goal.returns-clause-stays
returns-clause-stays c = search (arith, stays_changed)
