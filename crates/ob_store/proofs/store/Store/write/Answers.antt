use Rattle.ob_store.proofs.Cited.{w64, to_le_bytes, on_ok_weaker, parts_of, objects_text, processes_text, tables_text, waits_text, limits_text, six_behind}
use Rattle.ob_store.proofs.SavedStoreLaws.{store_again}
use Rattle.ob_store.proofs.store.Store.write.Goals as goal

pub returns-clause-text : goal.returns-clause-text
returns-clause-text g c =
    let p = c.self.inside.parts in
    on_ok_weaker c.write-6.result (λ t. rw (← c.self.view_is)
    (six_behind c.args.out.now.items (limits_text p.limits) (to_le_bytes w64 p.waits.clock) (processes_text p.processes)
    (tables_text p.tables.tables) (waits_text p.waits.waits) (objects_text p.limits.reuse p.objects)
    c.write.new.out.items c.write-2.new.out.items c.write-3.new.out.items c.write-4.new.out.items
    c.write-5.new.out.items c.write-6.new.out.items c.in_ok-write.ensures.text
    (rw c.clock.ensures.moment at c.in_ok-write-2.ensures.text)
    c.in_ok-write-3.ensures.text c.in_ok-write-4.ensures.text c.in_ok-write-5.ensures.text t))
    c.write-6.ensures.text

pub returns-clause-again : goal.returns-clause-again
returns-clause-again g c =
    let p = parts_of c.self.inside.parts in
    on_ok_weaker c.write-6.result (λ fits. rw (← c.self.view_is)
    (store_again p c.self.invariant c.kept.ensures c.in_ok-write-3.ensures.fits c.in_ok-write-4.ensures.fits
    c.in_ok-write-5.ensures.fits (fits p.waits.clock c.self.invariant.sound.formed)
    (rw c.clock.ensures.moment at c.clock.ensures.last)))
    c.write-6.ensures.fits
