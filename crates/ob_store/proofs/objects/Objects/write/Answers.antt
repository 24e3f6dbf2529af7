use Rattle.ob_store.proofs.Cited.{arith, map, range_with_len, cases_lt, length-map-range_with_len, on_ok_weaker, slot_saved, slots_saved, slot_text, used, list_behind}
use Rattle.ob_store.proofs.FittingLaws.{all_fit, fresh_fits}
use Rattle.ob_store.proofs.objects.Objects.write.Goals as goal

pub returns-then-not-short-clause-fits : goal.returns-then-not-short-clause-fits
returns-then-not-short-clause-fits g c = search (arith, on_ok_weaker, all_fit)

pub returns-clause-text : goal.returns-clause-text
returns-clause-text g c =
    let s = c.args.self.now in
    let rows = c.used-rows.result in
    rw c.if-not-short.false (on_ok_weaker c.write_rows-2.result
    (λ t. list_behind slot_text c.args.out.now.items c.write.new.out.items c.write_rows-2.new.out.items rows
    (map (slot_saved s) (range_with_len 0 rows)) (used (slots_saved s)) c.in_ok-write.ensures.text t
    c.used-rows.ensures.value (length-map-range_with_len (slot_saved s) 0 rows))
    c.write_rows-2.ensures.text)

pub returns-clause-fits : goal.returns-clause-fits
returns-clause-fits g c = search (arith, on_ok_weaker, all_fit, fresh_fits, cases_lt)
