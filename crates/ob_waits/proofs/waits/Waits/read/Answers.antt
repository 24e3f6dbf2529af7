use Rattle.ob_waits.proofs.Cited.{◌≡◌, ◌∙◌, ap, false, map, refl, sym, true, Value, rows_within, numbered_parts}
use Rattle.ob_codec.specs.declared.fault.ReadFault.TheVariants.{Text}
use Rattle.std.proofs.lemmas.Result.{err_from_is_err_and}
use Rattle.ob_waits.proofs.ReadLaws.{none_read, read_within, rows_fail, rows_read}
use Rattle.ob_waits.proofs.RowLaws.{too_many}
use Rattle.ob_waits.proofs.waits.Waits.read.Goals as goal

pub returns-then-last-waits-clause-read : goal.returns-then-last-waits-clause-read
returns-then-last-waits-clause-read c =
    let a = c.args in
    let rows = c.in_ok-rows.rows.items in
    rows_fail a.waits a.clock a.threads a.slots c.in_ok-last.last a.from.now c.four.new.self c.read_rows.new.from rows
    c.in_ok-last.ensures c.in_ok-rows.ensures (Text Value) (none_read (rows_within a.threads a.slots rows) _
    (too_many a.waits a.clock c.in_ok-last.last (map numbered_parts rows) c.if-last-waits.true))

pub returns-then-not-rows_within-clause-read : goal.returns-then-not-rows_within-clause-read
returns-then-not-rows_within-clause-read c =
    let a = c.args in
    let rows = c.in_ok-rows.rows.items in
    let beyond : rows_within a.threads a.slots rows ≡ false = ap (rows_within a.threads a.slots)
    (sym c.as_slice.ensures.value) ∙ sym c.rows_within.ensures ∙ c.if-not-rows_within.true in
    rows_fail a.waits a.clock a.threads a.slots c.in_ok-last.last a.from.now c.four.new.self c.read_rows.new.from rows
    c.in_ok-last.ensures c.in_ok-rows.ensures (Text Value) (rw beyond refl)

pub returns-in_err-put_all-clause-read : goal.returns-in_err-put_all-clause-read
returns-in_err-put_all-clause-read c =
    let a = c.args in
    let rows = c.in_ok-rows.rows.items in
    let below : rows_within a.threads a.slots rows ≡ true = ap (rows_within a.threads a.slots)
    (sym c.as_slice.ensures.value) ∙ sym c.rows_within.ensures ∙ c.if-not-rows_within.false in
    let fails = rw (c.as_slice-2.ensures.value, c.pass_to.ensures, c.new-read.ensures) at c.in_err-put_all.ensures in
    let p = err_from_is_err_and c.from_residual-in_err-put_all.result c.from_residual-in_err-put_all.ensures.1 in
    rw (p.1, p.2) (rows_fail a.waits a.clock a.threads a.slots c.in_ok-last.last a.from.now c.four.new.self
    c.read_rows.new.from rows c.in_ok-last.ensures c.in_ok-rows.ensures c.in_err-put_all.field-0.0 (rw below fails))

pub returns-clause-read : goal.returns-clause-read
returns-clause-read c =
    let a = c.args in
    let rows = c.in_ok-rows.rows.items in
    let below : rows_within a.threads a.slots rows ≡ true = ap (rows_within a.threads a.slots)
    (sym c.as_slice.ensures.value) ∙ sym c.rows_within.ensures ∙ c.if-not-rows_within.false in
    let is = rw (c.as_slice-2.ensures.value, c.pass_to.ensures, c.new-read.ensures) at c.in_ok-put_all.ensures in
    let total = rows_read a.waits a.clock a.threads a.slots c.in_ok-last.last a.from.now c.four.new.self
    c.read_rows.new.from rows c.in_ok-last.ensures c.in_ok-rows.ensures in
    rw (total, below, is) refl

pub returns-clause-limit : goal.returns-clause-limit
returns-clause-limit c = let a = c.args in (read_within a.waits a.clock a.threads a.slots _ _ _ (returns-clause-read c)).0

pub returns-clause-clock : goal.returns-clause-clock
returns-clause-clock c = let a = c.args in (read_within a.waits a.clock a.threads a.slots _ _ _ (returns-clause-read c)).1

pub returns-clause-within : goal.returns-clause-within
returns-clause-within c = let a = c.args in (read_within a.waits a.clock a.threads a.slots _ _ _ (returns-clause-read c)).2
