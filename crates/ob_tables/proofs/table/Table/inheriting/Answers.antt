use Rattle.ob_codec.proofs.AtPlace.{at_place}
use Rattle.std.proofs.Common.{arith, ◌≡◌, ◌<◌, ◌∙◌, sym, ap, ◌+◌, ◌-◌, List, [], ◌∷◌, ◌++◌, Option, true, map, take, length, length-set, replicate, length-take-le}
use Rattle.std.specs.Prelude.{is_some}
use Rattle.std.proofs.Math.Seq.{take-suc-set}
use Rattle.ob_tables.specs.declared.entry.Entry.{Entry}
use Rattle.ob_tables.specs.Table.{at}
use Rattle.ob_tables.specs.Inheritance.{inheritable}
use Rattle.ob_tables.proofs.Inheriting.{copied_more}
use Rattle.ob_tables.proofs.Places.{next_taken, one_more_place}
use Rattle.ob_tables.proofs.table.Table.inheriting.Goals as goal

pub inherit_at-requires-clause-held : goal.inherit_at-requires-clause-held
inherit_at-requires-clause-held c =
    let i = c.loop-i.i in
    let old = c.loop-i.copies.items in
    next_taken c.loop-i.free (take i old) i c.inherited_len-len.result (omega arith)
    (length-take-le i old (omega arith)) c.loop-i.invariant.numbers

pub loop-i-preserved : goal.loop-i-preserved
loop-i-preserved c =
    let i = c.loop-i.i in
    let len = c.inherited_len-len.result in
    let old = c.loop-i.copies.items in
    let new = c.inherit_at.new.copies.items in
    let base = take len c.args.places.now in
    let copy = inheritable (at old i) in
    let long : length base ≡ len = grind (arith, at_place) in
    let within : i < length old = search arith in
    let taken : take (i + 1) new ≡ take i old ++ copy ∷ [] =
    search (arith, take-suc-set) in
    record {
      length_is = ap length c.inherit_at.ensures.entry ∙ length-set old i copy ∙ c.loop-i.invariant.length_is;
      so_far = search (arith, copied_more);
      numbers = one_more_place c.loop-i.free c.inherit_at.new.free (take i old) copy i len (omega arith)
          (length-take-le i old (omega arith)) c.loop-i.invariant.numbers c.inherit_at.ensures.number
          ∙ ap (λ (t : List (Option Entry)). map is_some t ++ replicate (len - (i + 1)) true) (sym taken);
    }
