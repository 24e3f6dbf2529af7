use Rattle.pin_words.proofs.Cited.{rules, ap, ◌<◌, tally, same_id, reader_of, ◌≡◌, Some, ReaderView}
use Rattle.pin_words.proofs.Calls.{notes-there}
use Rattle.pin_words.proofs.Owned.{key_at, descr_at}
use Rattle.pin_core.specs.Descrs as descr_code
use Rattle.pin_words.proofs.Stepping.{descr-step}
use Rattle.pin_words.proofs.reader.Reader.descr.Goals as goal

pub load-word-requires : goal.load-word-requires
load-word-requires c = let have : 0 < tally (same_id c.args.id) (reader_of c.self.inside.seat.me.0).held = search rules
    in
    let lt : c.args.id.slot < c.self.inside.shape.slots = c.self.inside.inside c.args.id (search rules) in (
      search rules,
      descr_at c.self.inside.shape _ _ c.deref.ensures c.self.inside.wide c.self.inside.within c.descr_place.ensures lt,
      notes-there _ _ _ _ _ (reader_of c.self.inside.seat.me.0) c.args.id c.self.inside.shape c.descr_place.ensures
          (key_at c.deref.ensures c.self.inside.keyed) (ap (λ m. m.0.reader) c.self.inside.reads) lt have,
    )

pub returns-clause-steps : goal.returns-clause-steps
returns-clause-steps c = let r : ReaderView = reader_of c.self.inside.seat.me.0 in
    let have : 0 < tally (same_id c.args.id) r.held = search rules in
    let did = c.load-word.ensures.2 r c.args.id (ap (λ m. m.0.reader) c.self.inside.reads) have c.descr_place.ensures in
    let is : descr_code.decoded c.load-word.result ≡ Some c.in-Some.descr = search rules in
    rw (← c.self.view_is) (descr-step r c.args.id c.load-word.result c.in-Some.descr have is did.3)
