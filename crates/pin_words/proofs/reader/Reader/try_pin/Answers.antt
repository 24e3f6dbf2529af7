use Rattle.std.proofs.Common.{arith}
use Rattle.pin_words.proofs.Cited.{rules, ◌≡◌, ◌<◌, ℕ, Id, decoded, ReaderView, verdict_of, reader_looked, TellsReader}
use Rattle.pin_words.specs.declared.fault.Verdict.TheVariants as verdict
use Rattle.pin_words.proofs.Holdings.{got-held}
use Rattle.pin_words.proofs.Stepping.{load-step, pin-step, hold-after}
use Rattle.pin_words.proofs.reader.Reader.try_pin.Goals as goal

pub returns-then-seen-found-clause-held : goal.returns-then-seen-found-clause-held
returns-then-seen-found-clause-held c = search (arith, got-held)

pub returns-then-seen-found-clause-pinned : goal.returns-then-seen-found-clause-pinned
returns-then-seen-found-clause-pinned c =
    let r : ReaderView = c.args.self.now.view in
    let id : Id = c.args.id in
    let n : ℕ = c.look-found.result in
    let inside : id.slot < r.shape.slots = search rules in
    let go : verdict_of r.shape.max_pins id (decoded n) ≡ verdict.Go = search rules in
    let looked : c.look-found.new.self.view ≡ reader_looked r id.slot n = c.look-found.ensures.view in
    let told : TellsReader (reader_looked r id.slot n) id.slot n =
    rw (looked, c.if-seen-found.true) at c.take-seen.ensures.tells in record {
      word_found = n;
      loads = load-step r id.slot n inside c.look-found.ensures.tells;
      pins = pin-step (reader_looked r id.slot n) id n inside go told;
      now = rw looked at (c.take-seen.ensures.won c.if-seen-found.true);
    }

pub returns-then-seen-found-clause-hold : goal.returns-then-seen-found-clause-hold
returns-then-seen-found-clause-hold c = let did = returns-then-seen-found-clause-pinned c in
    rw did.now (hold-after _ c.args.id did.word_found did.pins)
