use Rattle.std.proofs.Common.{rules}
use Rattle.pin_words.proofs.LawOfSteps.{one-world, law-load, law-pin, law-release, law-read, law-publish, law-close, law-reclaim, law-reclaim-failed, law-store, law-held, law-noted, law-gives}
use Rattle.pin_words.proofs.Reseated.{joins_shown, blanks-shown, parts-shown}
use Rattle.pin_words.proofs.Calls.{stale-answers}
use Rattle.pin_words.proofs.Losing.{lost-onward}
use Rattle.pin_words.proofs.Stepping.{tries-pin}
use Rattle.pin_words.proofs.law.law_of_atomic_steps.Goals as goal

pub returns : goal.returns
returns c = record {
  safe = λ k s w sh. sh.safe;
  gives_blank = λ k s w j v sh seated. blanks-shown k s w sh j v seated;
  joins = search (rules, joins_shown);
  parts = λ k s w j kv r sh seated. parts-shown k s w sh j kv r seated;
  one_world = one-world;
  load = law-load;
  pin = law-pin;
  release = law-release;
  publish = law-publish;
  close = law-close;
  reclaim = law-reclaim;
  reclaim_failed = law-reclaim-failed;
  store_descr = law-store;
  read_descr = law-read;
  gives = law-gives;
  held = law-held;
  noted = law-noted;
  lost = lost-onward;
  stale = stale-answers;
  pinned = tries-pin;
}
