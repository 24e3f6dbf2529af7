use Rattle.pin_core.proofs.Openings.{opened-safe, opening-is}
use Rattle.pin_core.proofs.Schedules.{opening-safe, safe_kept, kept_while_held, onward, publish_alone, read_shown}
use Rattle.pin_core.proofs.law.law_of_worlds.Goals as goal

pub returns-clause-opening : goal.returns-clause-opening
returns-clause-opening c = opening-safe

pub returns-clause-safe : goal.returns-clause-safe
returns-clause-safe c = safe_kept

pub returns-clause-kept : goal.returns-clause-kept
returns-clause-kept c = kept_while_held

pub returns-clause-onward : goal.returns-clause-onward
returns-clause-onward c w e safe can s = onward w e s can

pub returns-clause-alone : goal.returns-clause-alone
returns-clause-alone c = publish_alone

pub returns-clause-shown : goal.returns-clause-shown
returns-clause-shown c = read_shown

pub returns-clause-opened : goal.returns-clause-opened
returns-clause-opened c = opened-safe

pub returns-clause-fresh : goal.returns-clause-fresh
returns-clause-fresh c = opening-is
