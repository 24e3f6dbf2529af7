use Rattle.pin_core.proofs.Schedules.{reached-safe, kept_while_held, publish_alone, read_shown}
use Rattle.pin_core.proofs.law.law_of_schedules.Goals as goal

pub returns-clause-safe : goal.returns-clause-safe
returns-clause-safe c = reached-safe

pub returns-clause-kept : goal.returns-clause-kept
returns-clause-kept c k es h t some = kept_while_held _ (reached-safe k es h) t some

pub returns-clause-alone : goal.returns-clause-alone
returns-clause-alone c k es s h free = publish_alone _ (reached-safe k es h) s free

pub returns-clause-shown : goal.returns-clause-shown
returns-clause-shown c k es r id d h seen = read_shown _ (reached-safe k es h) r id d seen
