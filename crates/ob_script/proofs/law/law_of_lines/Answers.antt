use Rattle.ob_script.proofs.Added.{line_is_added}
use Rattle.ob_script.proofs.Alike.{answered_alike}
use Rattle.ob_script.proofs.Lineless.{lineless_is_refused}
use Rattle.ob_script.proofs.ReadBack.{line_is_read}
use Rattle.ob_script.proofs.law.law_of_lines.Goals as goal

pub returns : goal.returns
returns c = record { read = line_is_read; alike = answered_alike; lineless = lineless_is_refused; added = line_is_added }
