use Rattle.ob_codec.proofs.SealLaws.{loaded_again, loaded_takes}
use Rattle.ob_codec.proofs.law.law_of_sealed_texts.Goals as goal

pub returns-clause-again : goal.returns-clause-again
returns-clause-again g c = loaded_again g.met.T.Spelled.codec

pub returns-clause-takes : goal.returns-clause-takes
returns-clause-takes g c = loaded_takes g.met.T.Spelled.codec
