use Rattle.ns_laws.proofs.Texts.Wording.{evaluation_words}
use Rattle.ns_laws.proofs.words.evaluation_words.Goals as goal

pub returns : goal.returns
returns c = evaluation_words
