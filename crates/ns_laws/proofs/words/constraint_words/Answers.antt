use Rattle.ns_laws.proofs.Texts.Wording.{constraint_words}
use Rattle.ns_laws.proofs.words.constraint_words.Goals as goal

pub returns : goal.returns
returns c = constraint_words
