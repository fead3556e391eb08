use Rattle.ns_laws.proofs.Texts.Wording.{node_words}
use Rattle.ns_laws.proofs.words.node_words.Goals as goal

pub returns : goal.returns
returns c = node_words
