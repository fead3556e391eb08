use Rattle.ns_laws.proofs.Texts.Wording.{allocation_words}
use Rattle.ns_laws.proofs.words.allocation_words.Goals as goal

pub returns : goal.returns
returns c = allocation_words
