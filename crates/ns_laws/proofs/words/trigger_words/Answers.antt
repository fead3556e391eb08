use Rattle.ns_laws.proofs.Texts.Wording.{trigger_words}
use Rattle.ns_laws.proofs.words.trigger_words.Goals as goal

pub returns : goal.returns
returns c = trigger_words
