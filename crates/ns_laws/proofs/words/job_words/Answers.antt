use Rattle.ns_laws.proofs.Texts.Wording.{job_words}
use Rattle.ns_laws.proofs.words.job_words.Goals as goal

pub returns : goal.returns
returns c = job_words
