use Rattle.ns_jobs.proofs.Past.{counting_is}
use Rattle.ns_jobs.proofs.laws.counting_is_settling.Goals as goal

pub returns : goal.returns
returns c = counting_is
