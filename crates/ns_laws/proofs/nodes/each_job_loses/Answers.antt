use Rattle.ns_laws.proofs.OrderedLemmas.{each_job_loses}
use Rattle.ns_laws.proofs.nodes.each_job_loses.Goals as goal

pub returns : goal.returns
returns c = each_job_loses
