use Rattle.ns_work_log.proofs.Attempts.{are_noted}
use Rattle.ns_work_log.proofs.laws.chain_is_noted.Goals as goal

pub returns : goal.returns
returns c = are_noted
