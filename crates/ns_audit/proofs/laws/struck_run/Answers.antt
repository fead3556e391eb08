use Rattle.ns_audit.proofs.Alone.Running.{struck_run}
use Rattle.ns_audit.proofs.laws.struck_run.Goals as goal

pub returns : goal.returns
returns c = struck_run
