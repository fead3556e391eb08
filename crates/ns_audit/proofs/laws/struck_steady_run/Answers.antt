use Rattle.ns_audit.proofs.Alone.Running.{struck_steady_run}
use Rattle.ns_audit.proofs.laws.struck_steady_run.Goals as goal

pub returns : goal.returns
returns c = struck_steady_run
