use Rattle.ns_laws.proofs.Calling.{foreign_plan_only_so}
use Rattle.ns_laws.proofs.calls.foreign_plan_only_so.Goals as goal

pub returns : goal.returns
returns c = foreign_plan_only_so
