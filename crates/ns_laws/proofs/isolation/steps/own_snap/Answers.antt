use Rattle.ns_laws.proofs.Scope.OwnSteps.{own_snap}
use Rattle.ns_laws.proofs.isolation.steps.own_snap.Goals as goal

pub returns : goal.returns
returns c = own_snap
