use Rattle.ns_laws.proofs.Scope.OwnSteps.{other_snap}
use Rattle.ns_laws.proofs.isolation.steps.other_snap.Goals as goal

pub returns : goal.returns
returns c = other_snap
