use Rattle.ns_laws.proofs.Scope.Reach.{apart_so}
use Rattle.ns_laws.proofs.reach.apart_so.Goals as goal

pub returns : goal.returns
returns c = apart_so
