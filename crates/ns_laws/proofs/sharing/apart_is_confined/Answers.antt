use Rattle.ns_laws.proofs.Scope.Sharing.{apart_is_confined}
use Rattle.ns_laws.proofs.sharing.apart_is_confined.Goals as goal

pub returns : goal.returns
returns c = apart_is_confined
