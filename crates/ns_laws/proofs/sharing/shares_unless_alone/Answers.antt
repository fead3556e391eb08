use Rattle.ns_laws.proofs.Scope.Unshared.{shares_unless_alone}
use Rattle.ns_laws.proofs.sharing.shares_unless_alone.Goals as goal

pub returns : goal.returns
returns c = shares_unless_alone
