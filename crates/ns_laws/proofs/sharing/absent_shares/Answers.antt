use Rattle.ns_laws.proofs.Scope.Unshared.{absent_shares}
use Rattle.ns_laws.proofs.sharing.absent_shares.Goals as goal

pub returns : goal.returns
returns c = absent_shares
