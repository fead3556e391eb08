use Rattle.ns_laws.proofs.Scope.Sharing.{apart_quotas_are_its_own}
use Rattle.ns_laws.proofs.sharing.apart_quotas_are_its_own.Goals as goal

pub returns : goal.returns
returns c = apart_quotas_are_its_own
