use Rattle.ns_laws.proofs.Scope.Sharing.{apart_names_its_quotas}
use Rattle.ns_laws.proofs.sharing.apart_names_its_quotas.Goals as goal

pub returns : goal.returns
returns c = apart_names_its_quotas
