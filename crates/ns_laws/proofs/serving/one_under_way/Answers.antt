use Rattle.ns_laws.proofs.Service.Lists.{one_under_way}
use Rattle.ns_laws.proofs.serving.one_under_way.Goals as goal

pub returns : goal.returns
returns c = one_under_way
