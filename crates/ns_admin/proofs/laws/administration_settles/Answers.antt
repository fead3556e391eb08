use Rattle.ns_admin.proofs.Concluding.{administration_settles}
use Rattle.ns_admin.proofs.laws.administration_settles.Goals as goal

pub returns : goal.returns
returns c = administration_settles
