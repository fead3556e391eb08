use Rattle.ns_admin.proofs.Concluding.{administration_makes}
use Rattle.ns_admin.proofs.laws.administration_makes.Goals as goal

pub returns : goal.returns
returns c = administration_makes
