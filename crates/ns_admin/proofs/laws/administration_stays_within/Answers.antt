use Rattle.ns_admin.proofs.Concluding.{administration_stays_within}
use Rattle.ns_admin.proofs.laws.administration_stays_within.Goals as goal

pub returns : goal.returns
returns c = administration_stays_within
