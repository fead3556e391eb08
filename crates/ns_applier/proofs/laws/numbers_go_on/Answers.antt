use Rattle.ns_applier.proofs.Whole.{numbers_go_on}
use Rattle.ns_applier.proofs.laws.numbers_go_on.Goals as goal

pub returns : goal.returns
returns c = numbers_go_on
