use Rattle.ns_plan.proofs.Reader.{reading_decides}
use Rattle.ns_plan.proofs.laws.reading_decides.Goals as goal

pub returns : goal.returns
returns c = reading_decides
