use Rattle.ns_laws.proofs.Endings.Laws.{comes_only_by_plan}
use Rattle.ns_laws.proofs.ending.comes_only_by_plan.Goals as goal

pub returns : goal.returns
returns c = comes_only_by_plan
