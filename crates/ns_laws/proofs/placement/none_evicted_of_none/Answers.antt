use Rattle.ns_laws.proofs.Choices.Placement.{none_evicted_of_none}
use Rattle.ns_laws.proofs.placement.none_evicted_of_none.Goals as goal

pub returns : goal.returns
returns c = none_evicted_of_none
