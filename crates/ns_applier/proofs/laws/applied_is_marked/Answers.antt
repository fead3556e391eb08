use Rattle.ns_applier.proofs.Marking.{applied_is_marked}
use Rattle.ns_applier.proofs.laws.applied_is_marked.Goals as goal

pub returns : goal.returns
returns c = applied_is_marked
