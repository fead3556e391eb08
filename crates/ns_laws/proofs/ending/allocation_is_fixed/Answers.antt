use Rattle.ns_laws.proofs.Endings.Laws.{allocation_is_fixed}
use Rattle.ns_laws.proofs.ending.allocation_is_fixed.Goals as goal

pub returns : goal.returns
returns c = allocation_is_fixed
