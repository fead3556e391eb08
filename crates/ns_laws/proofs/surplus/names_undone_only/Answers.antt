use Rattle.ns_laws.proofs.Plans.UndoneNodes.{names_undone_only}
use Rattle.ns_laws.proofs.surplus.names_undone_only.Goals as goal

pub returns : goal.returns
returns c = names_undone_only
