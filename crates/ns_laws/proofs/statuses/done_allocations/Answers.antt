use Rattle.ns_laws.proofs.Meanings.{done_allocations}
use Rattle.ns_laws.proofs.statuses.done_allocations.Goals as goal

pub returns : goal.returns
returns c = done_allocations
