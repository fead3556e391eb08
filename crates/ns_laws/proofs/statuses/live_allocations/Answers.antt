use Rattle.ns_laws.proofs.Meanings.{live_allocations}
use Rattle.ns_laws.proofs.statuses.live_allocations.Goals as goal

pub returns : goal.returns
returns c = live_allocations
