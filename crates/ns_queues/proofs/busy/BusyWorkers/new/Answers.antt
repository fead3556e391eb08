use Rattle.ns_queues.specs.Busy.{holds_name}
use Rattle.ns_queues.proofs.BusyNames.{nothing}
use Rattle.ns_queues.proofs.busy.BusyWorkers.new.Goals as goal

pub returns : goal.returns
returns c = nothing holds_name c.new.result c.new.ensures
