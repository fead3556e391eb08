use Rattle.ns_broker.proofs.Submitted.{submit_fits}
use Rattle.ns_broker.proofs.laws.submit_passes_nothing.Goals as goal

pub returns : goal.returns
returns c = submit_fits
