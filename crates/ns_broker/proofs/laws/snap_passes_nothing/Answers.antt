use Rattle.ns_broker.proofs.Snaps.{snap_fits}
use Rattle.ns_broker.proofs.laws.snap_passes_nothing.Goals as goal

pub returns : goal.returns
returns c = snap_fits
