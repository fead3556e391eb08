use Rattle.ns_renewal.proofs.Stopped.{rows_before}
use Rattle.ns_renewal.proofs.laws.rows_before_stops.Goals as goal

pub returns : goal.returns
returns c = rows_before
