use Rattle.ns_schedule.proofs.Kept.{kept_fits}
use Rattle.ns_schedule.proofs.laws.kept_fits.Goals as goal

pub returns : goal.returns
returns c = kept_fits
