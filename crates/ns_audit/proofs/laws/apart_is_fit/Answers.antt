use Rattle.ns_audit.proofs.Alone.Bordering.{fit_apart}
use Rattle.ns_audit.proofs.laws.apart_is_fit.Goals as goal

pub returns : goal.returns
returns c = fit_apart
